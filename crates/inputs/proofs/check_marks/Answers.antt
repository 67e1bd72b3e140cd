-- `check_marks` meets its contract: what `position` finds is the lowest cell whose mark is above 1. Assumes nothing.
use Prim.Native.Nat.{ℕ}
use borrow.Author.Rules.{rules}
use mathlib.Core.Bool.{Bool}
use mathlib.Core.List.{List}
use Rattle.std.specs.Prelude.{None, Some}
use lib.Dec.{ltb}
use lib.ListN.{length, get_or}
use Rattle.inputs.specs.Inputs.{mark_refusal, checked_of}
use Rattle.inputs.proofs.Answering.{first_is_lowest}
use Rattle.inputs.proofs.check_marks.Goals as goal

abbrev is_bad : List ℕ → ℕ → Bool
is_bad marks i = ltb 1 (get_or marks i 0)

pub returns-in-Some : goal.returns-in-Some
unfolding mark_refusal checked_of
returns-in-Some c = rw (← first_is_lowest (is_bad c.args.marks.now) (length c.args.marks.now) (Some c.in-Some.cell) (search rules))

pub returns-in-None : goal.returns-in-None
unfolding mark_refusal checked_of
returns-in-None c = rw (← first_is_lowest (is_bad c.args.marks.now) (length c.args.marks.now) None (search rules))
