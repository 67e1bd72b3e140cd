-- `check_counts` meets its contract: what `position` finds is the lowest view whose count is not view 0's. Assumes nothing.
use Prim.Native.Nat.{ℕ}
use borrow.Author.Rules.{rules}
use mathlib.Core.Bool.{Bool, not}
use mathlib.Core.List.{List}
use Rattle.std.specs.Prelude.{None, Some}
use lib.Dec.{eqb}
use lib.ListN.{length, get_or}
use Rattle.inputs.specs.Inputs.{count_refusal, checked_of}
use Rattle.inputs.proofs.Answering.{first_is_lowest}
use Rattle.inputs.proofs.check_counts.Goals as goal

abbrev differs : List ℕ → ℕ → Bool
differs counts v = not (eqb (get_or counts v 0) (get_or counts 0 0))

pub returns-in-Some : goal.returns-in-Some
unfolding count_refusal checked_of
returns-in-Some c = rw (← first_is_lowest (differs c.args.counts.now) (length c.args.counts.now) (Some c.in-Some.view) (search rules))

pub returns-in-None : goal.returns-in-None
unfolding count_refusal checked_of
returns-in-None c = rw (← first_is_lowest (differs c.args.counts.now) (length c.args.counts.now) None (search rules))
