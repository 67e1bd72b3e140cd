-- `write_record` meets its contract. The loop's invariant: the masks, the sizes and the entries before `entry` are written. Assumes nothing.
use Prim.Native.Nat.{ℕ}
use native.Mathlib.Omega.{arith}
use borrow.Author.Rules.{rules}
use lib.ListN.{length-set, length-append, length-drop}
use Rattle.record_words.proofs.Records.{record_written}
use Rattle.record_words.proofs.write_record.Goals as goal

pub returns : goal.returns
returns c =
    let written = rw (c.copy_from_slice.ensures.after, c.from.ensures, c.from-2.ensures, c.from-3.ensures) at c.loop-entry.invariant in
    record_written _ _ _ _ _ _ _ _ (search rules) (omega (arith, length-drop {A = ℕ})) (omega arith) (omega (arith, length-set {A = ℕ}, length-append {A = ℕ}, length-drop {A = ℕ})) written
