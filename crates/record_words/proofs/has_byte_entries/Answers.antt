-- `has_byte_entries` meets its contract. The loop's invariant: `bits` is below 256 exactly where the entries so far are. Assumes nothing.
use Prim.Native.Nat.{ℕ, ◌-◌}
use native.Mathlib.Omega.{arith}
use mathlib.Core.Path.{refl}
use lib.ListN.{length, length-take}
use Rattle.lists.specs.Finding.{all_below}
use Rattle.record_words.specs.Words.{shared_word}
use Rattle.record_words.proofs.Bytes.{byte_entries_more}
use Rattle.record_words.proofs.has_byte_entries.Goals as goal

pub loop-word-init : goal.loop-word-init
unfolding all_below
loop-word-init c = refl

pub loop-word-preserved : goal.loop-word-preserved
loop-word-preserved c =
    let words = c.args.words.now in
    byte_entries_more words c.loop-word.bits c.loop-word.word-index (length words - shared_word) (omega (arith, length-take {A = ℕ})) c.loop-word.invariant
