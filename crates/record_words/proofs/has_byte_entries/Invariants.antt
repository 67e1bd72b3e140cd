-- `has_byte_entries` meets its contract. The loop's invariant: `bits` is below 256 exactly where the entries so far are. Assumes nothing.
use mathlib.Core.Path.{◌≡◌}
use lib.Dec.{ltb}
use Rattle.lists.specs.Finding.{all_below}
use Rattle.record_words.specs.Words.{is_byte_entry}
use Rattle.record_words.proofs.has_byte_entries.Given as goal

abbrev pub invariant-loop-word : goal.invariant-loop-word
invariant-loop-word l = ltb l.bits 256 ≡ all_below (is_byte_entry l.words) l.word-index
