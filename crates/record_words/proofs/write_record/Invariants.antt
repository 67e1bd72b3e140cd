-- `write_record` meets its contract. The loop's invariant: the masks, the sizes and the entries before `entry` are written. Assumes nothing.
use Prim.Native.Nat.{◌+◌}
use mathlib.Core.Path.{◌≡◌}
use mathlib.Core.List.{◌++◌}
use lib.ListN.{take}
use Rattle.record_words.specs.Words.{shared_word}
use Rattle.record_words.proofs.write_record.Given as goal

abbrev pub invariant-loop-entry : goal.invariant-loop-entry
invariant-loop-entry l = take (shared_word + l.entry) l.words ≡ take shared_word l.initial.words ++ take l.entry l.fn.session.shared
