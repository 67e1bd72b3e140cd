-- Words whose bits taken together are below 256 are all below it. Assumes nothing.
use Prim.Native.Nat.{ℕ, ◌+◌, ◌<◌}
use Rattle.std.proofs.lemmas.List.{get_or-take, get_or-drop}
use native.Mathlib.Numerals.{add-one}
use native.Mathlib.Omega.{arith}
use mathlib.Core.Path.{◌≡◌}
use mathlib.Core.Bool.{◌&&◌}
use mathlib.Core.List.{List}
use lib.ListN.{get_or, take, drop}
use lib.Bits.{bit_or, or_lt, or_add_and, and_le_l, and_le_r}
use lib.Dec.{ltb}
use Rattle.std.proofs.lemmas.Bool.Decides.{nat_tests}
use Rattle.lists.specs.Finding.{all_below}
use Rattle.record_words.specs.Words.{shared_word, is_byte_entry}

or_byte : (x y : ℕ) → ltb (bit_or x y) 256 ≡ ltb x 256 && ltb y 256
or_byte x y = grind (arith, nat_tests, or_lt 8 x y, or_add_and x y, and_le_l x y, and_le_r x y)

-- One entry more, of the words behind the sizes.
pub byte_entries_more : (words : List ℕ) (bits entry n : ℕ) → entry < n → ltb bits 256 ≡ all_below (is_byte_entry words) entry
    → ltb (bit_or bits (get_or (take n (drop shared_word words)) entry 0)) 256 ≡ all_below (is_byte_entry words) (entry + 1)
unfolding all_below
byte_entries_more words bits entry n h before =
    rw (or_byte, before, get_or-take n (drop shared_word words) entry 0 h, get_or-drop, add-one)
