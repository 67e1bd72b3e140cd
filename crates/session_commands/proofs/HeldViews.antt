-- One view more in a camera's mask, by a bit joined by or where it is clear, and one fewer, by exclusive or where it is set. Assumes nothing.
use Prim.Native.Nat.{ℕ, ◌+◌, ◌-◌, ◌*◌, ◌%◌, ◌^◌, ◌<◌}
use native.Mathlib.Omega.{arith}
use mathlib.Core.Path.{◌≡◌, ap, ◌∙◌}
use mathlib.Core.Bool.{true, false}
use mathlib.Core.List.{List}
use lib.ListN.{length, get_or, set}
use lib.Bits.{bit_and, bit_or, bit_xor, xor_add_and}
use lib.Seq.{get_or-set_same, set-get_or, set-set}
use Rattle.std.proofs.lemmas.Bool.Decides.{nat_tests}
use Rattle.std.proofs.lemmas.Nat.{one_shl, or_disjoint}
use Rattle.std.proofs.lemmas.Nat.Bits.{and_pow}
use Rattle.lists.specs.Masks.{in_mask}
use Rattle.lists.proofs.MaskBits.{in_mask_plus_same}

module _ (mask view : ℕ) (h : view < 64) where
  pub set_by_or : in_mask mask view ≡ false
      → (bit_or mask (1 * 2 ^ view % 18446744073709551616) ≡ mask + 2 ^ view) × (in_mask (bit_or mask (1 * 2 ^ view % 18446744073709551616)) view ≡ true)
  unfolding in_mask
  set_by_or clear =
      let apart : bit_and mask (2 ^ view) ≡ 0 = grind (arith, nat_tests, and_pow mask view) in
      let joined : bit_or mask (1 * 2 ^ view % 18446744073709551616) ≡ mask + 2 ^ view = ap (bit_or mask) (one_shl view 64 h) ∙ or_disjoint mask (2 ^ view) apart in
      (joined, ap (λ (m : ℕ). in_mask m view) joined ∙ in_mask_plus_same mask view clear)

  pub cleared_by_xor : in_mask mask view ≡ true → bit_xor mask (1 * 2 ^ view % 18446744073709551616) ≡ mask - 2 ^ view
  unfolding in_mask
  cleared_by_xor held =
      let shared : bit_and mask (2 ^ view) ≡ 2 ^ view = grind (arith, nat_tests, and_pow mask view) in
      ap (bit_xor mask) (one_shl view 64 h) ∙ omega (arith, xor_add_and mask (2 ^ view))

module _ (masks : List ℕ) (camera view : ℕ) (inside : camera < length masks) where
  abbrev pub with_view : List ℕ
  with_view = set masks camera (get_or masks camera 0 + 2 ^ view)

  -- The view taken away again.
  pub view_away : set with_view camera (get_or with_view camera 0 - 2 ^ view) ≡ masks
  view_away =
      let there : get_or with_view camera 0 ≡ get_or masks camera 0 + 2 ^ view = get_or-set_same masks camera (get_or masks camera 0 + 2 ^ view) 0 inside in
      let back : get_or with_view camera 0 - 2 ^ view ≡ get_or masks camera 0 = omega arith in
      ap (set with_view camera) back ∙ set-set masks camera (get_or masks camera 0 + 2 ^ view) (get_or masks camera 0) ∙ set-get_or masks camera 0
