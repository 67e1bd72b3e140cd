-- A pose among floats is not finite exactly where one of its seven numbers is not (`finite_pose_numbers`). Assumes nothing.
use Rattle.std.proofs.Common.{◌≡◌, ℕ, zero, suc, ◌+◌, ◌<◌, Bool, true, false, not, ◌↔◌, List, get_or, sym, refl, ◌∙◌, subst, true≢false, arith}
use mathlib.Core.Bool.{and-false}
use Rattle.std.specs.Prelude.{Option, None, Some}
use lib.Ieee.{Float, nan}
use lib.Ieee.Scale.{finite}
use borrow.Author.Tests.{not-true, not-false}
use Rattle.arithmetic.specs.Pose.{pose_at, finite_pose}
use Rattle.lists.specs.Finding.{lowest}
use Rattle.lists.proofs.Lowest.{lowest_passes, lowest-none_fails}
use Rattle.claims_direct.specs.Demand1.{NotAllFinite}

module _ (floats : List Float) (at : ℕ) where
  abbrev is_finite : ℕ → Bool
  is_finite k = finite (get_or floats (at + k) nan)

  all_finite : ((k : ℕ) → k < 7 → is_finite k ≡ true) → finite_pose (pose_at floats at) ≡ true
  unfolding finite_pose pose_at
  all_finite h =
      let first : finite (get_or floats at nan) ≡ true = subst (λ (n : ℕ). finite (get_or floats n nan) ≡ true) (omega arith) (h 0 (omega arith)) in
      rw (first, h 1 (omega arith), h 2 (omega arith), h 3 (omega arith), h 4 (omega arith), h 5 (omega arith), h 6 (omega arith))

  finite_not_all : (k : ℕ) → k < 7 → is_finite k ≡ false → finite_pose (pose_at floats at) ≡ false
  unfolding finite_pose pose_at
  finite_not_all zero l e =
      let first : finite (get_or floats at nan) ≡ false = subst (λ (n : ℕ). finite (get_or floats n nan) ≡ false) (omega arith) e in simp first
  finite_not_all (suc zero) l e = simp (e, and-false)
  finite_not_all (suc (suc zero)) l e = simp (e, and-false)
  finite_not_all (suc (suc (suc zero))) l e = simp (e, and-false)
  finite_not_all (suc (suc (suc (suc zero)))) l e = simp (e, and-false)
  finite_not_all (suc (suc (suc (suc (suc zero))))) l e = simp (e, and-false)
  finite_not_all (suc (suc (suc (suc (suc (suc zero)))))) l e = simp (e, and-false)
  finite_not_all (suc (suc (suc (suc (suc (suc (suc k))))))) l e = absurd (omega arith)

  some-not_finite : finite_pose (pose_at floats at) ≡ false → NotAllFinite floats at
  some-not_finite e = go (lowest (λ k. not (is_finite k)) 7) refl
    where
      go : (o : Option ℕ) → lowest (λ k. not (is_finite k)) 7 ≡ o → NotAllFinite floats at
      go (Some k) f = let (l, t) = lowest_passes (λ k. not (is_finite k)) 7 k f in (k, l, not-true (is_finite k) t)
      go None f =
          absurd
          (true≢false (sym (all_finite (λ k l. not-false (is_finite k) (lowest-none_fails (λ k. not (is_finite k)) 7 k f l))) ∙ e))

  pub finite_pose_numbers : (finite_pose (pose_at floats at) ≡ false) ↔ NotAllFinite floats at
  finite_pose_numbers = (some-not_finite, λ Some-number. finite_not_all Some-number.0 Some-number.1 Some-number.2)
