-- Laws of `all_below`: one number more, any that is asked for, all of them, and the numbers of a range. Assumes nothing.
use Prim.Native.Nat.{ℕ, zero, suc, ◌+◌, ◌<◌}
use Rattle.std.specs.List.{list_all, range_with_len}
use Rattle.std.proofs.lemmas.List.Folds.{list_all-map}
use Rattle.std.proofs.lemmas.List.Recursion.{and_push}
use Rattle.std.proofs.lemmas.List.FromFn.{map-range_with_len_more}
use native.Mathlib.Nat.{eq-or-lt_of_le, le_of_suc-le-suc}
use native.Mathlib.Numerals.{add-one}
use native.Mathlib.Omega.{arith}
use mathlib.Core.Path.{◌≡◌, refl, sym, ap, ◌∙◌}
use mathlib.Core.Logic.{◌⊎◌, inl, inr}
use mathlib.Core.Bool.{Bool, true, ◌&&◌}
use mathlib.Core.List.{map}
use Rattle.lists.specs.Finding.{all_below}
use Rattle.lists.proofs.Tests.{and-true}

module _ (test : ℕ → Bool) where
  pub all_below-one_more : (n : ℕ) → all_below test (n + 1) ≡ (all_below test n && test n)
  unfolding all_below
  all_below-one_more n = rw add-one

  pub all_below_at : (n i : ℕ) → all_below test n ≡ true → i < n → test i ≡ true
  unfolding all_below
  all_below_at zero i e l = absurd (omega arith)
  all_below_at (suc n) i e l = go (eq-or-lt_of_le (le_of_suc-le-suc l)) (all_below_at n i (and-true (all_below test n) (test n) e).0)
    where
      go : (i ≡ n) ⊎ (i < n) → (i < n → test i ≡ true) → test i ≡ true
      go (inl q) below = rw q (and-true (all_below test n) (test n) e).1
      go (inr q) below = below q

  pub all_below_each : (n : ℕ) → ((i : ℕ) → i < n → test i ≡ true) → all_below test n ≡ true
  unfolding all_below
  all_below_each zero each = refl
  all_below_each (suc n) each = rw (all_below_each n (λ i l. each i (omega arith)), each n (omega arith))

  -- What the numbers of a range pass, each number below its end passes.
  pub all_in_range : (n : ℕ) → list_all test (range_with_len 0 n) ≡ all_below test n
  unfolding all_below
  all_in_range zero = refl
  all_in_range (suc n) =
      sym (list_all-map (λ b. b) test (range_with_len 0 (suc n)))
      ∙ ap (list_all (λ b. b)) (rw add-one at (map-range_with_len_more test 0 n n (omega arith)))
      ∙ and_push (list_all (λ b. b)) (λ b. b) refl (λ _ _. refl) (map test (range_with_len 0 n)) (test n)
      ∙ ap (λ b. b && test n) (list_all-map (λ b. b) test (range_with_len 0 n) ∙ all_in_range n)
