-- Laws of `passing`: one number more, that each number listed is below the bound and passes, and when none or one is listed. Assumes nothing.
use Prim.Native.Nat.{ℕ, zero, suc, ◌≤◌, ◌<◌}
use native.Mathlib.Decide.{le_ind}
use native.Mathlib.Nat.{eq-or-lt_of_le, le_of_suc-le-suc}
use native.Mathlib.Omega.{arith}
use mathlib.Core.Path.{◌≡◌, refl, sym, ap, ◌∙◌}
use mathlib.Core.Logic.{◌≢◌, ⊎_elim}
use mathlib.Core.Bool.{Bool, true, false, cond}
use mathlib.Core.List.{List, [], ◌∷◌, ◌++◌}
use lib.ListN.{length, get_or, length-append}
use Rattle.std.specs.Prelude.{All}
use Rattle.std.proofs.lemmas.List.{append-nil}
use Rattle.std.proofs.lemmas.List.Elements.{All-from_get_or, All-filter, filter-append, filter_passes}
use Rattle.std.proofs.lemmas.List.Sums.{length-filter, count_by-le-length}
use Rattle.lists.specs.Lists.{tabulate}
use Rattle.lists.proofs.Tabulated.{length-tabulate, get_d_tabulate}
use Rattle.chains.specs.Inner.Search.{passing}

module _ (test : ℕ → Bool) where
  one_more : (m : ℕ) → passing test (suc m) ≡ passing test m ++ cond (test m) (m ∷ []) []
  unfolding passing tabulate
  one_more m = filter-append test (tabulate m (λ c. c)) (m ∷ [])

  pub passing_more : (m : ℕ) → test m ≡ true → passing test (suc m) ≡ passing test m ++ m ∷ []
  passing_more m e = one_more m ∙ rw e

  pub passing_same : (m : ℕ) → test m ≡ false → passing test (suc m) ≡ passing test m
  passing_same m e = one_more m ∙ rw e (append-nil (passing test m))

  pub passing_inside : (m : ℕ) → All (λ c. c < m) (passing test m)
  unfolding passing
  passing_inside m =
      All-filter test (λ c. c < m) (tabulate m (λ c. c))
      (All-from_get_or (λ c. c < m) (tabulate m (λ c. c)) 0 (λ i h. omega (arith, length-tabulate m (λ c. c), get_d_tabulate m (λ c. c) 0 i)))

  pub length-passing-le : (m : ℕ) → length (passing test m) ≤ m
  unfolding passing
  length-passing-le m =
      let all = tabulate m (λ c. c) in
      omega (arith, length-filter test all, count_by-le-length test all, length-tabulate m (λ c. c))

  -- A list that is not empty has a number that passes.
  pub passing_some : (m : ℕ) → 0 < length (passing test m) → (p : ℕ) × (p < m) × (test p ≡ true)
  unfolding passing
  passing_some m h = (get_or (passing test m) 0 0, passing_inside m 0 0 h, filter_passes test (tabulate m (λ c. c)) 0 0 h)

  -- Where the list is empty no number passes.
  pub passing_none : (m : ℕ) → length (passing test m) ≡ 0 → (c : ℕ) → c < m → test c ≡ false
  passing_none zero e c h = absurd (omega arith)
  passing_none (suc m) e c h = go (test m) refl (λ n k. passing_none m n c k)
    where
      go : (t : Bool) → test m ≡ t → (length (passing test m) ≡ 0 → c < m → test c ≡ false) → test c ≡ false
      go true f rest = absurd (omega (arith, ap length (passing_more m f), length-append (passing test m) (m ∷ [])))
      go false f rest = ⊎_elim (λ s. ap test s ∙ f) (λ k. rest (sym (ap length (passing_same m f)) ∙ e) k) (eq-or-lt_of_le (le_of_suc-le-suc h))

  passing_until : (m : ℕ) → ((i : ℕ) → i < m → test i ≡ false) → passing test m ≡ []
  unfolding passing tabulate
  passing_until zero h = refl
  passing_until (suc m) h = passing_same m (h m (omega arith)) ∙ passing_until m (λ i l. h i (omega arith))

  -- One number alone passes.
  pub passing_alone : (m q : ℕ) → q < m → test q ≡ true → ((i : ℕ) → i ≢ q → test i ≡ false) → passing test m ≡ q ∷ []
  passing_alone m q l e other = le_ind (λ (k : ℕ). passing test k ≡ q ∷ []) first more m l
    where
      first : passing test (suc q) ≡ q ∷ []
      first = passing_more q e ∙ ap (λ (l : List ℕ). l ++ q ∷ []) (passing_until q (λ i k. other i (omega arith)))

      more : (k : ℕ) → suc q ≤ k → passing test k ≡ q ∷ [] → passing test (suc k) ≡ q ∷ []
      more k a rest = passing_same k (other k (omega arith)) ∙ rest
