-- Laws of `tabulate`: its length, its elements, and that it depends on the function's values only. Assumes nothing.
use Prim.Native.Nat.{ℕ, zero, suc, ◌≤◌, ◌<◌}
use native.Mathlib.Nat.{eq-or-lt_of_le, le_of_suc-le-suc}
use native.Mathlib.Omega.{arith}
use mathlib.Core.Path.{◌≡◌, refl, sym, ap, ◌∙◌}
use mathlib.Core.Logic.{⊎_elim}
use mathlib.Core.List.{List, [], ◌∷◌, ◌++◌}
use lib.ListN.{length, get_or, length-append, get_or-append, get_or-eq_default}
use lib.Seq.{get_or_at, ext_get_or}
use Rattle.lists.specs.Lists.{tabulate}

module _ {A : Type 0} where
  pub length-tabulate : (n : ℕ) (f : ℕ → A) → length (tabulate n f) ≡ n
  unfolding tabulate
  length-tabulate zero f = refl
  length-tabulate (suc n) f = simp length-append (omega (arith, length-tabulate n f))

  pub get_d_tabulate : (n : ℕ) (f : ℕ → A) (d : A) (i : ℕ) → i < n → get_or (tabulate n f) i d ≡ f i
  unfolding tabulate
  get_d_tabulate zero f d i h = absurd (omega arith)
  get_d_tabulate (suc n) f d i h = ⊎_elim last (λ l. before l ∙ get_d_tabulate n f d i l) (eq-or-lt_of_le (le_of_suc-le-suc h))
    where
      last : i ≡ n → get_or (tabulate n f ++ (f n ∷ [])) i d ≡ f i
      last e = get_or_at (tabulate n f) (f n) [] d i (length-tabulate n f ∙ sym e) ∙ ap f (sym e)

      before : i < n → get_or (tabulate n f ++ (f n ∷ [])) i d ≡ get_or (tabulate n f) i d
      before l = get_or-append (tabulate n f) (f n ∷ []) d i (omega (arith, length-tabulate n f))

  pub get_or-tabulate_past : (n : ℕ) (f : ℕ → A) (d : A) (i : ℕ) → n ≤ i → get_or (tabulate n f) i d ≡ d
  get_or-tabulate_past n f d i h = get_or-eq_default (tabulate n f) d (omega (arith, length-tabulate n f))

  pub tabulate_agree : (n : ℕ) (f g : ℕ → A) → ((i : ℕ) → i < n → f i ≡ g i) → tabulate n f ≡ tabulate n g
  unfolding tabulate
  tabulate_agree zero f g h = refl
  tabulate_agree (suc n) f g h = rw (h n (omega arith), tabulate_agree n f g (λ i l. h i (omega arith)))

  -- A list is what stands at its indexes.
  pub tabulate-get_or : (d : A) (l : List A) (f : ℕ → A) → ((i : ℕ) → i < length l → get_or l i d ≡ f i) → l ≡ tabulate (length l) f
  tabulate-get_or d l f h =
      ext_get_or d l (tabulate (length l) f) (sym (length-tabulate (length l) f)) (λ i k. h i k ∙ sym (get_d_tabulate (length l) f d i k))
