-- What `most_views` finds: of the first m that pass the test the one with most views, lowest index on ties. Assumes nothing.
use Prim.Native.Nat.{ℕ, zero, suc, ◌≤◌, ◌<◌}
use native.Mathlib.Nat.{eq-or-lt_of_le, le_of_suc-le-suc}
use native.Mathlib.Omega.{arith}
use mathlib.Core.Path.{◌≡◌, refl, sym, ap, ◌∙◌, subst}
use mathlib.Core.Logic.{⊎_elim}
use mathlib.Core.Bool.{Bool, true, false, cond}
use Rattle.std.specs.Prelude.{Option, None, Some}
use lib.Dec.{T, ltb}
use borrow.Author.Tests.{ltb-true, ltb-false}
use Rattle.chains.specs.Layers.{take_if_more, most_views}

-- p has at least the views of q, and is not above q where they are as many.
pub record Beats (views : ℕ → ℕ) (p q : ℕ) : Type 0 where
  pub as_many : views q ≤ views p
  pub lowest : views p ≤ views q → p ≤ q

pub record MostOf (test : ℕ → Bool) (views : ℕ → ℕ) (m p : ℕ) : Type 0 where
  pub below : p < m
  pub passes : T (test p)
  pub beats : (q : ℕ) → q < m → T (test q) → Beats views p q

abbrev pub Found : (ℕ → Bool) → (ℕ → ℕ) → ℕ → Option ℕ → Type 0
Found test views m None = (q : ℕ) → q < m → T (test q) → ⊥
Found test views m (Some p) = MostOf test views m p

module _ (test : ℕ → Bool) (views : ℕ → ℕ) where
  found_more : (m : ℕ) (t : Bool) → test m ≡ t → (o : Option ℕ) → Found test views m o → Found test views (suc m) (take_if_more t m views o)
  unfolding take_if_more
  found_more m false e None h = λ q l k. ⊎_elim (λ s. subst T (ap test s ∙ e) k) (λ j. h q j k) (eq-or-lt_of_le (le_of_suc-le-suc l))
  found_more m false e (Some p) h = record {
    below = omega (arith, h.below);
    passes = h.passes;
    beats = λ q l k. ⊎_elim (λ s. absurd (subst T (ap test s ∙ e) k)) (λ j. h.beats q j k) (eq-or-lt_of_le (le_of_suc-le-suc l));
  }
  found_more m true e None h = record {
    below = omega arith;
    passes = subst T (sym e) tt;
    beats = λ q l k. ⊎_elim (λ s. omega (arith, ap views s)) (λ j. absurd (h q j k)) (eq-or-lt_of_le (le_of_suc-le-suc l));
  }
  found_more m true e (Some p) h = go (ltb (views p) (views m)) refl
    where
      go : (t : Bool) → ltb (views p) (views m) ≡ t → Found test views (suc m) (cond t (Some m) (Some p))
      go true g = record {
        below = omega arith;
        passes = subst T (sym e) tt;
        beats = λ q l k.
            ⊎_elim
            (λ s. omega (arith, ap views s))
            (λ j. omega (arith, ltb-true (views p) (views m) g, (h.beats q j k).as_many))
            (eq-or-lt_of_le (le_of_suc-le-suc l));
      }
      go false g = record {
        below = omega (arith, h.below);
        passes = h.passes;
        beats = λ q l k.
            ⊎_elim
            (λ s. omega (arith, ap views s, ltb-false (views p) (views m) g, h.below))
            (λ j. h.beats q j k)
            (eq-or-lt_of_le (le_of_suc-le-suc l));
      }

  pub most_views_found : (m : ℕ) → Found test views m (most_views test views m)
  unfolding most_views
  most_views_found zero = λ q l k. omega arith
  most_views_found (suc m) = found_more m (test m) refl (most_views test views m) (most_views_found m)

-- Tests that agree below m, and views that agree where the test passes, find the same.
pub most_views_agree : (s t : ℕ → Bool) (u v : ℕ → ℕ) (m : ℕ)
    → ((p : ℕ) → p < m → s p ≡ t p) → ((p : ℕ) → p < m → T (s p) → u p ≡ v p) → most_views s u m ≡ most_views t v m
unfolding most_views take_if_more
most_views_agree s t u v zero h k = refl
most_views_agree s t u v (suc m) h k =
    rw (← h m (omega arith), ← most_views_agree s t u v m (λ p l. h p (omega arith)) (λ p l. k p (omega arith)))
    (go (s m) refl (most_views s u m) (most_views_found s u m))
  where
    go : (b : Bool) → s m ≡ b → (o : Option ℕ) → Found s u m o → take_if_more b m u o ≡ take_if_more b m v o
    go false e None f = refl
    go false e (Some p) f = refl
    go true e None f = refl
    go true e (Some p) f = rw (k m (omega arith) (subst T (sym e) tt), k p (omega (arith, f.below)) f.passes)
