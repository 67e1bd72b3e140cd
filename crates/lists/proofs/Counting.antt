-- Laws of `count`: its bound, what it grows with, and that it depends on the test's values only. Assumes nothing.
use Prim.Native.Nat.{ℕ, zero, suc, ◌≤◌, ◌<◌}
use native.Mathlib.Decide.{le_ind}
use native.Mathlib.Nat.{eq-or-lt_of_le, le_of_suc-le-suc}
use native.Mathlib.Omega.{arith}
use mathlib.Core.Path.{◌≡◌, refl, sym, ap, ◌∙◌, subst}
use mathlib.Core.Logic.{◌≢◌, ⊎_elim}
use mathlib.Core.Bool.{Bool, true, false, cond}
use lib.Dec.{T}
use Rattle.lists.specs.Finding.{count}

pub count-le : (test : ℕ → Bool) (m : ℕ) → count test m ≤ m
unfolding count
count-le test zero = omega arith
count-le test (suc m) = go (test m) (count-le test m)
  where
    go : (t : Bool) → count test m ≤ m → cond t (suc (count test m)) (count test m) ≤ suc m
    go true h = omega arith
    go false h = omega arith

-- Tests that agree below m are passed as often there.
pub count_agree : (f g : ℕ → Bool) (m : ℕ) → ((i : ℕ) → i < m → f i ≡ g i) → count f m ≡ count g m
unfolding count
count_agree f g zero h = refl
count_agree f g (suc m) h = rw (h m (omega arith), count_agree f g m (λ i l. h i (omega arith)))

-- Where every number that passes the first test passes the second, the second is passed as often at least.
pub count_mono : (f g : ℕ → Bool) (m : ℕ) → ((i : ℕ) → i < m → T (f i) → T (g i)) → count f m ≤ count g m
unfolding count
count_mono f g zero h = omega arith
count_mono f g (suc m) h = go (f m) (g m) (h m (omega arith)) (count_mono f g m (λ i l. h i (omega arith)))
  where
    go : (s t : Bool) → (T s → T t) → count f m ≤ count g m
        → cond s (suc (count f m)) (count f m) ≤ cond t (suc (count g m)) (count g m)
    go true true k l = omega arith
    go true false k l = absurd (k tt)
    go false true k l = omega arith
    go false false k l = l

-- And more often where some number passes the second alone.
pub count_more : (f g : ℕ → Bool) (m : ℕ) → ((i : ℕ) → i < m → T (f i) → T (g i))
    → (q : ℕ) → q < m → f q ≡ false → g q ≡ true → count f m < count g m
unfolding count
count_more f g zero h q l a b = absurd (omega arith)
count_more f g (suc m) h q l a b =
    ⊎_elim
    last
    (λ k. go (f m) (g m) (h m (omega arith)) (count_more f g m (λ i j. h i (omega arith)) q k a b))
    (eq-or-lt_of_le (le_of_suc-le-suc l))
  where
    below : count f m ≤ count g m
    below = count_mono f g m (λ i k. h i (omega arith))

    last : q ≡ m → cond (f m) (suc (count f m)) (count f m) < cond (g m) (suc (count g m)) (count g m)
    last e =
        let fm : f m ≡ false = subst (λ (i : ℕ). f i ≡ false) e a in
        let gm : g m ≡ true = subst (λ (i : ℕ). g i ≡ true) e b in
        rw (fm, gm) (omega (arith, below))

    go : (s t : Bool) → (T s → T t) → count f m < count g m
        → cond s (suc (count f m)) (count f m) < cond t (suc (count g m)) (count g m)
    go true true k n = omega arith
    go true false k n = absurd (k tt)
    go false true k n = omega arith
    go false false k n = n

pub count_none : (m : ℕ) → count (λ i. false) m ≡ 0
unfolding count
count_none zero = refl
count_none (suc m) = count_none m

-- A test that some number passes has a count above 0.
pub count-some : (f : ℕ → Bool) (m q : ℕ) → q < m → f q ≡ true → 0 < count f m
count-some f m q l e = omega (arith, count_more (λ i. false) f m (λ i k. absurd) q l refl e)

-- A number that passes is preceded by fewer that pass than there are below any bound above it.
pub count-before : (f : ℕ → Bool) (p m : ℕ) → p < m → f p ≡ true → count f p < count f m
unfolding count
count-before f p m h e = le_ind (λ (k : ℕ). count f p < count f k) first (λ k l g. more k (f k) g) m h
  where
    first : count f p < count f (suc p)
    first = rw e (omega arith)

    more : (k : ℕ) (t : Bool) → count f p < count f k → count f p < cond t (suc (count f k)) (count f k)
    more k true g = omega arith
    more k false g = g

-- Each number below the count is how many pass before some number that passes.
pub count_reaches : (f : ℕ → Bool) (m i : ℕ) → i < count f m → (p : ℕ) × (p < m) × (f p ≡ true) × (count f p ≡ i)
unfolding count
count_reaches f zero i h = absurd (omega arith)
count_reaches f (suc m) i h = go (f m) refl h (λ l. count_reaches f m i l)
  where
    go : (t : Bool) → f m ≡ t → i < cond t (suc (count f m)) (count f m)
        → (i < count f m → (p : ℕ) × (p < m) × (f p ≡ true) × (count f p ≡ i)) → (p : ℕ) × (p < suc m) × (f p ≡ true) × (count f p ≡ i)
    go true e l rest =
        ⊎_elim
        (λ s. (m, omega arith, e, sym s))
        (λ k. let r = rest k in (r.0, omega (arith, r.1), r.2, r.3))
        (eq-or-lt_of_le (le_of_suc-le-suc l))
    go false e l rest = let r = rest l in (r.0, omega (arith, r.1), r.2, r.3)

-- One number alone passes the test for it.
pub count_until : (f : ℕ → Bool) (m : ℕ) → ((i : ℕ) → i < m → f i ≡ false) → count f m ≡ 0
count_until f m h = count_agree f (λ i. false) m h ∙ count_none m

pub count_alone : (f : ℕ → Bool) (m q : ℕ) → q < m → f q ≡ true → ((i : ℕ) → i < m → i ≢ q → f i ≡ false) → count f m ≡ 1
unfolding count
count_alone f m q l e other = le_ind (λ (k : ℕ). k ≤ m → count f k ≡ 1) first more m l (omega arith)
  where
    first : suc q ≤ m → count f (suc q) ≡ 1
    first h = rw e (ap suc (count_until f q (λ i k. other i (omega arith) (omega arith))))

    more : (k : ℕ) → suc q ≤ k → (k ≤ m → count f k ≡ 1) → suc k ≤ m → count f (suc k) ≡ 1
    more k a rest h = rw (other k h (omega arith)) (rest (omega arith))
