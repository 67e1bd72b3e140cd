-- Laws of the numbers below n that pass a test, as the Rust lists them: `(0..n).filter(test)`. What is in the list, its sum of powers, and
-- that its first least pair by `(Reverse(views), index)` is what `most_views` finds. Assumes nothing.
use Rattle.std.proofs.Common.{◌≡◌, ℕ, zero, suc, ◌+◌, ◌^◌, ◌<◌, Bool, true, false, cond, ◌&&◌, ◌||◌, eqb, ltb, List, [], ◌∷◌, ◌++◌, map, sym, refl, ap, ◌∙◌, ap₂, ⊎_elim, append-nil, le_of_suc-le-suc, eq-or-lt_of_le, arith, pow_pos, le-ltb, eq-eqb, ne_eqb}
use Rattle.std.specs.Prelude.{option_map, Option, None, Some}
use mathlib.Core.List.{map-append, foldl-append}
use Rattle.chains.specs.Layers.{take_if_more, most_views}
use Rattle.lists.specs.Finding.{power_sum}
use Rattle.claims_direct.specs.RustStd.{is_empty, range, filter, lesser, min_by}
use Rattle.claims_direct.specs.Rust.{key_below}
use Rattle.claims_direct.specs.Encoding.{powers_of}
use Rattle.claims_direct.proofs.Iterators.{filter-append}
use Rattle.chains.proofs.MostViews.{Found, most_views_found}

-- ---- one number more

pub filter-range-suc : (test : ℕ → Bool) (n : ℕ) → filter test (range (suc n)) ≡ filter test (range n) ++ cond (test n) (n ∷ []) []
unfolding range filter
filter-range-suc test n = filter-append test (range n) (n ∷ [])

pub filter-range_in : (test : ℕ → Bool) (n : ℕ) → test n ≡ true → filter test (range (suc n)) ≡ filter test (range n) ++ (n ∷ [])
filter-range_in test n e = filter-range-suc test n ∙ rw e

pub filter-range_out : (test : ℕ → Bool) (n : ℕ) → test n ≡ false → filter test (range (suc n)) ≡ filter test (range n)
filter-range_out test n e = filter-range-suc test n ∙ rw e (append-nil (filter test (range n)))

pub filter-range_agree : (f g : ℕ → Bool) (n : ℕ) → ((i : ℕ) → i < n → f i ≡ g i) → filter f (range n) ≡ filter g (range n)
unfolding range filter
filter-range_agree f g zero h = refl
filter-range_agree f g (suc n) h =
    filter-range-suc f n ∙ rw (filter-range_agree f g n (λ i l. h i (omega arith)), h n (omega arith)) (sym (filter-range-suc g n))

-- ---- what is in the list

-- The last of a list with one element more is in it.
append-not-empty : (l : List ℕ) (n : ℕ) → l ++ (n ∷ []) ≡ [] → ⊥
append-not-empty [] n e = cc
append-not-empty (a ∷ l) n e = cc

pub filter-range-empty : (test : ℕ → Bool) (n : ℕ) → filter test (range n) ≡ [] → (i : ℕ) → i < n → test i ≡ false
filter-range-empty test zero e i h = absurd (omega arith)
filter-range-empty test (suc n) e i h = go (test n) refl (λ f. filter-range-empty test n f i)
  where
    go : (t : Bool) → test n ≡ t → (filter test (range n) ≡ [] → i < n → test i ≡ false) → test i ≡ false
    go true et rest = absurd (append-not-empty (filter test (range n)) n (sym (filter-range_in test n et) ∙ e))
    go false et rest =
        ⊎_elim (λ s. ap test s ∙ et) (λ l. rest (sym (filter-range_out test n et) ∙ e) l) (eq-or-lt_of_le (le_of_suc-le-suc h))

pub filter-range_member : (test : ℕ → Bool) (n c : ℕ) (l : List ℕ) → filter test (range n) ≡ c ∷ l → (i : ℕ) × (i < n) × (test i ≡ true)
unfolding range filter
filter-range_member test zero c l e = cc
filter-range_member test (suc n) c l e = go (test n) refl (λ f. filter-range_member test n c l f)
  where
    go : (t : Bool) → test n ≡ t → (filter test (range n) ≡ c ∷ l → (i : ℕ) × (i < n) × (test i ≡ true)) → (i : ℕ) × (i < suc n) × (test i ≡ true)
    go true et rest = (n, omega arith, et)
    go false et rest = let m = rest (sym (filter-range_out test n et) ∙ e) in (m.0, omega (arith, m.1), m.2)

pub filter-range-nothing : (test : ℕ → Bool) (n : ℕ) → ((i : ℕ) → i < n → test i ≡ false) → filter test (range n) ≡ []
unfolding range filter
filter-range-nothing test zero h = refl
filter-range-nothing test (suc n) h = filter-range_out test n (h n (omega arith)) ∙ filter-range-nothing test n (λ i l. h i (omega arith))

-- One number alone.
pub filter-range-one : (test : ℕ → Bool) (r n : ℕ) → ((i : ℕ) → i < n → test i ≡ eqb i r) → r < n → filter test (range n) ≡ r ∷ []
filter-range-one test r zero h l = absurd (omega arith)
filter-range-one test r (suc n) h l =
    ⊎_elim last (λ k. before k (filter-range-one test r n (λ i j. h i (omega arith)) k)) (eq-or-lt_of_le (le_of_suc-le-suc l))
  where
    last : r ≡ n → filter test (range (suc n)) ≡ r ∷ []
    last e =
        filter-range_in test n (h n (omega arith) ∙ eq-eqb n r (sym e))
        ∙ ap₂ (λ (l : List ℕ) (i : ℕ). l ++ (i ∷ [])) (filter-range-nothing test n (λ i j. h i (omega arith) ∙ ne_eqb i r (omega arith))) (sym e)

    before : r < n → filter test (range n) ≡ r ∷ [] → filter test (range (suc n)) ≡ r ∷ []
    before k rest = filter-range_out test n (h n (omega arith) ∙ ne_eqb n r (omega arith)) ∙ rest

-- ---- sums of powers

powers_of-append : (l m : List ℕ) → powers_of (l ++ m) ≡ powers_of l + powers_of m
unfolding powers_of
powers_of-append [] m = omega arith
powers_of-append (c ∷ l) m = omega (arith, powers_of-append l m)

pub powers_of-filter-range : (test : ℕ → Bool) (n : ℕ) → powers_of (filter test (range n)) ≡ power_sum test n
unfolding powers_of power_sum range filter
powers_of-filter-range test zero = refl
powers_of-filter-range test (suc n) =
    ap powers_of (filter-range-suc test n)
    ∙ powers_of-append (filter test (range n)) (cond (test n) (n ∷ []) [])
    ∙ ap₂ (λ (a b : ℕ). a + b) (powers_of-filter-range test n) (go (test n))
  where
    go : (t : Bool) → powers_of (cond t (n ∷ []) []) ≡ cond t (2 ^ n) 0
    go true = omega arith
    go false = refl

-- A list of numbers is empty exactly where its sum of powers is 0.
pub is_empty_powers_of : (l : List ℕ) → is_empty l ≡ eqb (powers_of l) 0
unfolding powers_of
is_empty_powers_of [] = refl
is_empty_powers_of (c ∷ l) = sym (ne_eqb (2 ^ c + powers_of l) 0 (omega (arith, pow_pos c)))

-- ---- the first least pair

module _ (views : ℕ → ℕ) where
  abbrev pub with_views : ℕ → ℕ × ℕ
  with_views p = (p, views p)

  -- Among pairs of ascending indexes a later one comes before only by more views.
  key_below-later : (q m : ℕ) → q < m → key_below (with_views m) (with_views q) ≡ ltb (views q) (views m)
  unfolding key_below
  key_below-later q m h = rw (le-ltb m q (omega arith)) (go (ltb (views q) (views m)) (eqb (views m) (views q)))
    where
      go : (a b : Bool) → (a || (b && false)) ≡ a
      go true true = refl
      go true false = refl
      go false true = refl
      go false false = refl

  lesser-take_if_more : (test : ℕ → Bool) (m : ℕ) (o : Option ℕ) → Found test views m o
      → lesser key_below (option_map with_views o) (with_views m) ≡ option_map with_views (take_if_more true m views o)
  unfolding lesser take_if_more
  lesser-take_if_more test m None f = refl
  lesser-take_if_more test m (Some q) f = rw (key_below-later q m f.below) (go (ltb (views q) (views m)))
    where
      go : (t : Bool) → cond t (Some (with_views m)) (Some (with_views q)) ≡ option_map with_views (cond t (Some m) (Some q))
      go true = refl
      go false = refl

  pub min_by-most_views : (test : ℕ → Bool) (m : ℕ)
      → min_by key_below (filter (λ pair. ltb 0 pair.1) (map with_views (filter test (range m))))
      ≡ option_map with_views (most_views (λ p. test p && ltb 0 (views p)) views m)
  unfolding min_by most_views take_if_more range filter
  min_by-most_views test zero = refl
  min_by-most_views test (suc m) = go (test m) refl (ltb 0 (views m)) refl (min_by-most_views test m)
    where
      positive : ℕ × ℕ → Bool
      positive pair = ltb 0 pair.1

      pairs : List ℕ → List (ℕ × ℕ)
      pairs l = filter positive (map with_views l)

      found : Option ℕ
      found = most_views (λ p. test p && ltb 0 (views p)) views m

      -- one number more at the end of the list
      more : pairs (filter test (range m) ++ (m ∷ [])) ≡ pairs (filter test (range m)) ++ pairs (m ∷ [])
      more = ap (filter positive) (map-append with_views (filter test (range m)) (m ∷ [])) ∙ filter-append positive (map with_views (filter test (range m))) (with_views m ∷ [])

      shares : ltb 0 (views m) ≡ true → pairs (filter test (range m) ++ (m ∷ [])) ≡ pairs (filter test (range m)) ++ (with_views m ∷ [])
      shares et = more ∙ rw et

      shares_none : ltb 0 (views m) ≡ false → pairs (filter test (range m) ++ (m ∷ [])) ≡ pairs (filter test (range m))
      shares_none et = more ∙ rw et (append-nil (pairs (filter test (range m))))

      go : (s : Bool) → test m ≡ s → (t : Bool) → ltb 0 (views m) ≡ t → min_by key_below (pairs (filter test (range m))) ≡ option_map with_views found
          → min_by key_below (pairs (filter test (range (suc m)))) ≡ option_map with_views (take_if_more (test m && ltb 0 (views m)) m views found)
      go true es true et rest =
          ap (λ (l : List ℕ). min_by key_below (pairs l)) (filter-range_in test m es)
          ∙ ap (min_by key_below) (shares et)
          ∙ foldl-append (lesser key_below) None (pairs (filter test (range m))) (with_views m ∷ [])
          ∙ ap (λ (o : Option (ℕ × ℕ)). lesser key_below o (with_views m)) rest
          ∙ lesser-take_if_more (λ p. test p && ltb 0 (views p)) m found (most_views_found (λ p. test p && ltb 0 (views p)) views m)
          ∙ rw (es, et)
      go true es false et rest =
          ap (λ (l : List ℕ). min_by key_below (pairs l)) (filter-range_in test m es) ∙ ap (min_by key_below) (shares_none et) ∙ rest ∙ rw (es, et, take_if_more)
      go false es true et rest = ap (λ (l : List ℕ). min_by key_below (pairs l)) (filter-range_out test m es) ∙ rest ∙ rw (es, take_if_more)
      go false es false et rest = ap (λ (l : List ℕ). min_by key_below (pairs l)) (filter-range_out test m es) ∙ rest ∙ rw (es, take_if_more)
