-- Laws of the Rust's ranges, iterators and `for` loops: over a tabulated list each is a count, a gathering or a search over its indexes.
-- Assumes nothing.
use Rattle.std.proofs.Common.{◌≡◌, ℕ, zero, suc, ◌+◌, ◌<◌, Bool, true, false, cond, List, [], ◌∷◌, ◌++◌, length, get_or, refl, ap, ◌∙◌, arith, length-append}
use Rattle.std.specs.Prelude.{Option, None, Some}
use Rattle.lists.specs.Finding.{count, lowest}
use Rattle.lists.specs.Lists.{tabulate, gather}
use Rattle.claims_direct.specs.RustStd.{Result, ok, err, neither, ◌>>=◌, range, enumerate_from, enumerate, for_each, filter, cons_some, filter_map}
use Rattle.lists.proofs.Tabulated.{tabulate-get_or}

-- ---- ranges and enumerated lists as tables

pub range-tabulate : (n : ℕ) → range n ≡ tabulate n (λ i. i)
unfolding range tabulate
range-tabulate zero = refl
range-tabulate (suc n) = rw (range-tabulate n)

module _ {A : Type 0} where
  length-enumerate_from : (n : ℕ) (l : List A) → length (enumerate_from n l) ≡ length l
  unfolding enumerate_from
  length-enumerate_from n [] = refl
  length-enumerate_from n (a ∷ l) = ap suc (length-enumerate_from (suc n) l)

  get_or-enumerate_from : (d : A) (n : ℕ) (l : List A) (i : ℕ) → i < length l → get_or (enumerate_from n l) i (0, d) ≡ (n + i, get_or l i d)
  unfolding enumerate_from
  get_or-enumerate_from d n [] i h = absurd (omega arith)
  get_or-enumerate_from d n (a ∷ l) zero h = ap (λ (k : ℕ). (k, a)) (omega arith)
  get_or-enumerate_from d n (a ∷ l) (suc i) h =
      get_or-enumerate_from d (suc n) l i (omega arith) ∙ ap (λ (k : ℕ). (k, get_or l i d)) (omega arith)

  pub enumerate-tabulate : (d : A) (l : List A) → enumerate l ≡ tabulate (length l) (λ i. (i, get_or l i d))
  enumerate-tabulate d l =
      tabulate-get_or (0, d) (enumerate l) (λ i. (i, get_or l i d))
      (λ i h. get_or-enumerate_from d 0 l i (omega (arith, length-enumerate_from 0 l)) ∙ ap (λ (k : ℕ). (k, get_or l i d)) (omega arith))
      ∙ ap (λ (n : ℕ). tabulate n (λ i. (i, get_or l i d))) (length-enumerate_from 0 l)

-- ---- `filter`

module _ {A : Type 0} (test : A → Bool) where
  pub filter-append : (l m : List A) → filter test (l ++ m) ≡ filter test l ++ filter test m
  unfolding filter
  filter-append [] m = refl
  filter-append (a ∷ l) m = rw (filter-append l m) (go (test a))
    where
      go : (t : Bool) → cond t (a ∷ (filter test l ++ filter test m)) (filter test l ++ filter test m) ≡ cond t (a ∷ filter test l) (filter test l) ++ filter test m
      go true = refl
      go false = refl

  pub length-filter-tabulate : (f : ℕ → A) (n : ℕ) → length (filter test (tabulate n f)) ≡ count (λ i. test (f i)) n
  unfolding tabulate count filter
  length-filter-tabulate f zero = refl
  length-filter-tabulate f (suc n) =
      ap length (filter-append (tabulate n f) (f n ∷ []))
      ∙ length-append (filter test (tabulate n f)) (filter test (f n ∷ []))
      ∙ go (test (f n)) (length-filter-tabulate f n)
    where
      go : (t : Bool) → length (filter test (tabulate n f)) ≡ count (λ i. test (f i)) n
          → length (filter test (tabulate n f)) + length (cond t (f n ∷ []) []) ≡ cond t (suc (count (λ i. test (f i)) n)) (count (λ i. test (f i)) n)
      go true e = omega arith
      go false e = omega arith

-- ---- `filter_map`

module _ {A B : Type 0} (f : A → Option B) where
  filter_map_append : (l m : List A) → filter_map f (l ++ m) ≡ filter_map f l ++ filter_map f m
  unfolding filter_map
  filter_map_append [] m = refl
  filter_map_append (a ∷ l) m = rw (filter_map_append l m) (go (f a))
    where
      go : (o : Option B) → cons_some o (filter_map f l ++ filter_map f m) ≡ cons_some o (filter_map f l) ++ filter_map f m
      go None = refl
      go (Some b) = refl

  pub filter_map_tabulate : (g : ℕ → A) (n : ℕ) → filter_map f (tabulate n g) ≡ gather n (λ i. cons_some (f (g i)) [])
  unfolding tabulate gather filter_map
  filter_map_tabulate g zero = refl
  filter_map_tabulate g (suc n) =
      filter_map_append (tabulate n g) (g n ∷ []) ∙ ap (λ (l : List B). l ++ cons_some (f (g n)) []) (filter_map_tabulate g n)

-- ---- `for`

-- Where a loop stops at a turn, that turn's error, and else the state.
abbrev pub stopped : {E S : Type 0} → (ℕ → E) → Option ℕ → S → Result E S
stopped e None s = ok s
stopped e (Some i) s = err (e i)

module _ {E A S : Type 0} (body : A → S → Result E S) where
  for_each-append : (l m : List A) (s : S) → for_each (l ++ m) body s ≡ (for_each l body s >>= λ t. for_each m body t)
  unfolding for_each
  for_each-append [] m s = refl
  for_each-append (a ∷ l) m s = go (body a s) (λ t. for_each-append l m t)
    where
      go : (r : Result E S) → ((t : S) → for_each (l ++ m) body t ≡ (for_each l body t >>= λ u. for_each m body u))
          → (r >>= λ t. for_each (l ++ m) body t) ≡ ((r >>= λ t. for_each l body t) >>= λ u. for_each m body u)
      go (ok t) h = h t
      go (err e) h = refl
      go neither h = refl

  for_each-one : (a : A) (s : S) → for_each (a ∷ []) body s ≡ body a s
  unfolding for_each
  for_each-one a s = go (body a s)
    where
      go : (r : Result E S) → (r >>= λ t. ok t) ≡ r
      go (ok t) = refl
      go (err e) = refl
      go neither = refl

  -- One turn more, where all before it went well.
  for_each_more : (f : ℕ → A) (n : ℕ) (s t : S) → for_each (tabulate n f) body s ≡ ok t → for_each (tabulate (suc n) f) body s ≡ body (f n) t
  unfolding tabulate
  for_each_more f n s t e = for_each-append (tabulate n f) (f n ∷ []) s ∙ rw e (for_each-one (f n) t)

  -- Nothing is done after a turn that returns an error.
  for_each-after : (f : ℕ → A) (n : ℕ) (s : S) (e : E) → for_each (tabulate n f) body s ≡ err e → for_each (tabulate (suc n) f) body s ≡ err e
  unfolding tabulate
  for_each-after f n s e h = for_each-append (tabulate n f) (f n ∷ []) s ∙ rw h

  -- A loop whose turns go from state to state.
  pub for_each-ok : (f : ℕ → A) (state : ℕ → S) (n : ℕ) → ((i : ℕ) → i < n → body (f i) (state i) ≡ ok (state (suc i)))
      → for_each (tabulate n f) body (state 0) ≡ ok (state n)
  unfolding tabulate for_each
  for_each-ok f state zero h = refl
  for_each-ok f state (suc n) h = for_each_more f n (state 0) (state n) (for_each-ok f state n (λ i l. h i (omega arith))) ∙ h n (omega arith)

  -- The same, but for turns that pass the test, which return an error: the lowest of them decides.
  pub for_each-lowest : (f : ℕ → A) (state : ℕ → S) (test : ℕ → Bool) (e : ℕ → E) (n : ℕ)
      → ((i : ℕ) → i < n → body (f i) (state i) ≡ cond (test i) (err (e i)) (ok (state (suc i))))
      → for_each (tabulate n f) body (state 0) ≡ stopped e (lowest test n) (state n)
  unfolding tabulate for_each lowest
  for_each-lowest f state test e zero h = refl
  for_each-lowest f state test e (suc n) h = go (lowest test n) (for_each-lowest f state test e n (λ i l. h i (omega arith)))
    where
      last : (t : Bool) → cond t (err (e n)) (ok (state (suc n))) ≡ stopped e (cond t (Some n) None) (state (suc n))
      last true = refl
      last false = refl

      go : (o : Option ℕ) → for_each (tabulate n f) body (state 0) ≡ stopped e o (state n)
          → for_each (tabulate (suc n) f) body (state 0) ≡ stopped e (elim o [ Some i ↦ Some i | None ↦ cond (test n) (Some n) None ]) (state (suc n))
      go None r = for_each_more f n (state 0) (state n) r ∙ h n (omega arith) ∙ last (test n)
      go (Some i) r = for_each-after f n (state 0) (e i) r
