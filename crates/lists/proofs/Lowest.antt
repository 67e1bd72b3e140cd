-- Laws of `lowest`, in the form a search that goes up uses: nothing so far, one more that does not pass, and the first that does; what
-- the answers say of the numbers below the bound; and that it depends on the test's values only.
-- Assumes nothing.
use Prim.Native.Nat.{ℕ, zero, suc, ◌+◌, ◌<◌}
use native.Mathlib.Decide.{le_ind}
use native.Mathlib.Nat.{eq-or-lt_of_le}
use native.Mathlib.Numerals.{add-one}
use native.Mathlib.Omega.{arith}
use mathlib.Core.Path.{◌≡◌, refl, sym, ap, ◌∙◌}
use mathlib.Core.Logic.{⊎_elim}
use mathlib.Core.Bool.{Bool, true, false, cond, true≢false}
use Rattle.std.specs.Prelude.{Option, None, Some}
use Rattle.lists.specs.Finding.{lowest}

module _ (test : ℕ → Bool) where
  abbrev next : ℕ → Option ℕ → Bool → Option ℕ
  next n None b = cond b (Some n) None
  next n (Some i) b = Some i

  lowest-suc : (n : ℕ) → lowest test (suc n) ≡ next n (lowest test n) (test n)
  unfolding lowest
  lowest-suc n = go (lowest test n)
    where
      go : (o : Option ℕ) → (elim o [ Some i ↦ Some i | None ↦ cond (test n) (Some n) None ]) ≡ next n o (test n)
      go None = refl
      go (Some i) = refl

  -- Nothing below n + 1, where nothing is below n and n does not pass.
  pub lowest-none_more : (n : ℕ) → lowest test n ≡ None → test n ≡ false → lowest test (n + 1) ≡ None
  lowest-none_more n e t = ap (lowest test) (add-one n) ∙ lowest-suc n ∙ simp (e, t)

  pub lowest_here : (n : ℕ) → lowest test n ≡ None → test n ≡ true → lowest test (suc n) ≡ Some n
  lowest_here n e t = lowest-suc n ∙ simp (e, t)

  -- The first that passes is the lowest below every larger bound.
  pub lowest-first : (i n : ℕ) → i < n → lowest test i ≡ None → test i ≡ true → lowest test n ≡ Some i
  lowest-first i n l e t =
      le_ind (λ (m : ℕ). lowest test m ≡ Some i) (lowest_here i e t) (λ m _ h. lowest-suc m ∙ simp h) n l

  -- What is found is below the bound and passes.
  pub lowest_passes : (n i : ℕ) → lowest test n ≡ Some i → (i < n) × (test i ≡ true)
  unfolding lowest
  lowest_passes zero i e = let z : ◌≡◌ {A = ℕ} 0 1 = cc in absurd (omega arith)
  lowest_passes (suc n) i e = go (lowest test n) refl (test n) refl (sym (lowest-suc n) ∙ e) (λ f. lowest_passes n i f)
    where
      go : (o : Option ℕ) → lowest test n ≡ o → (b : Bool) → test n ≡ b → next n o b ≡ Some i
          → (lowest test n ≡ Some i → (i < n) × (test i ≡ true)) → (i < suc n) × (test i ≡ true)
      go (Some j) f true t q rest = let (l, p) = rest (f ∙ q) in (omega arith, p)
      go (Some j) f false t q rest = let (l, p) = rest (f ∙ q) in (omega arith, p)
      go None f true t q rest = let s : n ≡ i = cc in (omega arith, ap test (sym s) ∙ t)
      go None f false t q rest = let z : ◌≡◌ {A = ℕ} 0 1 = cc in absurd (omega arith)

  -- Below what is found nothing is.
  pub lowest-before : (n i : ℕ) → lowest test n ≡ Some i → lowest test i ≡ None
  unfolding lowest
  lowest-before zero i e = let z : ◌≡◌ {A = ℕ} 0 1 = cc in absurd (omega arith)
  lowest-before (suc n) i e = go (lowest test n) refl (test n) refl (sym (lowest-suc n) ∙ e) (λ f. lowest-before n i f)
    where
      go : (o : Option ℕ) → lowest test n ≡ o → (b : Bool) → test n ≡ b → next n o b ≡ Some i
          → (lowest test n ≡ Some i → lowest test i ≡ None) → lowest test i ≡ None
      go (Some j) f true t q rest = rest (f ∙ q)
      go (Some j) f false t q rest = rest (f ∙ q)
      go None f true t q rest = let s : n ≡ i = cc in ap (lowest test) (sym s) ∙ f
      go None f false t q rest = let z : ◌≡◌ {A = ℕ} 0 1 = cc in absurd (omega arith)

  -- Where nothing is found, no number below the bound passes.
  pub lowest-none_fails : (n i : ℕ) → lowest test n ≡ None → i < n → test i ≡ false
  unfolding lowest
  lowest-none_fails zero i e l = absurd (omega arith)
  lowest-none_fails (suc n) i e l = go (lowest test n) refl (test n) refl (sym (lowest-suc n) ∙ e) (λ f k. lowest-none_fails n i f k)
    where
      go : (o : Option ℕ) → lowest test n ≡ o → (b : Bool) → test n ≡ b → next n o b ≡ None
          → (lowest test n ≡ None → i < n → test i ≡ false) → test i ≡ false
      go (Some j) f true t q rest = let z : ◌≡◌ {A = ℕ} 0 1 = cc in absurd (omega arith)
      go (Some j) f false t q rest = let z : ◌≡◌ {A = ℕ} 0 1 = cc in absurd (omega arith)
      go None f true t q rest = let z : ◌≡◌ {A = ℕ} 0 1 = cc in absurd (omega arith)
      go None f false t q rest =
          ⊎_elim (λ s. ap test s ∙ t) (λ k. rest f k) (eq-or-lt_of_le {n = i} {m = n} (omega arith))

  -- Where no number below the bound passes, nothing is found.
  pub lowest-nothing : (n : ℕ) → ((i : ℕ) → i < n → test i ≡ false) → lowest test n ≡ None
  lowest-nothing n h = go (lowest test n) refl
    where
      go : (o : Option ℕ) → lowest test n ≡ o → o ≡ None
      go None e = refl
      go (Some i) e = let (l, t) = lowest_passes n i e in absurd (true≢false (sym t ∙ h i l))

-- Tests that agree below n find the same there.
pub lowest_agree : (f g : ℕ → Bool) (n : ℕ) → ((i : ℕ) → i < n → f i ≡ g i) → lowest f n ≡ lowest g n
unfolding lowest
lowest_agree f g zero h = refl
lowest_agree f g (suc n) h =
    lowest-suc f n ∙ rw (h n (omega arith), lowest_agree f g n (λ i l. h i (omega arith))) (sym (lowest-suc g n))
