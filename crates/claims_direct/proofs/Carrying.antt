-- How a check that computes carries its words (`Carries`): a test, with a detail or without, and a search for the lowest; and that checks
-- that are themselves lists of checks are one list. Assumes nothing.
use Rattle.std.proofs.Common.{◌≡◌, ℕ, ◌<◌, Bool, true, false, ◌↔◌, List, [], ◌∷◌, ◌++◌, sym, refl, ap, ◌∙◌, subst, true≢false, arith}
use mathlib.Core.Bool.{false≢true}
use Rattle.std.specs.Prelude.{Option, None, Some}
use Rattle.refusal.specs.Table.{number_of, detail_of, refuse_if, refuse_at, first_of}
use Rattle.refusal.specs.declared.Refusal.{Refusal}
use Rattle.lists.specs.Finding.{lowest}
use Rattle.inputs.proofs.Answering.{refuse_at-some, first_of_none, AllNone, first_of_append}
use Rattle.lists.proofs.Lowest.{lowest-first, lowest_passes, lowest-before, lowest-none_fails, lowest-nothing}
use Rattle.claims_direct.specs.Deciding.{naming, plain, LowestBelow}
use Rattle.claims_direct.proofs.Deciding.{Carries}

-- ---- a test

-- The detail is the refusal's own.
pub refuse_if_carries : (b : Bool) (r : Refusal) (Words : ℕ → Type 0) → (b ≡ true → Words (detail_of r))
    → ((d : ℕ) → Words d → (b ≡ true) × (detail_of r ≡ d)) → Carries (naming (number_of r) Words) (refuse_if b r)
unfolding refuse_if
refuse_if_carries true r Words said found =
    record {
      finds_said = λ q e.
          let same : r ≡ q = cc in
          (ap number_of (sym same), subst (λ (p : Refusal). Words (detail_of p)) same (said refl));
      said_found = λ d w. (r, refl, refl, (found d w).1);
    }
refuse_if_carries false r Words said found =
    record { finds_said = λ q e. cc; said_found = λ d w. absurd (false≢true (found d w).0) }

pub refuse_if-plain : (b : Bool) (r : Refusal) (Words : Type 0) → detail_of r ≡ 0 → (b ≡ true) ↔ Words
    → Carries (plain (number_of r) Words) (refuse_if b r)
refuse_if-plain b r Words none_named same =
    refuse_if_carries b r (λ d. Words × (d ≡ 0)) (λ t. (same.0 t, none_named)) (λ d w. (same.1 w.0, none_named ∙ sym w.1))

-- ---- a search for the lowest

module _ (test : ℕ → Bool) (n : ℕ) (Such : ℕ → Type 0) (same : (i : ℕ) → i < n → (test i ≡ true) ↔ Such i) where
  fails : (i : ℕ) → i < n → (Such i → ⊥) → test i ≡ false
  fails i l other = go (test i) refl
    where
      go : (b : Bool) → test i ≡ b → test i ≡ false
      go true e = absurd (other ((same i l).0 e))
      go false e = e

  lowest-below : (d : ℕ) → lowest test n ≡ Some d → LowestBelow n Such d
  lowest-below d e =
      let (l, t) = lowest_passes test n d e in
      record {
        inside = l;
        such = (same d l).0 t;
        none_lower = λ i k s.
            true≢false (sym ((same i (omega arith)).1 s) ∙ lowest-none_fails test d i (lowest-before test n d e) k);
      }

  below-lowest : (d : ℕ) → LowestBelow n Such d → lowest test n ≡ Some d
  below-lowest d low =
      lowest-first test d n low.inside
      (lowest-nothing test d (λ i k. fails i (omega (arith, low.inside)) (low.none_lower i k)))
      ((same d low.inside).1 low.such)

  module _ (number : ℕ) (refusal : ℕ → Refusal) (its-number : (d : ℕ) → number_of (refusal d) ≡ number) (its-detail : (d : ℕ) → detail_of (refusal d) ≡ d) where
    -- Whatever is found, the refusal names it.
    found_said : (o : Option ℕ) → lowest test n ≡ o → (q : Refusal) → refuse_at o refusal ≡ Some q
        → (number_of q ≡ number) × LowestBelow n Such (detail_of q)
    unfolding refuse_at
    found_said None e q f = cc
    found_said (Some d) e q f =
        let is : refusal d ≡ q = cc in (
          ap number_of (sym is) ∙ its-number d,
          subst (LowestBelow n Such) (sym (its-detail d) ∙ ap detail_of is) (lowest-below d e),
        )

    pub lowest_carries : Carries (naming number (LowestBelow n Such)) (refuse_at (lowest test n) refusal)
    lowest_carries =
        record {
          finds_said = found_said (lowest test n) refl;
          said_found = λ d low. (refusal d, refuse_at-some (lowest test n) refusal d (below-lowest d low), its-number d, its-detail d);
        }

-- ---- lists of checks in a list of checks

pub all_none_first_of : (checks : List (Option Refusal)) → AllNone checks → first_of checks ≡ None
unfolding first_of
all_none_first_of [] h = refl
all_none_first_of (check ∷ later) (e, h) = first_of_none check later e ∙ all_none_first_of later h

pub first_of_flatten : (checks later : List (Option Refusal)) → first_of (first_of checks ∷ later) ≡ first_of (checks ++ later)
unfolding first_of
first_of_flatten checks later = sym (first_of_append checks later)
