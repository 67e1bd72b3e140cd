-- Checks in words against checks that compute (`decides_first_of`): where each computed check carries its words, given that none before it finds
-- anything, the list in words comes to what the first computed check that finds something names. Assumes nothing.
use Rattle.std.proofs.Common.{◌≡◌, ℕ, ◌↔◌, List, [], ◌∷◌, sym, refl, ◌∙◌, subst, inl, inr}
use Rattle.std.specs.Prelude.{Option, None, Some}
use Rattle.refusal.specs.Table.{number_of, detail_of, or_else, first_of}
use Rattle.refusal.specs.declared.Refusal.{Refusal}
use Rattle.claims_direct.specs.Deciding.{Check, Silent, Decides, AllSilent}

-- A computed check finds a refusal with that number and detail.
abbrev pub Finds : Option Refusal → ℕ → ℕ → Type 0
Finds o n d = (q : Refusal) × (o ≡ Some q) × (number_of q ≡ n) × (detail_of q ≡ d)

-- What the words say is what the computed check finds.
pub record Carries (c : Check) (o : Option Refusal) : Type 0 where
  pub finds_said : (q : Refusal) → o ≡ Some q → (number_of q ≡ c.number) × c.Says (detail_of q)
  pub said_found : (d : ℕ) → c.Says d → Finds o c.number d

-- Check by check, each where none before it finds anything.
abbrev pub Carried : List Check → List (Option Refusal) → Type 0
Carried [] [] = Unit {0}
Carried [] (o ∷ os) = ⊥
Carried (c ∷ later) [] = ⊥
Carried (c ∷ later) (o ∷ os) = Carries c o × (o ≡ None → Carried later os)

silent_none : (c : Check) → Carries c None → Silent c
silent_none c carries d says = let (q, e, number, detail) = carries.said_found d says in cc

-- ---- from the computed checks to the words, and back

found_decides : (checks : List Check) (os : List (Option Refusal)) → Carried checks os → (n d : ℕ) → Finds (first_of os) n d → Decides checks n d
unfolding first_of or_else Decides
found_decides [] [] carried n d (q, e, number, detail) = cc
found_decides [] (o ∷ os) carried n d found = absurd carried
found_decides (c ∷ later) [] carried n d found = absurd carried
found_decides (c ∷ later) (None ∷ os) (carries, rest) n d found = inr (silent_none c carries, found_decides later os (rest refl) n d found)
found_decides (c ∷ later) (Some p ∷ os) (carries, rest) n d (q, e, number, detail) =
    let said = carries.finds_said q e in inl (sym said.0 ∙ number, subst c.Says detail said.1)

decides_found : (checks : List Check) (os : List (Option Refusal)) → Carried checks os → (n d : ℕ) → Decides checks n d → Finds (first_of os) n d
unfolding first_of or_else Decides
decides_found [] [] carried n d decides = absurd decides
decides_found [] (o ∷ os) carried n d decides = absurd carried
decides_found (c ∷ later) [] carried n d decides = absurd carried
decides_found (c ∷ later) (None ∷ os) (carries, rest) n d (inl (number, says)) = absurd (silent_none c carries d says)
decides_found (c ∷ later) (None ∷ os) (carries, rest) n d (inr (silent, decides)) = decides_found later os (rest refl) n d decides
decides_found (c ∷ later) (Some p ∷ os) (carries, rest) n d (inl (number, says)) =
    let (q, e, is_number, detail) = carries.said_found d says in (q, e, is_number ∙ number, detail)
decides_found (c ∷ later) (Some p ∷ os) (carries, rest) n d (inr (silent, decides)) =
    absurd (silent (detail_of p) (carries.finds_said p refl).1)

pub decides_first_of : (checks : List Check) (os : List (Option Refusal)) → Carried checks os
    → (n d : ℕ) → Decides checks n d ↔ Finds (first_of os) n d
decides_first_of checks os carried n d = (decides_found checks os carried n d, found_decides checks os carried n d)

-- ---- where nothing is found nothing is said

silent_of_none : (checks : List Check) (os : List (Option Refusal)) → Carried checks os → first_of os ≡ None → AllSilent checks
unfolding first_of or_else AllSilent
silent_of_none [] [] carried e = tt
silent_of_none [] (o ∷ os) carried e = absurd carried
silent_of_none (c ∷ later) [] carried e = absurd carried
silent_of_none (c ∷ later) (None ∷ os) (carries, rest) e = (silent_none c carries, silent_of_none later os (rest refl) e)
silent_of_none (c ∷ later) (Some p ∷ os) (carries, rest) e = cc

none_of_silent : (checks : List Check) (os : List (Option Refusal)) → Carried checks os → AllSilent checks → first_of os ≡ None
unfolding first_of or_else AllSilent
none_of_silent [] [] carried silent = refl
none_of_silent [] (o ∷ os) carried silent = absurd carried
none_of_silent (c ∷ later) [] carried silent = absurd carried
none_of_silent (c ∷ later) (None ∷ os) (carries, rest) (first, others) = none_of_silent later os (rest refl) others
none_of_silent (c ∷ later) (Some p ∷ os) (carries, rest) (first, others) = absurd (first (detail_of p) (carries.finds_said p refl).1)

pub silent_first_of : (checks : List Check) (os : List (Option Refusal)) → Carried checks os → AllSilent checks ↔ (first_of os ≡ None)
silent_first_of checks os carried = (none_of_silent checks os carried, silent_of_none checks os carried)
