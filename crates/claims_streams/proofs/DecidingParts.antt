-- Lists of checks in words put together: one after the other (`comes_append`), and where a condition holds or fails (`comes_when`). Rests on the checks
-- of `Deciding`. Assumes nothing.
use Prim.Native.Nat.{ℕ}
use native.Mathlib.Omega.{arith}
use mathlib.Core.Path.{◌≡◌, refl, sym, subst}
use mathlib.Core.Logic.{◌↔◌, ◌⊎◌, inl, inr}
use Rattle.std.specs.Prelude.{Option, None, Some}
use mathlib.Core.List.{List, [], ◌∷◌, ◌++◌}
use Rattle.refusal.specs.Table.{number_of, detail_of, or_else, first_of}
use Rattle.refusal.specs.declared.Refusal.{Refusal}
use Rattle.claims_direct.specs.Deciding.{Check, Silent, Decides, AllSilent}
use Rattle.claims_direct.proofs.Deciding.{Finds, Carries, Carried, decides_first_of, silent_first_of}
use Rattle.claims_streams.specs.CallDemand1.{when}

-- What the list in words comes to is what a computation finds.
pub record Comes (checks : List Check) (o : Option Refusal) : Type 0 where
  pub decided : (n d : ℕ) → Decides checks n d ↔ Finds o n d
  pub silent : AllSilent checks ↔ (o ≡ None)

pub some-not-none : {q : Refusal} → Some q ≡ None → ⊥
some-not-none e = let clash : ◌≡◌ {A = ℕ} 0 1 = cc in omega arith

pub some_same : (p q : Refusal) → Some p ≡ Some q → p ≡ q
some_same p q e = cc

pub comes_carried : (checks : List Check) (os : List (Option Refusal)) → Carried checks os → Comes checks (first_of os)
comes_carried checks os carried = record { decided = decides_first_of checks os carried; silent = silent_first_of checks os carried }

-- ---- silent lists

silent_undecided : (checks : List Check) (n d : ℕ) → AllSilent checks → Decides checks n d → ⊥
unfolding Decides AllSilent
silent_undecided [] n d silent decides = decides
silent_undecided (c ∷ later) n d (first, others) (inl (number, says)) = first d says
silent_undecided (c ∷ later) n d (first, others) (inr (quiet, decides)) = silent_undecided later n d others decides

pub comes_silent : (checks : List Check) → AllSilent checks → Comes checks None
comes_silent checks all =
    record {
      decided = λ n d. (λ decides. absurd (silent_undecided checks n d all decides), λ found. absurd (some-not-none (sym found.1)));
      silent = (λ s. refl, λ e. all);
    }

-- ---- one list after another

module _ (b : List Check) where
  after_silent : (a : List Check) (n d : ℕ) → AllSilent a → Decides b n d → Decides (a ++ b) n d
  unfolding Decides AllSilent
  after_silent [] n d silent decides = decides
  after_silent (c ∷ later) n d (first, others) decides = inr (first, after_silent later n d others decides)

  past_silent : (a : List Check) (n d : ℕ) → AllSilent a → Decides (a ++ b) n d → Decides b n d
  unfolding Decides AllSilent
  past_silent [] n d silent decides = decides
  past_silent (c ∷ later) n d (first, others) (inl (number, says)) = absurd (first d says)
  past_silent (c ∷ later) n d (first, others) (inr (quiet, decides)) = past_silent later n d others decides

  silent_both : (a : List Check) → AllSilent (a ++ b) ↔ (AllSilent a × AllSilent b)
  unfolding AllSilent
  silent_both [] = (λ s. (tt, s), λ s. s.1)
  silent_both (c ∷ later) = (
    λ s. let (a, b) = (silent_both later).0 s.1 in ((s.0, a), b),
    λ s. (s.0.0, (silent_both later).1 (s.0.1, s.1)),
  )

  decides_left : (a : List Check) (n d : ℕ) → Decides a n d → Decides (a ++ b) n d
  unfolding Decides
  decides_left [] n d decides = absurd decides
  decides_left (c ∷ later) n d (inl said) = inl said
  decides_left (c ∷ later) n d (inr (quiet, decides)) = inr (quiet, decides_left later n d decides)

  -- Where the first list comes to something, nothing after it counts.
  left_decides : (a : List Check) (n d n' d' : ℕ) → Decides a n d → Decides (a ++ b) n' d' → Decides a n' d'
  unfolding Decides
  left_decides [] n d n' d' left decides = absurd left
  left_decides (c ∷ later) n d n' d' left (inl said) = inl said
  left_decides (c ∷ later) n d n' d' (inl (number, says)) (inr (quiet, decides)) = absurd (quiet d says)
  left_decides (c ∷ later) n d n' d' (inr (quiet, left)) (inr (quiet', decides)) = inr (quiet, left_decides later n d n' d' left decides)

  pub comes_append : (a : List Check) (o o' : Option Refusal) → Comes a o → (o ≡ None → Comes b o') → Comes (a ++ b) (or_else o o')
  unfolding or_else
  comes_append a None o' comes next =
      let all = comes.silent.1 refl in
      let later = next refl in
      record {
        decided = λ n d. (
          λ decides. (later.decided n d).0 (past_silent a n d all decides),
          λ found. after_silent a n d all ((later.decided n d).1 found),
        );
        silent = (λ s. later.silent.0 ((silent_both a).0 s).1, λ e. (silent_both a).1 (all, later.silent.1 e));
      }
  comes_append a (Some q) o' comes next =
      let here = (comes.decided (number_of q) (detail_of q)).1 (q, refl, refl, refl) in
      record {
        decided = λ n d. (
          λ decides. (comes.decided n d).0 (left_decides a (number_of q) (detail_of q) n d here decides),
          λ found. decides_left a n d ((comes.decided n d).1 found),
        );
        silent = (λ s. absurd (some-not-none (comes.silent.0 ((silent_both a).0 s).0)), λ e. absurd (some-not-none e));
      }

-- ---- checks under a condition

module _ (P : Type 0) where
  when_fails : (P → ⊥) → (checks : List Check) → AllSilent (when P checks)
  unfolding AllSilent when
  when_fails fails [] = tt
  when_fails fails (c ∷ later) = (λ d says. fails says.0, when_fails fails later)

  pub comes_when-not : (P → ⊥) → (checks : List Check) → Comes (when P checks) None
  comes_when-not fails checks = comes_silent (when P checks) (when_fails fails checks)

  module _ (p : P) where
    when_decides : (checks : List Check) (n d : ℕ) → Decides (when P checks) n d ↔ Decides checks n d
    unfolding Decides when
    when_decides [] n d = (λ x. x, λ x. x)
    when_decides (c ∷ later) n d = (forth (when_decides later n d).0, back (when_decides later n d).1)
      where
        forth : (Decides (when P later) n d → Decides later n d)
            → ((c.number ≡ n) × (P × c.Says d)) ⊎ (((e : ℕ) → P × c.Says e → ⊥) × Decides (when P later) n d)
            → ((c.number ≡ n) × c.Says d) ⊎ (((e : ℕ) → c.Says e → ⊥) × Decides later n d)
        forth more (inl (number, (_, says))) = inl (number, says)
        forth more (inr (quiet, decides)) = inr (λ e says. quiet e (p, says), more decides)

        back : (Decides later n d → Decides (when P later) n d)
            → ((c.number ≡ n) × c.Says d) ⊎ (((e : ℕ) → c.Says e → ⊥) × Decides later n d)
            → ((c.number ≡ n) × (P × c.Says d)) ⊎ (((e : ℕ) → P × c.Says e → ⊥) × Decides (when P later) n d)
        back more (inl (number, says)) = inl (number, (p, says))
        back more (inr (quiet, decides)) = inr (λ e says. quiet e says.1, more decides)

    when_silent : (checks : List Check) → AllSilent (when P checks) ↔ AllSilent checks
    unfolding AllSilent when
    when_silent [] = (λ x. x, λ x. x)
    when_silent (c ∷ later) = (
      λ s. (λ d says. s.0 d (p, says), (when_silent later).0 s.1),
      λ s. (λ d says. s.0 d says.1, (when_silent later).1 s.1),
    )

    pub comes_when : (checks : List Check) (o : Option Refusal) → Comes checks o → Comes (when P checks) o
    comes_when checks o comes =
        record {
          decided = λ n d. (
            λ x. (comes.decided n d).0 ((when_decides checks n d).0 x),
            λ x. (when_decides checks n d).1 ((comes.decided n d).1 x),
          );
          silent = (λ s. comes.silent.0 ((when_silent checks).0 s), λ e. (when_silent checks).1 (comes.silent.1 e));
        }

-- ---- one check against what is computed

pub carries_none : (c : Check) → Silent c → Carries c None
carries_none c quiet =
    record { finds_said = λ q e. absurd (some-not-none (sym e)); said_found = λ d says. absurd (quiet d says) }

pub carries_some : (c : Check) (r : Refusal) → number_of r ≡ c.number → c.Says (detail_of r) → ((d : ℕ) → c.Says d → detail_of r ≡ d) → Carries c (Some r)
carries_some c r number said only =
    record {
      finds_said = λ q e.
          let same : r ≡ q = cc in
          subst (λ (x : Refusal). (number_of x ≡ c.number) × c.Says (detail_of x)) same (number, said);
      said_found = λ d says. (r, refl, number, only d says);
    }
