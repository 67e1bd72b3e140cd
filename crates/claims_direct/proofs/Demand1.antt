-- Demand 1 for the direct call (`demand_1`): what the call ensures is what the demand asks in the papers' words, whatever it is handed. The
-- computed checks carry their words (`DirectWords`), so both name the same number and detail; what is solved is `demand_3`, and what is lent beyond
-- the answers is in `Beyond`. Assumes nothing.
use Rattle.std.proofs.Common.{◌≡◌, ℕ, ◌↔◌, List, [], ◌∷◌, length, get_or, sym, refl, ap, ◌∙◌}
use Rattle.std.specs.Prelude.{Option, None, Some, Err, Ok}
use lib.Ieee.{Float}
use Rattle.refusal.specs.Table.{number_of, detail_of}
use Rattle.refusal.specs.declared.Refusal.{Refusal}
use Rattle.inputs.specs.Inputs.{input_refusal}
use Rattle.inputs.proofs.Answering.{AllNone, first_of_none_all}
use Rattle.placing.specs.Grid.{Grid}
use Rattle.placing.specs.Estimate.{transforms, chains}
use Rattle.extrinsics.specs.Outcome.{not_finite, unreached, empty_view, grid_refusal, outcome_of, answered, Outcome}
use Rattle.extrinsics.specs.Direct.{direct_grid, direct_refusal, Direct}
use Rattle.claims_direct.specs.Deciding.{Decides}
use Rattle.claims_direct.specs.Demand3.{RefusedBy, WellFormed, EveryCameraChained, EveryViewHolds}
use Rattle.claims_direct.specs.Demand1.{direct_checks, BeyondUnchanged, Demand1}
use Rattle.claims_direct.proofs.Deciding.{decides_first_of}
use Rattle.claims_direct.proofs.WellFormed.{PassesBefore8, passes_before_8}
use Rattle.claims_direct.proofs.DirectWords.{direct_found, direct_refusal_found, direct_carried}
use Rattle.claims_direct.proofs.Demand3.{demand_3}
use Rattle.claims_direct.proofs.Beyond.{beyond_unchanged-answered}

-- ---- an outcome by what is refused

outcome_of-refused : (o : Option Refusal) (q : Refusal) → outcome_of o ≡ Err q → o ≡ Some q
unfolding outcome_of
outcome_of-refused None q e = cc
outcome_of-refused (Some p) q e = cc

outcome_of_solved : (o : Option Refusal) → outcome_of o ≡ Ok tt → o ≡ None
unfolding outcome_of
outcome_of_solved None e = refl
outcome_of_solved (Some p) e = cc

module _ (counts marks : List ℕ) (floats : List Float) (reference : ℕ) (first : List Float) (second : List ℕ)
    (r : Outcome) (first' : List Float) (second' : List ℕ) (call : Direct counts marks floats reference first second r first' second') where
  abbrev views : ℕ
  views = length counts

  abbrev cameras : ℕ
  cameras = get_or counts 0 0

  abbrev grid : Grid
  grid = direct_grid counts marks floats reference

  abbrev refusal : Option Refusal
  refusal = direct_refusal counts marks floats reference (length first) (length second)

  refused_exactly : (n d : ℕ) → RefusedBy r n d ↔ Decides (direct_checks counts marks floats reference (length first) (length second)) n d
  unfolding outcome_of
  refused_exactly n d =
      let found = direct_refusal_found counts marks floats reference first second in
      let both =
      decides_first_of (direct_checks counts marks floats reference (length first) (length second)) (direct_found counts marks floats reference first second)
      (direct_carried counts marks floats reference first second) n d in (
        λ by. both.1 (by.0, sym found ∙ outcome_of-refused refusal by.0 (sym call.outcome ∙ by.1), by.2, by.3),
        λ decided. let f = both.0 decided in (f.0, call.outcome ∙ ap outcome_of (found ∙ f.1), f.2, f.3),
      )

  -- ---- solved

  solved_passes : r ≡ Ok tt → PassesBefore8 counts marks floats reference (length first) (length second)
  unfolding direct_refusal grid_refusal
  solved_passes e =
      let free : refusal ≡ None = outcome_of_solved refusal (sym call.outcome ∙ e) in
      let all : AllNone (input_refusal counts marks (length floats) reference (length first) (length second) ∷ grid_refusal grid ∷ []) =
      first_of_none_all (input_refusal counts marks (length floats) reference (length first) (length second) ∷ grid_refusal grid ∷ []) free in
      let of_grid : AllNone (not_finite grid ∷ unreached grid ∷ empty_view grid ∷ []) =
      first_of_none_all (not_finite grid ∷ unreached grid ∷ empty_view grid ∷ []) all.1.0 in
      record { passes_1_to_6 = all.0; passes_7 = of_grid.0 }

  solved_exactly : (r ≡ Ok tt)
      ↔ (WellFormed counts marks floats reference (length first) (length second)
      × (EveryCameraChained marks cameras views reference × EveryViewHolds marks cameras views))
  solved_exactly = (
    λ e.
        let formed = (passes_before_8 counts marks floats reference (length first) (length second)).0 (solved_passes e) in
        (formed, (demand_3 counts marks floats reference first second r first' second' formed call).solved_exactly.0 e),
    λ w. (demand_3 counts marks floats reference first second r first' second' w.0 call).solved_exactly.1 w.1,
  )

  -- What is lent beyond the answers.
  beyond : r ≡ Ok tt → BeyondUnchanged views cameras first second first' second'
  unfolding direct_grid
  beyond e =
      let free : refusal ≡ None = outcome_of_solved refusal (sym call.outcome ∙ e) in
      let formed = (passes_before_8 counts marks floats reference (length first) (length second)).0 (solved_passes e) in
      let first-is : first' ≡ answered None (transforms grid) first =
      call.first_answer ∙ ap (λ (o : Option Refusal). answered o (transforms grid) first) free in
      let second_is : second' ≡ answered None (chains grid) second =
      call.second_answer ∙ ap (λ (o : Option Refusal). answered o (chains grid) second) free in
      rw (first-is, second_is) (beyond_unchanged-answered grid first second formed.first_fits formed.second_fits)

  -- ---- refused

  unchanged : (r ≡ Ok tt → ⊥) → ((n : ℕ) × (d : ℕ) × RefusedBy r n d) × (first' ≡ first) × (second' ≡ second)
  unfolding outcome_of answered
  unchanged n = go refusal refl
    where
      go : (o : Option Refusal) → refusal ≡ o → ((n : ℕ) × (d : ℕ) × RefusedBy r n d) × (first' ≡ first) × (second' ≡ second)
      go None e = absurd (n (call.outcome ∙ ap outcome_of e))
      go (Some q) e = (
        (number_of q, detail_of q, (q, call.outcome ∙ ap outcome_of e, refl, refl)),
        call.first_answer ∙ ap (λ (o : Option Refusal). answered o (transforms grid) first) e,
        call.second_answer ∙ ap (λ (o : Option Refusal). answered o (chains grid) second) e,
      )

-- Whatever the direct call is handed and lent: what it ensures is demand 1.
pub demand_1 : (counts marks : List ℕ) (floats : List Float) (reference : ℕ) (first : List Float) (second : List ℕ)
    (r : Outcome) (first' : List Float) (second' : List ℕ)
    → Direct counts marks floats reference first second r first' second'
    → Demand1 counts marks floats reference first second r first' second'
demand_1 counts marks floats reference first second r first' second' call =
    record {
      refused_exactly = refused_exactly counts marks floats reference first second r first' second' call;
      solved_exactly = solved_exactly counts marks floats reference first second r first' second' call;
      otherwise_unchanged = unchanged counts marks floats reference first second r first' second' call;
      beyond_unchanged = beyond counts marks floats reference first second r first' second' call;
    }
