-- The answer of an estimate on a grid: which refusal comes first, what a refusal leaves, what a solved rig leaves, and that the tree of a rig's masks is the tree of its grid.
-- Assumes nothing.
use Prim.Native.Nat.{ℕ, zero, suc, ◌+◌, ◌%◌, ◌^◌, ◌≤◌, ◌<◌}
use native.Mathlib.Nat.{lt_of_lt_of_le, div-eq_of_lt, eq-or-lt_of_le, le_of_suc-le-suc}
use native.Mathlib.Omega.{arith}
use mathlib.Core.Path.{◌≡◌, refl, sym, ap, ◌∙◌, subst}
use mathlib.Core.Logic.{⊎_elim}
use mathlib.Core.Bool.{Bool, true, false, not, cond}
use Rattle.std.specs.Prelude.{Option, None, Some}
use mathlib.Core.List.{List, [], ◌∷◌, ◌++◌}
use borrow.Author.Tests.{ne_eqb, eq-eqb, not-false}
use lib.ListN.{length, get_or, drop, length-append}
use lib.Dec.{T, eqb}
use lib.Ieee.{Float}
use lib.Pow.{pow_mono, pow_pos}
use Rattle.arithmetic.specs.Pose.{flat}
use Rattle.refusal.specs.Table.{refuse_if, first_of}
use Rattle.refusal.specs.declared.Refusal.{Refusal}
use Rattle.refusal.specs.declared.Refusal.TheVariants.{NotFinite, Unreached, EmptyView}
use Rattle.limits.specs.Limits.{one_view, first_needs, second_needs}
use Rattle.lists.specs.Masks.{in_mask}
use Rattle.chains.specs.Masks.{shared_by}
use Rattle.chains.specs.Layers.{layers}
use Rattle.placing.specs.Grid.{Grid, holds, spots, has_place, parent, link_count}
use Rattle.lists.specs.Lists.{gather}
use Rattle.placing.specs.Estimate.{transforms, chains, rig_se3_cam, rig_se3_target}
use Rattle.lists.specs.Finding.{power_sum}
use Rattle.extrinsics.specs.Outcome.{lowest_not_finite, not_finite, unreached_set, unreached, lowest_empty_view, empty_view, grid_refusal, outcome_of, answered, Answers}
use Rattle.placing.specs.Rig.{rig_grid}
use Rattle.placing.specs.Inner.Fitting.{Fitting}
use Rattle.placing.specs.Inner.Placed.{Written}
use Rattle.placing.specs.declared.grid.Rig.{Rig}
use Rattle.lists.proofs.Blocks.{length-gather}
use Rattle.chains.proofs.Reading.{layers_of_masks}
use Rattle.placing.proofs.ViewCells.{holds-in_mask}
use Rattle.placing.proofs.Rooting.{AllPlaced}
use Rattle.inputs.proofs.Answering.{refuse_at-some, refuse_at-none, first_of_some, first_of_none}
use Rattle.std.specs.Prelude.{Err, Ok}

-- ---- the tree of a rig

-- No bit is set at or past a power of two that the mask is below.
pub in_mask_past : (mask n v : ℕ) → mask < 2 ^ n → n ≤ v → in_mask mask v ≡ false
unfolding in_mask
in_mask_past mask n v h l = ap (λ (q : ℕ). eqb (q % 2) 1) (div-eq_of_lt (lt_of_lt_of_le h (pow_mono l)))

pub spots_masks : (r : Rig) (floats : List Float) → Fitting r floats
    → layers r.cameras (shared_by r.masks) one_view r.reference ≡ spots (rig_grid r floats)
unfolding spots rig_grid
spots_masks r floats fit =
    layers_of_masks r.masks (holds (rig_grid r floats)) r.cameras r.views one_view r.reference fit.views_fit
    (λ c v h k. sym (holds-in_mask r floats v c k h)) (λ c v h l k. in_mask_past (get_or r.masks c 0) r.views v (fit.masks_fit c h) l)

-- ---- which refusal comes first

power_sum-zero_last : (test : ℕ → Bool) (n : ℕ) → power_sum test (suc n) ≡ 0 → (power_sum test n ≡ 0) × (test n ≡ false)
unfolding power_sum
power_sum-zero_last test n e = go (test n) e
  where
    go : (b : Bool) → power_sum test n + cond b (2 ^ n) 0 ≡ 0 → (power_sum test n ≡ 0) × (b ≡ false)
    go true z = absurd (omega (arith, pow_pos n))
    go false z = (omega arith, refl)

pub power_sum-zero : (test : ℕ → Bool) (n i : ℕ) → power_sum test n ≡ 0 → i < n → test i ≡ false
power_sum-zero test zero i e h = absurd (omega arith)
power_sum-zero test (suc n) i e h =
    let l = power_sum-zero_last test n e in
    ⊎_elim (λ s. ap test s ∙ l.1) (λ k. power_sum-zero test n i l.0 k) (eq-or-lt_of_le (le_of_suc-le-suc h))

module _ (g : Grid) where
  pub refused-not_finite : (i : ℕ) → lowest_not_finite g ≡ Some i → grid_refusal g ≡ Some (NotFinite i)
  unfolding grid_refusal not_finite
  refused-not_finite i e =
      first_of_some (not_finite g) (unreached g ∷ empty_view g ∷ []) (NotFinite i) (refuse_at-some (lowest_not_finite g) NotFinite i e)

  module _ (finite : lowest_not_finite g ≡ None) where
    after_finite : grid_refusal g ≡ first_of (unreached g ∷ empty_view g ∷ [])
    unfolding grid_refusal not_finite
    after_finite = first_of_none (not_finite g) (unreached g ∷ empty_view g ∷ []) (refuse_at-none (lowest_not_finite g) NotFinite finite)

    pub refused-unreached : (unreached_set g ≡ 0 → ⊥) → grid_refusal g ≡ Some (Unreached (unreached_set g))
    unfolding unreached refuse_if
    refused-unreached n =
        after_finite
        ∙ first_of_some (unreached g) (empty_view g ∷ []) (Unreached (unreached_set g))
        (ap (λ (b : Bool). refuse_if (not b) (Unreached (unreached_set g))) (ne_eqb (unreached_set g) 0 n))

    module _ (reached : unreached_set g ≡ 0) where
      pub all_placed : AllPlaced g
      unfolding unreached_set
      all_placed c h =
          subst T (sym (not-false (has_place g c) (power_sum-zero (λ i. not (has_place g i)) g.cameras c reached h))) tt

      after_reached : grid_refusal g ≡ first_of (empty_view g ∷ [])
      unfolding unreached refuse_if
      after_reached =
          after_finite
          ∙ first_of_none (unreached g) (empty_view g ∷ [])
          (ap (λ (b : Bool). refuse_if (not b) (Unreached (unreached_set g))) (eq-eqb (unreached_set g) 0 reached))

      pub refused-empty_view : (v : ℕ) → lowest_empty_view g ≡ Some v → grid_refusal g ≡ Some (EmptyView v)
      unfolding empty_view
      refused-empty_view v e =
          after_reached ∙ first_of_some (empty_view g) [] (EmptyView v) (refuse_at-some (lowest_empty_view g) EmptyView v e)

      pub not-refused : lowest_empty_view g ≡ None → grid_refusal g ≡ None
      unfolding empty_view first_of
      not-refused e = after_reached ∙ first_of_none (empty_view g) [] (refuse_at-none (lowest_empty_view g) EmptyView e)

-- ---- what then stands in the answers

module _ (refusal : Option Refusal) (g : Grid) (first : List Float) (second : List ℕ) where
  pub answers-refused : (r : Refusal) → refusal ≡ Some r → Answers refusal g first second (Err r) first second
  unfolding outcome_of answered
  answers-refused r e =
      record {
        outcome = sym (ap outcome_of e);
        first_answer = sym (ap (λ (o : Option Refusal). answered o (transforms g) first) e);
        second_answer = sym (ap (λ (o : Option Refusal). answered o (chains g) second) e);
      }

  length-transforms : length (transforms g) ≡ first_needs g.cameras g.views
  unfolding transforms
  length-transforms =
      length-append (gather g.cameras (λ c. flat (rig_se3_cam g c))) (gather g.views (λ v. flat (rig_se3_target g v)))
      ∙ omega (
        arith,
        length-gather (λ c. flat (rig_se3_cam g c)) 7 (λ i. refl) g.cameras,
        length-gather (λ v. flat (rig_se3_target g v)) 7 (λ i. refl) g.views,
      )

  length-chains : length (chains g) ≡ second_needs g.cameras
  unfolding chains
  length-chains = length-gather (λ c. parent g c ∷ link_count g c ∷ []) 2 (λ i. refl) g.cameras

  pub answers_solved : (first' : List Float) (second' : List ℕ) → refusal ≡ None → Written g (parent g) (link_count g) first second first' second'
      → Answers refusal g first second (Ok tt) first' second'
  unfolding outcome_of answered transforms chains
  answers_solved first' second' e written =
      record {
        outcome = sym (ap outcome_of e);
        first_answer =
            written.first_written
            ∙ ap (λ (n : ℕ). transforms g ++ drop n first) (sym length-transforms)
            ∙ sym (ap (λ (o : Option Refusal). answered o (transforms g) first) e);
        second_answer =
            written.second_written
            ∙ ap (λ (n : ℕ). chains g ++ drop n second) (sym length-chains)
            ∙ sym (ap (λ (o : Option Refusal). answered o (chains g) second) e);
      }
