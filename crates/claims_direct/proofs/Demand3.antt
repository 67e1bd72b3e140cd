-- Demand 3, whole: whatever the direct call leaves, on every well-formed grid, is what the demand asks (`demand_3`).
-- The marks give the same layers as the grid (`spots-marked`), so the chain theorem speaks of the marks; what the answers hold is read
-- back block by block; and one of three cases holds, from which every sentence follows. Assumes nothing.
use Rattle.std.proofs.Common.{◌≡◌, ℕ, ◌*◌, ◌<◌, ◌≤◌, Bool, true, not, T, ◌≢◌, ◌⊎◌, ◌↔◌, List, ◌++◌, length, get_or, drop, sym, refl, ap, ◌∙◌, subst, ap₂, inl, inr, ⊎_elim, arith, T_not}
use native.Mathlib.Decide.{ℕ_discrete}
use Rattle.std.specs.Prelude.{Option, None, Some, Ok}
use lib.Dec.{not_T}
use lib.Ieee.{Float}
use Rattle.arithmetic.specs.Pose.{identity_pose, mul_pose}
use Rattle.mean.specs.Average.{average_isometries}
use Rattle.refusal.specs.declared.Refusal.{Refusal}
use Rattle.refusal.specs.declared.Refusal.TheVariants.{Unreached, EmptyView}
use Rattle.limits.specs.Limits.{one_view}
use Rattle.chains.specs.Layers.{spot_at, layers}
use Rattle.chains.specs.Layered.{Layered}
use Rattle.placing.specs.Grid.{Grid, shared_views, spots, has_place, parent, link_count}
use Rattle.placing.specs.Estimate.{rig_se3_cam, rig_se3_target, transforms, chains}
use Rattle.extrinsics.specs.Outcome.{lowest_not_finite, not_finite, unreached_set, is_empty_view, lowest_empty_view, grid_refusal, outcome_of, answered, Outcome}
use Rattle.extrinsics.specs.Direct.{direct_grid, direct_refusal, Direct}
use Rattle.claims_direct.specs.Deciding.{LowestBelow}
use Rattle.claims_direct.specs.Demand3.{WellFormed, marked_shared, EveryViewHolds, Chained, EveryCameraChained, NamesUnchained, HoldsAPose, reported_parent, reported_links, reported_camera, reported_view, averaged_link_over, targets_over, SolvedRig, RefusedUnchained, RefusedEmpty, Demand3}
use Rattle.inputs.proofs.Answering.{Sizes, refuse_at-nothing}
use Rattle.chains.proofs.Placing.{is_placed_parts, placed_is_placed}
use Rattle.chains.proofs.Theorem.{LayeredSpots, layered, layers_agree}
use Rattle.chains.proofs.Reports.{layered_report}
use Rattle.placing.proofs.RigPoses.{rig_se3_cam-reference, rig_se3_cam-parent}
use Rattle.lists.proofs.Lowest.{lowest_passes, lowest-before, lowest-none_fails}
use Rattle.claims_direct.proofs.Naming.{in_mask-power_sum_iff, power_sum-in_mask, power_sum-some}
use Rattle.extrinsics.proofs.Solving.{refused-unreached, all_placed, refused-empty_view, not-refused}
use Rattle.claims_direct.proofs.ReadBack.{reported_parent-chains, reported_links-chains, reported_camera-transforms, reported_view-transforms}
use Rattle.claims_direct.proofs.WellFormed.{PassesBefore8, passes_before_8}
use Rattle.claims_direct.proofs.MarkedViews.{shared_views-marked, empty-holds-none, not-empty-holds, averaged_link-marked, target_candidates-marked}
use Rattle.extrinsics.proofs.DirectCall.{input_sizes, input_marks, direct_is_grid}

-- ---- a grid that passes the checks before 8

module _ (counts marks : List ℕ) (floats : List Float) (reference : ℕ) (first : List Float) (second : List ℕ)
    (passes : PassesBefore8 counts marks floats reference (length first) (length second)) where
  abbrev views : ℕ
  views = length counts

  abbrev cameras : ℕ
  cameras = get_or counts 0 0

  abbrev grid : Grid
  grid = direct_grid counts marks floats reference

  abbrev w : ℕ → ℕ → ℕ
  w = marked_shared marks cameras views

  sizes : Sizes views cameras reference
  sizes = input_sizes counts marks (length floats) reference (length first) (length second) passes.passes_1_to_6

  small : (i : ℕ) → i < views * cameras → get_or marks i 0 ≤ 1
  small = input_marks counts marks (length floats) reference (length first) (length second) passes.passes_1_to_6

  finite : lowest_not_finite grid ≡ None
  unfolding not_finite
  finite = refuse_at-nothing _ _ passes.passes_7

  -- The marks give the grid's layers, and the chain theorem speaks of the marks.
  spots-marked : spots grid ≡ layers cameras w one_view reference
  unfolding spots direct_grid
  spots-marked =
      layers_agree cameras (shared_views grid) w one_view reference (λ a b h k n. shared_views-marked counts marks floats reference small a b h k)

  by_marks : LayeredSpots cameras w one_view reference (spots grid)
  by_marks = subst (LayeredSpots cameras w one_view reference) (sym spots-marked) (layered cameras w one_view reference sizes.reference_inside)

  -- ---- the cameras without a chain

  pub unplaced_unchained : (c : ℕ) → c < cameras → T (not (has_place grid c)) ↔ (Chained marks cameras views reference c → ⊥)
  unplaced_unchained c h =
      let both = by_marks.placed_with_chain c h in
      (λ t s. T_not (has_place grid c) t (both.1 s), λ n. not_T (has_place grid c) (λ t. n (both.0 t)))

  pub names_unchained : NamesUnchained marks cameras views reference (unreached_set grid)
  unfolding unreached_set direct_grid
  names_unchained =
      let test : ℕ → Bool = λ c. not (has_place grid c) in
      record {
        names = λ c.
            let named = in_mask-power_sum_iff test cameras c in
            (λ t. let p = named.0 t in (p.0, (unplaced_unchained c p.0).0 p.1), λ p. named.1 (p.0, (unplaced_unchained c p.0).1 p.1));
        sums = power_sum-in_mask test cameras;
      }

  pub some_unchained : (unreached_set grid ≡ 0 → ⊥) → (c : ℕ) × (c < cameras) × (Chained marks cameras views reference c → ⊥)
  unfolding unreached_set direct_grid
  some_unchained other =
      let (c, h, e) = power_sum-some (λ i. not (has_place grid i)) cameras other in
      (c, h, (unplaced_unchained c h).0 (subst T (sym e) tt))

  -- ---- the lowest empty view

  lowest-empty : (v : ℕ) → lowest_empty_view grid ≡ Some v → LowestBelow views (λ u. HoldsAPose marks cameras u → ⊥) v
  unfolding lowest_empty_view direct_grid
  lowest-empty v e =
      let (h, t) = lowest_passes (is_empty_view grid) views v e in
      record {
        inside = h;
        such = empty-holds-none counts marks floats reference small v h t;
        none_lower = λ u l empty.
            empty
            (not-empty-holds counts marks floats reference small u (omega arith)
            (lowest-none_fails (is_empty_view grid) v u (lowest-before (is_empty_view grid) views v e) l));
      }

  every_view_holds : lowest_empty_view grid ≡ None → EveryViewHolds marks cameras views
  unfolding lowest_empty_view direct_grid
  every_view_holds e v h =
      not-empty-holds counts marks floats reference small v h (lowest-none_fails (is_empty_view grid) views v e h)

  -- ---- a solved rig

  module _ (reached : unreached_set grid ≡ 0) where
    every_placed : (c : ℕ) → c < cameras → T (has_place grid c)
    unfolding direct_grid
    every_placed = all_placed grid finite reached

    every_has_place : (c : ℕ) → c < cameras → has_place grid c ≡ true
    every_has_place c h = placed_is_placed _ _ (spot_at (spots grid) c) (is_placed_parts (spot_at (spots grid) c) (every_placed c h))

    pub every_chained : EveryCameraChained marks cameras views reference
    every_chained c h = (by_marks.placed_with_chain c h).0 (every_placed c h)

    module _ (front : List Float) (back : List ℕ) where
      abbrev first' : List Float
      first' = transforms grid ++ front

      abbrev second' : List ℕ
      second' = chains grid ++ back

      same_parent : (c : ℕ) → c < cameras → reported_parent second' c ≡ parent grid c
      unfolding direct_grid
      same_parent c h = reported_parent-chains grid back c h

      same_links : (c : ℕ) → c < cameras → reported_links second' c ≡ link_count grid c
      unfolding direct_grid
      same_links c h = reported_links-chains grid back c h

      same_pose : (c : ℕ) → c < cameras → reported_camera first' c ≡ rig_se3_cam grid c
      unfolding direct_grid
      same_pose c h = reported_camera-transforms grid front c h

      solved_chains : Layered cameras w one_view reference (λ c. true) (reported_parent second') (reported_links second')
      solved_chains =
          layered_report cameras w one_view reference sizes.reference_inside (has_place grid) (λ c. true) (parent grid) (reported_parent second')
          (link_count grid) (reported_links second') by_marks every_has_place (λ c h t. sym (same_parent c h)) (λ c h t. sym (same_links c h))

      solved_reference : reported_camera first' reference ≡ identity_pose
      unfolding direct_grid
      solved_reference = same_pose reference sizes.reference_inside ∙ rig_se3_cam-reference grid sizes.reference_inside

      solved_camera : (c : ℕ) → c < cameras → c ≢ reference
          → reported_camera first' c
          ≡ mul_pose (reported_camera first' (reported_parent second' c)) (averaged_link_over marks floats cameras views (reported_parent second' c) c)
      unfolding direct_grid
      solved_camera c h n =
          let p_inside : parent grid c < cameras = by_marks.parent_inside c h (every_placed c h) in
          same_pose c h
          ∙ rig_se3_cam-parent grid sizes.reference_inside c h (every_placed c h) n
          ∙ ap₂ mul_pose (sym (same_pose (parent grid c) p_inside)) (averaged_link-marked counts marks floats reference small (parent grid c) c p_inside h)
          ∙ ap (λ (p : ℕ). mul_pose (reported_camera first' p) (averaged_link_over marks floats cameras views p c)) (sym (same_parent c h))

      solved_view : (v : ℕ) → v < views → reported_view cameras first' v ≡ average_isometries (targets_over marks floats cameras (reported_camera first') v)
      unfolding direct_grid rig_se3_target
      solved_view v h =
          reported_view-transforms grid front v h
          ∙ ap average_isometries (target_candidates-marked counts marks floats reference small (reported_camera first') same_pose v h)

      solved_rig : SolvedRig marks cameras views reference floats first' second'
      solved_rig = record { chains = solved_chains; reference_pose = solved_reference; camera_pose = solved_camera; view_pose = solved_view }

  -- ---- the three cases

  module _ (r : Outcome) (first'' : List Float) (second'' : List ℕ) (call : Direct counts marks floats reference first second r first'' second'') where
    refused_by : (o : Option Refusal) → grid_refusal grid ≡ o → r ≡ outcome_of o
    refused_by o e =
        call.outcome ∙ ap outcome_of (direct_is_grid counts marks floats reference first second passes.passes_1_to_6 ∙ e)

    abbrev Solution : Type 0
    Solution =
        (r ≡ Ok tt)
        × EveryCameraChained marks cameras views reference
        × EveryViewHolds marks cameras views
        × SolvedRig marks cameras views reference floats first'' second''

    solution : unreached_set grid ≡ 0 → lowest_empty_view grid ≡ None → Solution
    unfolding outcome_of answered
    solution reached full =
        let free : direct_refusal counts marks floats reference (length first) (length second) ≡ None =
        direct_is_grid counts marks floats reference first second passes.passes_1_to_6 ∙ not-refused grid finite reached full in (
          refused_by None (not-refused grid finite reached full),
          every_chained reached,
          every_view_holds full,
          subst (λ (l : List Float). SolvedRig marks cameras views reference floats l second'')
              (sym (call.first_answer ∙ ap (λ (o : Option Refusal). answered o (transforms grid) first) free))
              (subst (λ (l : List ℕ). SolvedRig marks cameras views reference floats (transforms grid ++ drop (length (transforms grid)) first) l)
              (sym (call.second_answer ∙ ap (λ (o : Option Refusal). answered o (chains grid) second) free))
              (solved_rig reached (drop (length (transforms grid)) first) (drop (length (chains grid)) second))),
        )

    case : Solution ⊎ (RefusedUnchained marks cameras views reference r ⊎ RefusedEmpty marks cameras views reference r)
    unfolding outcome_of
    case = go (ℕ_discrete (unreached_set grid) 0)
      where
        go : Dec (unreached_set grid ≡ 0) → Solution ⊎ (RefusedUnchained marks cameras views reference r ⊎ RefusedEmpty marks cameras views reference r)
        go (no other) =
            inr
            (inl
            (record {
              some_unchained = some_unchained other;
              detail = unreached_set grid;
              is_8 = (Unreached (unreached_set grid), refused_by (Some (Unreached (unreached_set grid))) (refused-unreached grid finite other), refl, refl);
              precisely = names_unchained;
            }))
        go (yes reached) = then (lowest_empty_view grid) refl
          where
            then : (o : Option ℕ) → lowest_empty_view grid ≡ o
                → Solution ⊎ (RefusedUnchained marks cameras views reference r ⊎ RefusedEmpty marks cameras views reference r)
            then None e = inl (solution reached e)
            then (Some v) e =
                inr
                (inr
                (record {
                  every_chained = every_chained reached;
                  detail = v;
                  is_9 = (EmptyView v, refused_by (Some (EmptyView v)) (refused-empty_view grid finite reached v e), refl, refl);
                  is_lowest = lowest-empty v e;
                }))

    demanded : Demand3 counts marks floats reference r first'' second''
    demanded =
        record {
          solved_exactly = (
            λ e. ⊎_elim (λ s. (s.1, s.2)) (⊎_elim (λ o. cc o.is_8.1) (λ o. cc o.is_9.1)) case,
            λ every.
                ⊎_elim (λ s. s.0)
                (⊎_elim (λ o. absurd (o.some_unchained.2 (every.0 o.some_unchained.0 o.some_unchained.1)))
                (λ o. absurd (o.is_lowest.such (every.1 o.detail o.is_lowest.inside))))
                case,
          );
          otherwise = λ n. ⊎_elim (λ s. absurd (n s.0)) (λ o. o) case;
          unchained_8 = λ c h n. ⊎_elim (λ s. absurd (n (s.1 c h))) (⊎_elim (λ o. o) (λ o. absurd (n (o.every_chained c h)))) case;
          empty_9 = λ every v h n.
              ⊎_elim (λ s. absurd (n (s.2 v h)))
              (⊎_elim (λ o. absurd (o.some_unchained.2 (every o.some_unchained.0 o.some_unchained.1))) (λ o. o))
              case;
          solved_rig = λ e.
              ⊎_elim (λ s. s.3) (⊎_elim (λ o. cc o.is_8.1) (λ o. cc o.is_9.1)) case;
        }

-- Whatever the inputs, and whatever stood in the lent answers: where the call is well formed, so that the checks before 8 pass, what the direct call
-- ensures is demand 3.
pub demand_3 : (counts marks : List ℕ) (floats : List Float) (reference : ℕ) (first : List Float) (second : List ℕ)
    (r : Outcome) (first' : List Float) (second' : List ℕ)
    → WellFormed counts marks floats reference (length first) (length second)
    → Direct counts marks floats reference first second r first' second'
    → Demand3 counts marks floats reference r first' second'
demand_3 counts marks floats reference first second r first' second' formed call =
    demanded counts marks floats reference first second
    ((passes_before_8 counts marks floats reference (length first) (length second)).1 formed) r first' second' call
