-- Demand 2: "For every grid of finite poses within document 01's limits, the transforms and refusals equal those of the Rust function
-- `estimate_extrinsics_from_cam_target_poses`, bit for bit, all NaNs counting as one." It is `agrees_with_rust`, the last of this file; said
-- of the call and what it leaves, `call_agrees_with_rust` of `CallAgrees`; that every grid has inputs that hold it is `encoded` of `Encoded`. Both sides make the same checks in the same order; a grid that passes those of its sizes
-- is placed layer by layer alike. Assumes nothing.
use Rattle.std.proofs.Common.{◌≡◌, ℕ, ◌<◌, ◌≤◌, ◌≢◌, List, [], ◌∷◌, length, get_or, refl, ap, ◌∙◌, ap₂, arith, eq-eqb, ne_eqb, le-leb}
use native.Mathlib.Decide.{ℕ_discrete, dec_lt}
use Rattle.std.specs.Prelude.{Option, None, Some}
use lib.Ieee.{Float}
use borrow.Author.Tests.{lt-leb}
use Rattle.arithmetic.specs.declared.pose.Pose.{Pose}
use Rattle.refusal.specs.Table.{refuse_at, or_else}
use Rattle.refusal.specs.declared.Refusal.{Refusal}
use Rattle.refusal.specs.declared.Refusal.TheVariants.{InsufficientData, InvalidReference, CountDiffers}
use Rattle.lists.specs.Lists.{tabulate}
use Rattle.placing.specs.Grid.{Grid}
use Rattle.placing.specs.Estimate.{rig_se3_target, transforms}
use Rattle.extrinsics.specs.Outcome.{not_finite, lowest_empty_view, grid_refusal}
use Rattle.inputs.specs.Inputs.{size_refusal, count_refusal, length_refusal, mark_refusal, cell_count}
use Rattle.extrinsics.specs.Direct.{direct_grid, direct_refusal}
use Rattle.claims_direct.specs.Rust.{no_valid_camera_poses, num_views, num_cameras, estimate_extrinsics_from_cam_target_poses}
use Rattle.claims_direct.specs.Encoding.{EqualCounts, Encodes, WithinLimits, RoomEnough, RoomWhereSized, refusal_of, Agrees}
use Rattle.claims_direct.proofs.SameGrid.{SameGrid}
use Rattle.claims_direct.proofs.PartialRigs.{rig_final}
use Rattle.claims_direct.proofs.RustLayers.{while_layer-final}
use Rattle.claims_direct.proofs.RustTargets.{rig_poses, unreached_same, flatten_rig_final, targets_same}
use Rattle.claims_direct.proofs.RustSteps.{after_loop, rust_unreached, rust_empty_view, rust_solved, rust_no_views, rust_no_cameras, rust_reference, rust_counts, rust_loop}
use Rattle.claims_direct.proofs.GridRefusals.{or_else_none, left, left-none, grid_refusal-unreached, grid_refusal-empty_view, transforms-flat_all}
use Rattle.inputs.proofs.Answering.{size_refusal-sizes}
use Rattle.claims_direct.proofs.DirectChecks.{size_no_views, size_no_cameras, size-reference, other_count, equal_counts, check_counts_other_count, length-counts, first_count, count_refusal_other_count, lengths_pass, marks_pass, same_grid, not_finite_passes}

-- ---- 8, 9 and the transforms

module _ (camSe3Target : List (List (Option Pose))) (g : Grid) (same : SameGrid camSe3Target g) (finite : not_finite g ≡ None) where
  abbrev AgreedAfterLoop : Type 0
  AgreedAfterLoop = Agrees (after_loop camSe3Target (rig_final g)) (grid_refusal g) (transforms g)

  agrees_unreached : (c : ℕ) (l : List ℕ) → left g ≡ c ∷ l → AgreedAfterLoop
  unfolding refusal_of
  agrees_unreached c l e = rw (rust_unreached camSe3Target (rig_final g) c l (unreached_same camSe3Target g same ∙ e)) (grid_refusal-unreached g finite c l e)

  module _ (placed : left g ≡ []) where
    agrees_empty_view : (v : ℕ) → lowest_empty_view g ≡ Some v → AgreedAfterLoop
    unfolding refusal_of refuse_at
    agrees_empty_view v e =
        rw (rust_empty_view camSe3Target (rig_final g) (rig_poses g) (unreached_same camSe3Target g same ∙ placed) (flatten_rig_final g (left-none g placed))
        (no_valid_camera_poses v) (targets_same camSe3Target g same ∙ rw e))
        (grid_refusal-empty_view g finite placed ∙ rw e)

    agrees_solved : lowest_empty_view g ≡ None → AgreedAfterLoop
    unfolding refuse_at
    agrees_solved e =
        rw (rust_solved camSe3Target (rig_final g) (rig_poses g) (unreached_same camSe3Target g same ∙ placed) (flatten_rig_final g (left-none g placed))
        (tabulate g.views (rig_se3_target g)) (targets_same camSe3Target g same ∙ rw e))
        (grid_refusal-empty_view g finite placed ∙ rw e, transforms-flat_all g)

  agrees_after_loop : AgreedAfterLoop
  agrees_after_loop = by_cameras (left g) refl
    where
      by_views : left g ≡ [] → (o : Option ℕ) → lowest_empty_view g ≡ o → AgreedAfterLoop
      by_views placed None e = agrees_solved placed e
      by_views placed (Some v) e = agrees_empty_view placed v e

      by_cameras : (l : List ℕ) → left g ≡ l → AgreedAfterLoop
      by_cameras [] e = by_views e (lowest_empty_view g) refl
      by_cameras (c ∷ l) e = agrees_unreached c l e

-- ---- 1 to 7

module _ (camSe3Target : List (List (Option Pose))) (refCamIdx : ℕ) (counts marks : List ℕ) (floats : List Float) (first_room second_room : ℕ)
    (encoded : Encodes camSe3Target counts marks floats) (limits : WithinLimits camSe3Target) (room : RoomWhereSized camSe3Target refCamIdx first_room second_room) where
  abbrev g : Grid
  g = direct_grid counts marks floats refCamIdx

  abbrev refused : Option Refusal
  refused = direct_refusal counts marks floats refCamIdx first_room second_room

  abbrev Agreed : Type 0
  Agreed = Agrees (estimate_extrinsics_from_cam_target_poses camSe3Target refCamIdx) refused (transforms g)

  -- The first check that refuses decides.
  abbrev sizes : Option Refusal
  sizes = size_refusal (length counts) (get_or counts 0 0) refCamIdx

  abbrev lengths : Option Refusal
  lengths = length_refusal (length counts) (get_or counts 0 0) (length marks) (length floats) first_room second_room

  abbrev first_refusal : (sizes counts lengths marks grid : Option Refusal) → Option Refusal
  first_refusal s c l m r = or_else (or_else s (or_else c (or_else l (or_else m None)))) (or_else r None)

  refused-first : refused ≡ first_refusal sizes (count_refusal counts) lengths (mark_refusal (cell_count counts) marks) (grid_refusal g)
  unfolding direct_refusal
  refused-first = refl

  refused-sizes : (r : Refusal) → sizes ≡ Some r → refused ≡ Some r
  unfolding or_else
  refused-sizes r e = refused-first ∙ ap (λ (s : Option Refusal). first_refusal s (count_refusal counts) lengths (mark_refusal (cell_count counts) marks) (grid_refusal g)) e

  refused-counts : (r : Refusal) → sizes ≡ None → count_refusal counts ≡ Some r → refused ≡ Some r
  unfolding or_else
  refused-counts r e f = refused-first ∙ ap₂ (λ (s c : Option Refusal). first_refusal s c lengths (mark_refusal (cell_count counts) marks) (grid_refusal g)) e f

  refused_grid : sizes ≡ None → count_refusal counts ≡ None → EqualCounts camSe3Target → RoomEnough camSe3Target first_room second_room
      → refused ≡ grid_refusal g
  unfolding or_else
  refused_grid e f equal enough =
      refused-first
      ∙ ap₂ (λ (s c : Option Refusal). first_refusal s c lengths (mark_refusal (cell_count counts) marks) (grid_refusal g)) e f
      ∙ ap₂ (λ (l m : Option Refusal). first_refusal None None l m (grid_refusal g))
      (lengths_pass camSe3Target counts marks floats encoded equal first_room second_room enough) (marks_pass camSe3Target counts marks floats encoded equal)
      ∙ or_else_none (grid_refusal g)

  -- The cases in the order of the checks.
  views_same : length counts ≡ num_views camSe3Target
  views_same = length-counts camSe3Target counts marks floats encoded

  cameras_same : get_or counts 0 0 ≡ num_cameras camSe3Target
  cameras_same = first_count camSe3Target counts marks floats encoded

  agrees_no_views : num_views camSe3Target ≡ 0 → Agreed
  unfolding refusal_of
  agrees_no_views e =
      rw (rust_no_views camSe3Target refCamIdx (eq-eqb (num_views camSe3Target) 0 e))
      (refused-sizes InsufficientData (size_no_views (length counts) (get_or counts 0 0) refCamIdx (views_same ∙ e)))

  module _ (some_view : num_views camSe3Target ≢ 0) where
    agrees_no_cameras : num_cameras camSe3Target ≡ 0 → Agreed
    unfolding refusal_of
    agrees_no_cameras e =
        rw (rust_no_cameras camSe3Target refCamIdx (ne_eqb (num_views camSe3Target) 0 some_view) (eq-eqb (num_cameras camSe3Target) 0 e))
        (refused-sizes InsufficientData
        (size_no_cameras (length counts) (get_or counts 0 0) refCamIdx (omega (arith, views_same)) (omega (arith, views_same, limits.views_fit)) (cameras_same ∙ e)))

    module _ (some_camera : num_cameras camSe3Target ≢ 0) where
      agrees_reference : num_cameras camSe3Target ≤ refCamIdx → Agreed
      unfolding refusal_of
      agrees_reference l =
          rw (rust_reference camSe3Target refCamIdx (ne_eqb (num_views camSe3Target) 0 some_view) (ne_eqb (num_cameras camSe3Target) 0 some_camera)
          (le-leb (num_cameras camSe3Target) refCamIdx l))
          (refused-sizes InvalidReference
          (size-reference (length counts) (get_or counts 0 0) refCamIdx (omega (arith, views_same)) (omega (arith, views_same, limits.views_fit))
          (omega (arith, cameras_same)) (omega (arith, cameras_same, limits.cameras_fit)) (omega (arith, cameras_same))))

      module _ (inside : refCamIdx < num_cameras camSe3Target) where
        sizes_pass : sizes ≡ None
        sizes_pass =
            size_refusal-sizes (length counts) (get_or counts 0 0) refCamIdx
            (record {
              some_views = omega (arith, views_same);
              views_fit = omega (arith, views_same, limits.views_fit);
              some_cameras = omega (arith, cameras_same);
              cameras_fit = omega (arith, cameras_same, limits.cameras_fit);
              reference_inside = omega (arith, cameras_same);
            })

        agrees_other_count : (v : ℕ) → other_count camSe3Target ≡ Some v → Agreed
        unfolding refusal_of refuse_at
        agrees_other_count v e =
            rw (rust_counts camSe3Target refCamIdx (ne_eqb (num_views camSe3Target) 0 some_view) (ne_eqb (num_cameras camSe3Target) 0 some_camera)
            (lt-leb (num_cameras camSe3Target) refCamIdx inside) v (check_counts_other_count camSe3Target ∙ rw e))
            (refused-counts (CountDiffers v) sizes_pass (count_refusal_other_count camSe3Target counts marks floats encoded ∙ rw e))

        agrees_equal_counts : other_count camSe3Target ≡ None → Agreed
        unfolding refuse_at direct_grid
        agrees_equal_counts e =
            let equal : EqualCounts camSe3Target = equal_counts camSe3Target e in
            let same : SameGrid camSe3Target g = same_grid camSe3Target counts marks floats encoded equal refCamIdx in
            let within : g.reference < g.cameras = omega (arith, cameras_same) in
            rw (
              rust_loop camSe3Target refCamIdx (ne_eqb (num_views camSe3Target) 0 some_view) (ne_eqb (num_cameras camSe3Target) 0 some_camera)
                  (lt-leb (num_cameras camSe3Target) refCamIdx inside) (rig_final g) (check_counts_other_count camSe3Target ∙ rw e)
                  (while_layer-final camSe3Target g same within),
              refused_grid sizes_pass (count_refusal_other_count camSe3Target counts marks floats encoded ∙ rw e) equal (room inside equal),
            )
            (agrees_after_loop camSe3Target g same (not_finite_passes camSe3Target counts marks floats encoded equal refCamIdx limits))

        agrees_inside : (o : Option ℕ) → other_count camSe3Target ≡ o → Agreed
        agrees_inside None e = agrees_equal_counts e
        agrees_inside (Some v) e = agrees_other_count v e

  agreed : Agreed
  agreed = by_views (ℕ_discrete (num_views camSe3Target) 0)
    where
      by_reference : num_views camSe3Target ≢ 0 → num_cameras camSe3Target ≢ 0 → Dec (refCamIdx < num_cameras camSe3Target) → Agreed
      by_reference v c (yes y) = agrees_inside v c y (other_count camSe3Target) refl
      by_reference v c (no y) = agrees_reference v c (omega arith)

      by_cameras : num_views camSe3Target ≢ 0 → Dec (num_cameras camSe3Target ≡ 0) → Agreed
      by_cameras v (yes y) = agrees_no_cameras v y
      by_cameras v (no y) = by_reference v y (dec_lt refCamIdx (num_cameras camSe3Target))

      by_views : Dec (num_views camSe3Target ≡ 0) → Agreed
      by_views (yes y) = agrees_no_views y
      by_views (no y) = by_cameras y (ℕ_discrete (num_cameras camSe3Target) 0)

-- ---- demand 2

pub agrees_with_rust : (camSe3Target : List (List (Option Pose))) (refCamIdx : ℕ)
    → (counts marks : List ℕ) (floats : List Float) → Encodes camSe3Target counts marks floats
    → WithinLimits camSe3Target
    → (first_room second_room : ℕ) → RoomWhereSized camSe3Target refCamIdx first_room second_room
    → Agrees (estimate_extrinsics_from_cam_target_poses camSe3Target refCamIdx)
    (direct_refusal counts marks floats refCamIdx first_room second_room)
    (transforms (direct_grid counts marks floats refCamIdx))
agrees_with_rust camSe3Target refCamIdx counts marks floats encoded limits first_room second_room room =
    agreed camSe3Target refCamIdx counts marks floats first_room second_room encoded limits room
