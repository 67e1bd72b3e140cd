-- The rig that overflows is solved, with the transforms that were recorded and the chains that were worked out (`overflow_holds`). Each average is computed by itself, as in
-- `GridRow`. The numbers between are no part of what is said. Assumes nothing.
use Prim.Native.Nat.{ℕ}
use mathlib.Core.Path.{◌≡◌, refl, ap, ap₂, ◌∙◌}
use Rattle.std.specs.Prelude.{None}
use mathlib.Core.List.{List, [], ◌∷◌, ◌++◌}
use lib.Ieee.{of_bits, of_int, add, sub, mul, div, neg, lt, eq}
use Rattle.root.specs.Root.{root_of}
use Rattle.arithmetic.specs.Pose.{vec3, quaternion, identity_pose, mul_pose, inverse_pose, finite_pose, flat}
use Rattle.arithmetic.specs.Rows.{double, pose_of}
use Rattle.mean.specs.Average.{plus_translation, plus_rotation, mean_of, average_isometries}
use Rattle.mean.proofs.Averaging.{average-sums}
use Rattle.arithmetic.specs.declared.pose.Pose.{Pose}
use Rattle.lists.specs.Finding.{count}
use Rattle.chains.specs.Shared.{shared}
use Rattle.chains.specs.Layers.{parent_of, links_of, is_placed, in_layer, take_if_more, most_views, start_spot, next_spot, linked_in_layer, parent_in_layer, layers_to, layers, spot_at, Spot, placed}
use Rattle.placing.specs.Grid.{Grid, is_held, cell_of, spots, parent}
use Rattle.lists.specs.Lists.{gather}
use Rattle.placing.specs.Estimate.{link_candidates, averaged_link, pose_after, rig_se3_cam, target_candidate, target_candidates, rig_se3_target, transforms, chains}
use Rattle.extrinsics.specs.Direct.{direct_grid, direct_refusal}
use Rattle.claims_cases.specs.OtherGrids.{overflow_counts, overflow_marks, overflow_floats, overflow_camera0, overflow_camera1, overflow_target0, overflow_transforms, overflow_chains}

abbrev grid : Grid
grid = direct_grid overflow_counts overflow_marks overflow_floats 0

-- ---- the cameras

-- Camera 1's link to camera 0.
abbrev link1 : Pose
link1 =
    pose_of 0x7ff0_0000_0000_0000 0x0000_0000_0000_0000 0x0000_0000_0000_0000
    0x0000_0000_0000_0000 0x0000_0000_0000_0000 0x0000_0000_0000_0000 0x3ff0_0000_0000_0000

abbrev link1_first : Pose
link1_first =
    pose_of 0x7ff0_0000_0000_0000 0x0000_0000_0000_0000 0x0000_0000_0000_0000
    0x0000_0000_0000_0000 0x0000_0000_0000_0000 0x0000_0000_0000_0000 0x3ff0_0000_0000_0000

average_link1 : average_isometries (link1_first ∷ []) ≡ link1
unfolding plus_translation plus_rotation mean_of root_of of_bits of_int add mul div neg lt eq
average_link1 =
    average-sums (link1_first ∷ [])
    {t = vec3 (double 0x7ff0_0000_0000_0000) (double 0x0000_0000_0000_0000) (double 0x0000_0000_0000_0000)}
    {s = quaternion (double 0x0000_0000_0000_0000) (double 0x0000_0000_0000_0000) (double 0x0000_0000_0000_0000) (double 0x3ff0_0000_0000_0000)}
    refl
    refl
    ∙ refl

candidates_link1 : link_candidates grid 0 1 ≡ link1_first ∷ []
unfolding direct_grid overflow_floats link_candidates mul_pose inverse_pose of_bits add sub mul neg
candidates_link1 = refl

averaged_link_link1 : averaged_link grid 0 1 ≡ link1
unfolding averaged_link
averaged_link_link1 = ap average_isometries candidates_link1 ∙ average_link1

placed1 : mul_pose identity_pose link1 ≡ overflow_camera1
unfolding mul_pose of_bits add sub mul
placed1 = refl

spots_grid : spots grid ≡ placed 0 0 ∷ placed 0 1 ∷ []
unfolding direct_grid is_held shared count spots layers layers_to start_spot next_spot parent_in_layer linked_in_layer in_layer most_views take_if_more
spots_grid = refl

-- Camera 1 is one link from the reference.
after1 : pose_after grid (parent grid) 1 1 ≡ overflow_camera1
unfolding pose_after parent_of
after1 =
    ap (λ (l : List Spot). mul_pose identity_pose (averaged_link grid (parent_of (spot_at l 1)) 1)) spots_grid
    ∙ ap (mul_pose identity_pose) averaged_link_link1
    ∙ placed1

camera0 : rig_se3_cam grid 0 ≡ overflow_camera0
unfolding rig_se3_cam links_of
camera0 = ap (λ (l : List Spot). pose_after grid (parent grid) (links_of (spot_at l 0)) 0) spots_grid

camera1 : rig_se3_cam grid 1 ≡ overflow_camera1
unfolding rig_se3_cam links_of
camera1 = ap (λ (l : List Spot). pose_after grid (parent grid) (links_of (spot_at l 1)) 1) spots_grid ∙ after1

-- ---- the targets

-- What the cameras add to view v, their poses told.
abbrev added : ℕ → List Pose
added v = target_candidate overflow_camera0 (cell_of grid v 0) ++ target_candidate overflow_camera1 (cell_of grid v 1)

seen : (v : ℕ) → target_candidates grid v ≡ added v
unfolding target_candidates direct_grid
seen v =
    ap₂ ◌++◌ (ap (λ (p : Pose). target_candidate p (cell_of grid v 0)) camera0) (ap (λ (p : Pose). target_candidate p (cell_of grid v 1)) camera1)

abbrev target0_first : Pose
target0_first =
    pose_of 0x7fe0_0000_0000_0000 0x0000_0000_0000_0000 0x0000_0000_0000_0000
    0x0000_0000_0000_0000 0x0000_0000_0000_0000 0x0000_0000_0000_0000 0x3ff0_0000_0000_0000

abbrev target0_second : Pose
target0_second =
    pose_of 0x7ff8_0000_0000_0000 0x7ff8_0000_0000_0000 0x7ff8_0000_0000_0000
    0x0000_0000_0000_0000 0x0000_0000_0000_0000 0x0000_0000_0000_0000 0x3ff0_0000_0000_0000

average_target0 : average_isometries (target0_first ∷ target0_second ∷ []) ≡ overflow_target0
unfolding plus_translation plus_rotation mean_of root_of of_bits of_int add mul div neg lt eq
average_target0 =
    average-sums (target0_first ∷ target0_second ∷ [])
    {t = vec3 (double 0x7ff8_0000_0000_0000) (double 0x7ff8_0000_0000_0000) (double 0x7ff8_0000_0000_0000)}
    {s = quaternion (double 0x0000_0000_0000_0000) (double 0x0000_0000_0000_0000) (double 0x0000_0000_0000_0000) (double 0x4000_0000_0000_0000)}
    refl
    refl
    ∙ refl

seen_target0 : added 0 ≡ target0_first ∷ target0_second ∷ []
unfolding direct_grid overflow_floats target_candidate mul_pose of_bits add sub mul
seen_target0 = refl

target0 : rig_se3_target grid 0 ≡ overflow_target0
unfolding rig_se3_target
target0 = ap average_isometries (seen 0 ∙ seen_target0) ∙ average_target0

-- ---- the whole

solved : direct_refusal overflow_counts overflow_marks overflow_floats 0 21 4 ≡ None
unfolding direct_refusal overflow_floats finite_pose is_held is_placed shared count spots layers layers_to start_spot next_spot parent_in_layer linked_in_layer in_layer most_views take_if_more of_bits
solved = refl

transforms_grid : transforms grid ≡ overflow_transforms
unfolding transforms direct_grid overflow_transforms
transforms_grid =
    ap₂ ◌++◌
    (ap₂ ◌++◌ (ap flat camera0) (ap flat camera1))
    (ap flat target0)

chains_grid : chains grid ≡ overflow_chains
unfolding chains overflow_chains direct_grid parent_of links_of
chains_grid = ap (λ (s : List Spot). gather 2 (λ c. parent_of (spot_at s c) ∷ links_of (spot_at s c) ∷ [])) spots_grid

-- Answers of 21 floats and 4 bytes are just long enough.
pub overflow_holds : (direct_refusal overflow_counts overflow_marks overflow_floats 0 21 4 ≡ None) × (transforms (direct_grid overflow_counts overflow_marks overflow_floats 0) ≡ overflow_transforms) × (chains (direct_grid overflow_counts overflow_marks overflow_floats 0) ≡ overflow_chains)
overflow_holds = (solved, transforms_grid, chains_grid)
