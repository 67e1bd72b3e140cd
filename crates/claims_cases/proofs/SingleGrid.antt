-- The rig with a link of one view is solved, with the transforms that were recorded and the chains that were worked out (`single_holds`). Each average is computed by itself, as in
-- `GridRow`. The numbers between are no part of what is said. Assumes nothing.
use Prim.Native.Nat.{ℕ}
use mathlib.Core.Path.{◌≡◌, refl, ap, ap₂, ◌∙◌}
use Rattle.std.specs.Prelude.{None}
use mathlib.Core.List.{List, [], ◌∷◌, ◌++◌}
use lib.Ieee.{of_bits, of_int, add, sub, mul, div, neg, lt, eq}
use Rattle.root.specs.Root.{root_of}
use Rattle.arithmetic.specs.Pose.{vec3, quaternion, identity_pose, mul_pose, inverse_pose, finite_pose, flat}
use Rattle.arithmetic.specs.Rows.{double, pose_of}
use Rattle.mean.specs.Average.{plus_translation, plus_rotation, mean_of, average_isometries}
use Rattle.mean.proofs.Averaging.{average-sums}
use Rattle.arithmetic.specs.declared.pose.Pose.{Pose}
use Rattle.lists.specs.Finding.{count}
use Rattle.chains.specs.Shared.{shared}
use Rattle.chains.specs.Layers.{parent_of, links_of, is_placed, in_layer, take_if_more, most_views, start_spot, next_spot, linked_in_layer, parent_in_layer, layers_to, layers, spot_at, Spot, placed}
use Rattle.placing.specs.Grid.{Grid, is_held, cell_of, spots, parent}
use Rattle.lists.specs.Lists.{gather}
use Rattle.placing.specs.Estimate.{link_candidates, averaged_link, pose_after, rig_se3_cam, target_candidate, target_candidates, rig_se3_target, transforms, chains}
use Rattle.extrinsics.specs.Direct.{direct_grid, direct_refusal}
use Rattle.claims_cases.specs.OtherGrids.{single_counts, single_marks, single_floats, single_camera0, single_camera1, single_target0, single_target1, single_transforms, single_chains}

abbrev grid : Grid
grid = direct_grid single_counts single_marks single_floats 0

-- ---- the cameras

-- Camera 1's link to camera 0.
abbrev link1 : Pose
link1 =
    pose_of 0x4002_afcc_e1c5_8257 0xbfda_d6cb_5350_0938 0x3fd9_a6b5_0b0f_27ba
    0x3fc7_9d1b_4c28_881a 0x3fec_a47d_8e27_ae8d 0xbfd2_cdb2_2e6c_2084 0x3fd1_edcd_9d61_24f6

abbrev link1_first : Pose
link1_first =
    pose_of 0x4002_afcc_e1c5_8257 0xbfda_d6cb_5350_0938 0x3fd9_a6b5_0b0f_27ba
    0x3fd1_47ae_147a_e14a 0x3ff4_f5c2_8f5c_28f6 0xbfdb_851e_b851_eb85 0x3fda_3d70_a3d7_0a3f

average_link1 : average_isometries (link1_first ∷ []) ≡ link1
unfolding plus_translation plus_rotation mean_of root_of of_bits of_int add mul div neg lt eq
average_link1 =
    average-sums (link1_first ∷ [])
    {t = vec3 (double 0x4002_afcc_e1c5_8257) (double 0xbfda_d6cb_5350_0938) (double 0x3fd9_a6b5_0b0f_27ba)}
    {s = quaternion (double 0x3fd1_47ae_147a_e14a) (double 0x3ff4_f5c2_8f5c_28f6) (double 0xbfdb_851e_b851_eb85) (double 0x3fda_3d70_a3d7_0a3f)}
    refl
    refl
    ∙ refl

candidates_link1 : link_candidates grid 0 1 ≡ link1_first ∷ []
unfolding direct_grid single_floats link_candidates mul_pose inverse_pose of_bits add sub mul neg
candidates_link1 = refl

averaged_link_link1 : averaged_link grid 0 1 ≡ link1
unfolding averaged_link
averaged_link_link1 = ap average_isometries candidates_link1 ∙ average_link1

placed1 : mul_pose identity_pose link1 ≡ single_camera1
unfolding mul_pose of_bits add sub mul
placed1 = refl

spots_grid : spots grid ≡ placed 0 0 ∷ placed 0 1 ∷ []
unfolding direct_grid is_held shared count spots layers layers_to start_spot next_spot parent_in_layer linked_in_layer in_layer most_views take_if_more
spots_grid = refl

-- Camera 1 is one link from the reference.
after1 : pose_after grid (parent grid) 1 1 ≡ single_camera1
unfolding pose_after parent_of
after1 =
    ap (λ (l : List Spot). mul_pose identity_pose (averaged_link grid (parent_of (spot_at l 1)) 1)) spots_grid
    ∙ ap (mul_pose identity_pose) averaged_link_link1
    ∙ placed1

camera0 : rig_se3_cam grid 0 ≡ single_camera0
unfolding rig_se3_cam links_of
camera0 = ap (λ (l : List Spot). pose_after grid (parent grid) (links_of (spot_at l 0)) 0) spots_grid

camera1 : rig_se3_cam grid 1 ≡ single_camera1
unfolding rig_se3_cam links_of
camera1 = ap (λ (l : List Spot). pose_after grid (parent grid) (links_of (spot_at l 1)) 1) spots_grid ∙ after1

-- ---- the targets

-- What the cameras add to view v, their poses told.
abbrev added : ℕ → List Pose
added v = target_candidate single_camera0 (cell_of grid v 0) ++ target_candidate single_camera1 (cell_of grid v 1)

seen : (v : ℕ) → target_candidates grid v ≡ added v
unfolding target_candidates direct_grid
seen v =
    ap₂ ◌++◌ (ap (λ (p : Pose). target_candidate p (cell_of grid v 0)) camera0) (ap (λ (p : Pose). target_candidate p (cell_of grid v 1)) camera1)

abbrev target0_first : Pose
target0_first =
    pose_of 0x3fd9_9999_9999_999a 0x3ff0_0000_0000_0000 0x3fec_cccc_cccc_cccd
    0xbfe9_9999_9999_999a 0xbfc9_9999_9999_999a 0x3fe0_0000_0000_0000 0xbfd3_3333_3333_3333

abbrev target0_second : Pose
target0_second =
    pose_of 0x3ffe_5e4f_5489_ba3f 0x3fdb_2b19_4f7e_a838 0x3fe6_38a2_8bb9_a8ae
    0xbff2_5dbf_e5e6_a2bd 0xbfd2_5dbf_e5e6_a2ba 0x3fe6_f52f_df60_4b6c 0xbfdb_8c9f_d8d9_f41b

average_target0 : average_isometries (target0_first ∷ target0_second ∷ []) ≡ single_target0
unfolding plus_translation plus_rotation mean_of root_of of_bits of_int add mul div neg lt eq
average_target0 =
    average-sums (target0_first ∷ target0_second ∷ [])
    {t = vec3 (double 0x4002_625a_dd78_1053) (double 0x3ff6_cac6_53df_aa0e) (double 0x3ff9_82b7_ac43_3abe)}
    {s = quaternion (double 0xbfff_2a8c_b2b3_6f8a) (double 0xbfdf_2a8c_b2b3_6f87) (double 0x3ff3_7a97_efb0_25b6) (double 0xbfe7_5fe9_8606_93a7)}
    refl
    refl
    ∙ refl

seen_target0 : added 0 ≡ target0_first ∷ target0_second ∷ []
unfolding direct_grid single_floats target_candidate mul_pose of_bits add sub mul
seen_target0 = refl

target0 : rig_se3_target grid 0 ≡ single_target0
unfolding rig_se3_target
target0 = ap average_isometries (seen 0 ∙ seen_target0) ∙ average_target0

abbrev target1_first : Pose
target1_first =
    pose_of 0x3fc9_9999_9999_999a 0x3fd9_9999_9999_999a 0x3fb9_9999_9999_999a
    0xbfec_cccc_cccc_cccd 0x3fd3_3333_3333_3333 0xbfec_cccc_cccc_cccd 0x3fd3_3333_3333_3333

average_target1 : average_isometries (target1_first ∷ []) ≡ single_target1
unfolding plus_translation plus_rotation mean_of root_of of_bits of_int add mul div neg lt eq
average_target1 =
    average-sums (target1_first ∷ [])
    {t = vec3 (double 0x3fc9_9999_9999_999a) (double 0x3fd9_9999_9999_999a) (double 0x3fb9_9999_9999_999a)}
    {s = quaternion (double 0xbfec_cccc_cccc_cccd) (double 0x3fd3_3333_3333_3333) (double 0xbfec_cccc_cccc_cccd) (double 0x3fd3_3333_3333_3333)}
    refl
    refl
    ∙ refl

seen_target1 : added 1 ≡ target1_first ∷ []
unfolding direct_grid single_floats target_candidate mul_pose of_bits add sub mul
seen_target1 = refl

target1 : rig_se3_target grid 1 ≡ single_target1
unfolding rig_se3_target
target1 = ap average_isometries (seen 1 ∙ seen_target1) ∙ average_target1

-- ---- the whole

solved : direct_refusal single_counts single_marks single_floats 0 28 4 ≡ None
unfolding direct_refusal single_floats finite_pose is_held is_placed shared count spots layers layers_to start_spot next_spot parent_in_layer linked_in_layer in_layer most_views take_if_more of_bits
solved = refl

transforms_grid : transforms grid ≡ single_transforms
unfolding transforms direct_grid single_transforms
transforms_grid =
    ap₂ ◌++◌
    (ap₂ ◌++◌ (ap flat camera0) (ap flat camera1))
    (ap₂ ◌++◌ (ap flat target0) (ap flat target1))

chains_grid : chains grid ≡ single_chains
unfolding chains single_chains direct_grid parent_of links_of
chains_grid = ap (λ (s : List Spot). gather 2 (λ c. parent_of (spot_at s c) ∷ links_of (spot_at s c) ∷ [])) spots_grid

-- Answers of 28 floats and 4 bytes are just long enough.
pub single_holds : (direct_refusal single_counts single_marks single_floats 0 28 4 ≡ None) × (transforms (direct_grid single_counts single_marks single_floats 0) ≡ single_transforms) × (chains (direct_grid single_counts single_marks single_floats 0) ≡ single_chains)
single_holds = (solved, transforms_grid, chains_grid)
