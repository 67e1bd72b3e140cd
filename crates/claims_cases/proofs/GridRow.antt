-- The whole rig of `GridRow` is solved, with the transforms that were recorded and the chains that were worked out (`grid_holds`). Each average is computed
-- by itself, in three steps: its candidates, their sums, and the mean of these, since the checker bounds what one proof may compute. The numbers between
-- are no part of what is said. Assumes nothing.
use Prim.Native.Nat.{ℕ}
use mathlib.Core.Path.{◌≡◌, refl, ap, ap₂, ◌∙◌}
use Rattle.std.specs.Prelude.{None}
use mathlib.Core.List.{List, [], ◌∷◌, ◌++◌}
use lib.Ieee.{of_bits, of_int, add, sub, mul, div, neg, lt, eq}
use Rattle.root.specs.Root.{root_of}
use Rattle.arithmetic.specs.Pose.{vec3, quaternion, identity_pose, mul_pose, inverse_pose, finite_pose, flat}
use Rattle.arithmetic.specs.Rows.{double, pose_of}
use Rattle.mean.specs.Average.{plus_translation, plus_rotation, mean_of, average_isometries}
use Rattle.mean.proofs.Averaging.{average-sums}
use Rattle.arithmetic.specs.declared.pose.Pose.{Pose}
use Rattle.lists.specs.Finding.{count}
use Rattle.chains.specs.Shared.{shared}
use Rattle.chains.specs.Layers.{parent_of, links_of, is_placed, in_layer, take_if_more, most_views, start_spot, next_spot, linked_in_layer, parent_in_layer, layers_to, layers, spot_at, Spot, placed}
use Rattle.placing.specs.Grid.{Grid, is_held, cell_of, spots, parent}
use Rattle.lists.specs.Lists.{gather}
use Rattle.placing.specs.Estimate.{link_candidates, averaged_link, pose_after, rig_se3_cam, target_candidate, target_candidates, rig_se3_target, transforms, chains}
use Rattle.extrinsics.specs.Direct.{direct_grid, direct_refusal}
use Rattle.claims_cases.specs.GridRow.{counts, marks, floats, grid_camera0, grid_camera1, grid_camera2, grid_target0, grid_target1, grid_target2, grid_target3, grid_transforms, grid_chains}

abbrev grid : Grid
grid = direct_grid counts marks floats 2

-- ---- the cameras

-- Camera 0's link to camera 2.
abbrev link0 : Pose
link0 =
    pose_of 0xbfe0_62f5_989d_f114 0xc002_057d_1782_d386 0xbfeb_7707_9e59_f2bc
    0x3fd1_62e0_66ab_a5d4 0xbfdd_de60_b061_f582 0x3fc7_2e80_88e4_dd1c 0x3fea_4d60_9b52_7108

abbrev link0_first : Pose
link0_first =
    pose_of 0x3ff1_35fc_3b4f_616c 0xbff4_6983_5158_b82b 0x3fa9_30be_0ded_2850
    0xbfd1_47ae_147a_e14a 0xbff4_f5c2_8f5c_28f6 0x3fdb_851e_b851_eb85 0x3fda_3d70_a3d7_0a3f

abbrev link0_second : Pose
link0_second =
    pose_of 0xc000_cc78_e9f6_a940 0xc009_d638_8659_4af6 0xbffc_408d_8ec9_5bfe
    0xbff0_cccc_cccc_cccd 0x3f9e_b851_eb85_1ec0 0xbfb7_0a3d_70a3_d708 0xbfff_3333_3333_3334

average_link0 : average_isometries (link0_first ∷ link0_second ∷ []) ≡ link0
unfolding plus_translation plus_rotation mean_of root_of of_bits of_int add mul div neg lt eq
average_link0 =
    average-sums (link0_first ∷ link0_second ∷ [])
    {t = vec3 (double 0xbff0_62f5_989d_f114) (double 0xc012_057d_1782_d386) (double 0xbffb_7707_9e59_f2bc)}
    {s = quaternion (double 0x3fe8_f5c2_8f5c_28f5) (double 0xbff5_70a3_d70a_3d71) (double 0x3fe0_a3d7_0a3d_70a4) (double 0x4002_e147_ae14_7ae2)}
    refl
    refl
    ∙ refl

candidates_link0 : link_candidates grid 2 0 ≡ link0_first ∷ link0_second ∷ []
unfolding direct_grid floats link_candidates mul_pose inverse_pose of_bits add sub mul neg
candidates_link0 = refl

averaged_link_link0 : averaged_link grid 2 0 ≡ link0
unfolding averaged_link
averaged_link_link0 = ap average_isometries candidates_link0 ∙ average_link0

-- Camera 1's link to camera 0.
abbrev link1 : Pose
link1 =
    pose_of 0xbfe5_b717_58e2_1969 0x4007_2e33_eff1_9504 0x3ff0_2a6f_3f52_fc28
    0xbfe7_1703_52a1_e96b 0xbfc4_72d8_6ef7_4d4c 0x3fe0_b31f_aff4_a142 0x3fdb_43cb_3e9f_11bb

abbrev link1_first : Pose
link1_first =
    pose_of 0xbffc_c985_f06f_6947 0x4003_fcb9_23a2_9c78 0xbfe8_3126_e978_d4f7
    0xbfdc_cccc_cccc_cccd 0xbfe8_0000_0000_0000 0x3ff1_c28f_5c28_f5c3 0x3ff7_851e_b851_eb85

abbrev link1_second : Pose
link1_second =
    pose_of 0x3fdc_49ba_5e35_3f78 0x400a_5fae_bc40_8d91 0x4006_36b8_f9b1_3166
    0xc002_147a_e147_ae15 0x3fc3_3333_3333_3334 0x3feb_3333_3333_3333 0x3fc0_a3d7_0a3d_70a6

average_link1 : average_isometries (link1_first ∷ link1_second ∷ []) ≡ link1
unfolding plus_translation plus_rotation mean_of root_of of_bits of_int add mul div neg lt eq
average_link1 =
    average-sums (link1_first ∷ link1_second ∷ [])
    {t = vec3 (double 0xbff5_b717_58e2_1969) (double 0x4017_2e33_eff1_9504) (double 0x4000_2a6f_3f52_fc28)}
    {s = quaternion (double 0xc005_ae14_7ae1_47af) (double 0xbfe3_3333_3333_3333) (double 0x3fff_5c28_f5c2_8f5c) (double 0x3ff9_9999_9999_999a)}
    refl
    refl
    ∙ refl

candidates_link1 : link_candidates grid 0 1 ≡ link1_first ∷ link1_second ∷ []
unfolding direct_grid floats link_candidates mul_pose inverse_pose of_bits add sub mul neg
candidates_link1 = refl

averaged_link_link1 : averaged_link grid 0 1 ≡ link1
unfolding averaged_link
averaged_link_link1 = ap average_isometries candidates_link1 ∙ average_link1

placed0 : mul_pose identity_pose link0 ≡ grid_camera0
unfolding mul_pose of_bits add sub mul
placed0 = refl

placed1 : mul_pose grid_camera0 link1 ≡ grid_camera1
unfolding mul_pose of_bits add sub mul
placed1 = refl

spots_grid : spots grid ≡ placed 2 1 ∷ placed 0 2 ∷ placed 2 0 ∷ []
unfolding direct_grid is_held shared count spots layers layers_to start_spot next_spot parent_in_layer linked_in_layer in_layer most_views take_if_more
spots_grid = refl

-- One link from the reference is camera 0, two are camera 1.
one_link : pose_after grid (parent grid) 1 0 ≡ grid_camera0
unfolding pose_after parent_of
one_link =
    ap (λ (l : List Spot). mul_pose identity_pose (averaged_link grid (parent_of (spot_at l 0)) 0)) spots_grid
    ∙ ap (mul_pose identity_pose) averaged_link_link0
    ∙ placed0

two-links : pose_after grid (parent grid) 2 1 ≡ grid_camera1
unfolding pose_after parent_of
two-links =
    ap (λ (l : List Spot). mul_pose (pose_after grid (parent grid) 1 (parent_of (spot_at l 1))) (averaged_link grid (parent_of (spot_at l 1)) 1)) spots_grid
    ∙ ap₂ mul_pose one_link averaged_link_link1
    ∙ placed1

camera0 : rig_se3_cam grid 0 ≡ grid_camera0
unfolding rig_se3_cam links_of
camera0 = ap (λ (l : List Spot). pose_after grid (parent grid) (links_of (spot_at l 0)) 0) spots_grid ∙ one_link

camera1 : rig_se3_cam grid 1 ≡ grid_camera1
unfolding rig_se3_cam links_of
camera1 = ap (λ (l : List Spot). pose_after grid (parent grid) (links_of (spot_at l 1)) 1) spots_grid ∙ two-links

camera2 : rig_se3_cam grid 2 ≡ grid_camera2
unfolding rig_se3_cam links_of
camera2 = ap (λ (l : List Spot). pose_after grid (parent grid) (links_of (spot_at l 2)) 2) spots_grid

-- ---- the targets

-- What the cameras add to view v, their poses told.
abbrev added : ℕ → List Pose
added v = (target_candidate grid_camera0 (cell_of grid v 0) ++ target_candidate grid_camera1 (cell_of grid v 1)) ++ target_candidate grid_camera2 (cell_of grid v 2)

seen : (v : ℕ) → target_candidates grid v ≡ added v
unfolding target_candidates direct_grid
seen v =
    ap₂ ◌++◌
    (ap₂ ◌++◌ (ap (λ (p : Pose). target_candidate p (cell_of grid v 0)) camera0) (ap (λ (p : Pose). target_candidate p (cell_of grid v 1)) camera1))
    (ap (λ (p : Pose). target_candidate p (cell_of grid v 2)) camera2)

abbrev target0_first : Pose
target0_first =
    pose_of 0xbff7_73cd_bdd8_64c0 0xc000_04a9_f3bb_af72 0x3fc1_ff50_2608_5218
    0xbfed_f533_e41b_f26d 0xbfd3_86ad_401b_5bb8 0xbfb2_304d_3835_8a08 0xbfcb_4873_d450_4f11

abbrev target0_second : Pose
target0_second =
    pose_of 0x3fd3_3333_3333_3333 0x3fd3_3333_3333_3333 0xbfec_cccc_cccc_cccd
    0xbfe9_9999_9999_999a 0x3fb9_9999_9999_999a 0xbfec_cccc_cccc_cccd 0xbfe9_9999_9999_999a

average_target0 : average_isometries (target0_first ∷ target0_second ∷ []) ≡ grid_target0
unfolding plus_translation plus_rotation mean_of root_of of_bits of_int add mul div neg lt eq
average_target0 =
    average-sums (target0_first ∷ target0_second ∷ [])
    {t = vec3 (double 0xbff2_a700_f10b_97f3) (double 0xbffb_3c87_1aaa_9217) (double 0xbfe8_4cf8_c34a_b847)}
    {s = quaternion (double 0xbffb_c766_beda_c604) (double 0xbfca_408d_b369_eaa3) (double 0xbfef_12d6_73d3_7e0e) (double 0xbff0_35db_4756_d6af)}
    refl
    refl
    ∙ refl

seen_target0 : added 0 ≡ target0_first ∷ target0_second ∷ []
unfolding direct_grid floats target_candidate mul_pose of_bits add sub mul
seen_target0 = refl

target0 : rig_se3_target grid 0 ≡ grid_target0
unfolding rig_se3_target
target0 = ap average_isometries (seen 0 ∙ seen_target0) ∙ average_target0

abbrev target1_first : Pose
target1_first =
    pose_of 0xbfe6_6415_0d2e_9a7c 0xbfff_d9de_76f2_0e92 0xbfe1_09f8_d65e_eaa9
    0x3fd2_b940_6e91_7784 0xbfc8_12c0_8e28_be38 0x3ff0_6218_60bf_4893 0xbfe9_6920_960e_8fe8

abbrev target1_second : Pose
target1_second =
    pose_of 0xbfe9_9999_9999_999a 0xbfd9_9999_9999_999a 0x3fe3_3333_3333_3333
    0xbfe9_9999_9999_999a 0x3fe9_9999_9999_999a 0xbfe9_9999_9999_999a 0x3fec_cccc_cccc_cccd

average_target1 : average_isometries (target1_first ∷ target1_second ∷ []) ≡ grid_target1
unfolding plus_translation plus_rotation mean_of root_of of_bits of_int add mul div neg lt eq
average_target1 =
    average-sums (target1_first ∷ target1_second ∷ [])
    {t = vec3 (double 0xbff7_fed7_5364_1a0b) (double 0xc003_2022_6eac_3a7c) (double 0x3fb1_49d2_e6a2_4450)}
    {s = quaternion (double 0x3ff1_7b1c_e871_2aae) (double 0xbfef_9e49_bd23_c928) (double 0x3ffd_2ee5_2d8c_1560) (double 0xbffb_1af6_b16d_ae5a)}
    refl
    refl
    ∙ refl

seen_target1 : added 1 ≡ target1_first ∷ target1_second ∷ []
unfolding direct_grid floats target_candidate mul_pose of_bits add sub mul
seen_target1 = refl

target1 : rig_se3_target grid 1 ≡ grid_target1
unfolding rig_se3_target
target1 = ap average_isometries (seen 1 ∙ seen_target1) ∙ average_target1

abbrev target2_first : Pose
target2_first =
    pose_of 0x3fb2_f7ad_7b9a_c9d0 0xbff7_3076_de02_e521 0xbfec_7e8e_963a_594a
    0xbfde_4517_1926_e79e 0x3fe1_c3e2_0282_18b5 0xbff3_b179_4118_15ee 0xbfcd_8313_e17a_01e0

abbrev target2_second : Pose
target2_second =
    pose_of 0xc00a_e958_5ff6_a01a 0xbfee_e195_fa9a_bf31 0x3fd9_af4c_6ea9_ba3a
    0x3fc1_48ab_4470_d359 0x3fe4_5d7a_3e1e_d613 0xbfee_8f73_d3bf_26bb 0xbfe9_b1a0_bdd0_f81a

average_target2 : average_isometries (target2_first ∷ target2_second ∷ []) ≡ grid_target2
unfolding plus_translation plus_rotation mean_of root_of of_bits of_int add mul div neg lt eq
average_target2 =
    average-sums (target2_first ∷ target2_second ∷ [])
    {t = vec3 (double 0xc00a_519a_f419_c9cc) (double 0xc003_50a0_eda8_225d) (double 0xbfdf_4dd0_bdca_f85a)}
    {s = quaternion (double 0xbfd5_a0c1_76ee_7df2) (double 0x3ff3_10ae_2050_7764) (double 0xc001_7c99_957b_d4a6) (double 0xbff0_8932_db17_bc49)}
    refl
    refl
    ∙ refl

seen_target2 : added 2 ≡ target2_first ∷ target2_second ∷ []
unfolding direct_grid floats target_candidate mul_pose of_bits add sub mul
seen_target2 = refl

target2 : rig_se3_target grid 2 ≡ grid_target2
unfolding rig_se3_target
target2 = ap average_isometries (seen 2 ∙ seen_target2) ∙ average_target2

abbrev target3_first : Pose
target3_first =
    pose_of 0xbff1_7853_31c8_cae7 0xc007_c6db_3085_b3f8 0xbff6_9653_70f9_409c
    0xbfc7_a0a0_8b86_cdb0 0x3fd3_d690_7526_50eb 0xbfe4_d1a3_ae24_2ef2 0x3ff7_9aeb_be98_4e72

abbrev target3_second : Pose
target3_second =
    pose_of 0xc004_384e_9198_5a5e 0x3fce_7163_a318_bd48 0xbfe7_b114_efc0_cd7e
    0xbfd0_d51b_be2e_b15a 0x3fd7_c919_cfc1_00c0 0x3fc3_f4db_2832_aa3a 0x3ff6_2936_92be_558e

average_target3 : average_isometries (target3_first ∷ target3_second ∷ []) ≡ grid_target3
unfolding plus_translation plus_rotation mean_of root_of of_bits of_int add mul div neg lt eq
average_target3 =
    average-sums (target3_first ∷ target3_second ∷ [])
    {t = vec3 (double 0xc00c_f478_2a7c_bfd2) (double 0xc005_dfc4_f654_2824) (double 0xc001_376e_f46c_d3ae)}
    {s = quaternion (double 0xbfdc_a56c_03f2_1832) (double 0x3fe5_cfd5_2273_a8d6) (double 0xbfdf_a8d9_c82f_08c7) (double 0x4006_e211_28ab_5200)}
    refl
    refl
    ∙ refl

seen_target3 : added 3 ≡ target3_first ∷ target3_second ∷ []
unfolding direct_grid floats target_candidate mul_pose of_bits add sub mul
seen_target3 = refl

target3 : rig_se3_target grid 3 ≡ grid_target3
unfolding rig_se3_target
target3 = ap average_isometries (seen 3 ∙ seen_target3) ∙ average_target3

-- ---- the whole

solved : direct_refusal counts marks floats 2 49 6 ≡ None
unfolding direct_refusal floats finite_pose is_held is_placed shared count spots layers layers_to start_spot next_spot parent_in_layer linked_in_layer in_layer most_views take_if_more of_bits
solved = refl

transforms_grid : transforms grid ≡ grid_transforms
unfolding transforms direct_grid grid_transforms
transforms_grid =
    ap₂ ◌++◌
    (ap₂ ◌++◌ (ap₂ ◌++◌ (ap flat camera0) (ap flat camera1)) (ap flat camera2))
    (ap₂ ◌++◌ (ap₂ ◌++◌ (ap₂ ◌++◌ (ap flat target0) (ap flat target1)) (ap flat target2)) (ap flat target3))

chains_grid : chains grid ≡ grid_chains
unfolding chains grid_chains direct_grid parent_of links_of
chains_grid = ap (λ (s : List Spot). gather 3 (λ c. parent_of (spot_at s c) ∷ links_of (spot_at s c) ∷ [])) spots_grid

-- Answers of 49 floats and 6 bytes are just long enough.
pub grid_holds : (direct_refusal counts marks floats 2 49 6 ≡ None) × (transforms (direct_grid counts marks floats 2) ≡ grid_transforms) × (chains (direct_grid counts marks floats 2) ≡ grid_chains)
grid_holds = (solved, transforms_grid, chains_grid)
