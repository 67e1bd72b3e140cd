-- The deep rig is solved, with the transforms that were recorded and the chains that were worked out (`deep_holds`). Each average is computed by itself, as in
-- `GridRow`. The numbers between are no part of what is said. Assumes nothing.
use Prim.Native.Nat.{ℕ}
use mathlib.Core.Path.{◌≡◌, refl, ap, ap₂, ◌∙◌}
use Rattle.std.specs.Prelude.{None}
use mathlib.Core.List.{List, [], ◌∷◌, ◌++◌}
use lib.Ieee.{of_bits, of_int, add, sub, mul, div, neg, lt, eq}
use Rattle.root.specs.Root.{root_of}
use Rattle.arithmetic.specs.Pose.{vec3, quaternion, identity_pose, mul_pose, inverse_pose, finite_pose, flat}
use Rattle.arithmetic.specs.Rows.{double, pose_of}
use Rattle.mean.specs.Average.{plus_translation, plus_rotation, mean_of, average_isometries}
use Rattle.mean.proofs.Averaging.{average-sums}
use Rattle.arithmetic.specs.declared.pose.Pose.{Pose}
use Rattle.lists.specs.Finding.{count}
use Rattle.chains.specs.Shared.{shared}
use Rattle.chains.specs.Layers.{parent_of, links_of, is_placed, in_layer, take_if_more, most_views, start_spot, next_spot, linked_in_layer, parent_in_layer, layers_to, layers, spot_at, Spot, placed}
use Rattle.placing.specs.Grid.{Grid, is_held, cell_of, spots, parent}
use Rattle.lists.specs.Lists.{gather}
use Rattle.placing.specs.Estimate.{link_candidates, averaged_link, pose_after, rig_se3_cam, target_candidate, target_candidates, rig_se3_target, transforms, chains}
use Rattle.extrinsics.specs.Direct.{direct_grid, direct_refusal}
use Rattle.claims_cases.specs.OtherGrids.{deep_counts, deep_marks, deep_floats, deep_camera0, deep_camera1, deep_camera2, deep_camera3, deep_camera4, deep_target0, deep_target1, deep_target2, deep_target3, deep_target4, deep_transforms, deep_chains}

abbrev grid : Grid
grid = direct_grid deep_counts deep_marks deep_floats 3

-- ---- the cameras

-- Camera 0's link to camera 3.
abbrev link0 : Pose
link0 =
    pose_of 0x3fff_c1bd_a511_9ce7 0xbfed_6388_6594_af4b 0xbfd3_4d6a_161e_4f82
    0x3fd9_8176_2027_11f8 0xbfec_56f5_0747_db14 0xbfcc_56f5_0747_db14 0x3fb6_abf7_3906_48de

abbrev link0_first : Pose
link0_first =
    pose_of 0x3fff_c1bd_a511_9ce7 0xbfed_6388_6594_af4b 0xbfd3_4d6a_161e_4f82
    0x3fe1_47ae_147a_e148 0xbff3_3333_3333_3334 0xbfd3_3333_3333_3334 0x3fbe_b851_eb85_1ebc

average_link0 : average_isometries (link0_first ∷ []) ≡ link0
unfolding plus_translation plus_rotation mean_of root_of of_bits of_int add mul div neg lt eq
average_link0 =
    average-sums (link0_first ∷ [])
    {t = vec3 (double 0x3fff_c1bd_a511_9ce7) (double 0xbfed_6388_6594_af4b) (double 0xbfd3_4d6a_161e_4f82)}
    {s = quaternion (double 0x3fe1_47ae_147a_e148) (double 0xbff3_3333_3333_3334) (double 0xbfd3_3333_3333_3334) (double 0x3fbe_b851_eb85_1ebc)}
    refl
    refl
    ∙ refl

candidates_link0 : link_candidates grid 3 0 ≡ link0_first ∷ []
unfolding direct_grid deep_floats link_candidates mul_pose inverse_pose of_bits add sub mul neg
candidates_link0 = refl

averaged_link_link0 : averaged_link grid 3 0 ≡ link0
unfolding averaged_link
averaged_link_link0 = ap average_isometries candidates_link0 ∙ average_link0

placed0 : mul_pose identity_pose link0 ≡ deep_camera0
unfolding mul_pose of_bits add sub mul
placed0 = refl

-- Camera 1's link to camera 3.
abbrev link1 : Pose
link1 =
    pose_of 0xc002_699f_47a0_1959 0xc007_ec72_cc17_0bff 0xbfe7_1870_80e3_310d
    0x3fe3_31a4_4f77_945a 0xbfde_e839_2800_e1c3 0x3fa4_7937_cc3b_48ee 0x3fe4_6005_1167_4eb7

abbrev link1_first : Pose
link1_first =
    pose_of 0xbff2_fec5_6d5c_faad 0xc016_11db_ca96_91aa 0xbfc1_0f51_ac9a_fe2f
    0x3ff2_3d70_a3d7_0a3d 0xbfc7_0a3d_70a3_d70c 0x3fea_e147_ae14_7ae2 0x3ff5_1eb8_51eb_8520

abbrev link1_second : Pose
link1_second =
    pose_of 0xc015_37f3_8c54_36bb 0xc014_1ade_a897_635e 0xc00c_f8b5_88e3_68f6
    0xbff3_851e_b851_eb85 0x3fff_5c28_f5c2_8f5d 0xbfc3_3333_3333_3336 0x3fcd_70a3_d70a_3d72

abbrev link1_third : Pose
link1_third =
    pose_of 0xbfda_6ca0_3c4b_09ec 0x3ff9_2839_042d_8c2b 0x3ff9_6eac_8605_681e
    0xbfda_3d70_a3d7_0a3d 0x3fe2_3d70_a3d7_0a3d 0xbfeb_851e_b851_eb86 0x3fef_5c28_f5c2_8f5d

average_link1 : average_isometries (link1_first ∷ link1_second ∷ link1_third ∷ []) ≡ link1
unfolding plus_translation plus_rotation mean_of root_of of_bits of_int add mul div neg lt eq
average_link1 =
    average-sums (link1_first ∷ link1_second ∷ link1_third ∷ [])
    {t = vec3 (double 0xc01b_9e6e_eb70_2605) (double 0xc021_f156_1911_48ff) (double 0xc001_5254_60aa_64ca)}
    {s = quaternion (double 0x3fff_3333_3333_3333) (double 0xbff9_1eb8_51eb_8520) (double 0x3fc0_a3d7_0a3d_70a8) (double 0x4000_8f5c_28f5_c290)}
    refl
    refl
    ∙ refl

candidates_link1 : link_candidates grid 3 1 ≡ link1_first ∷ link1_second ∷ link1_third ∷ []
unfolding direct_grid deep_floats link_candidates mul_pose inverse_pose of_bits add sub mul neg
candidates_link1 = refl

averaged_link_link1 : averaged_link grid 3 1 ≡ link1
unfolding averaged_link
averaged_link_link1 = ap average_isometries candidates_link1 ∙ average_link1

placed1 : mul_pose identity_pose link1 ≡ deep_camera1
unfolding mul_pose of_bits add sub mul
placed1 = refl

-- Camera 4's link to camera 1.
abbrev link4 : Pose
link4 =
    pose_of 0xbfff_396d_0917_d6b7 0xbfe4_02f2_f987_3ffe 0x3ff0_154c_985f_06f6
    0xbfe2_c366_ccd4_da1d 0x3fb7_b374_610c_dd9f 0xbfdb_a6b2_7139_ad37 0x3fe5_b9d5_58f6_75d1

abbrev link4_first : Pose
link4_first =
    pose_of 0xbfff_396d_0917_d6b7 0xbfe4_02f2_f987_3ffe 0x3ff0_154c_985f_06f6
    0xbff2_3d70_a3d7_0a3e 0x3fc7_0a3d_70a3_d70c 0xbfea_e147_ae14_7ae2 0x3ff5_1eb8_51eb_8520

average_link4 : average_isometries (link4_first ∷ []) ≡ link4
unfolding plus_translation plus_rotation mean_of root_of of_bits of_int add mul div neg lt eq
average_link4 =
    average-sums (link4_first ∷ [])
    {t = vec3 (double 0xbfff_396d_0917_d6b7) (double 0xbfe4_02f2_f987_3ffe) (double 0x3ff0_154c_985f_06f6)}
    {s = quaternion (double 0xbff2_3d70_a3d7_0a3e) (double 0x3fc7_0a3d_70a3_d70c) (double 0xbfea_e147_ae14_7ae2) (double 0x3ff5_1eb8_51eb_8520)}
    refl
    refl
    ∙ refl

candidates_link4 : link_candidates grid 1 4 ≡ link4_first ∷ []
unfolding direct_grid deep_floats link_candidates mul_pose inverse_pose of_bits add sub mul neg
candidates_link4 = refl

averaged_link_link4 : averaged_link grid 1 4 ≡ link4
unfolding averaged_link
averaged_link_link4 = ap average_isometries candidates_link4 ∙ average_link4

placed4 : mul_pose deep_camera1 link4 ≡ deep_camera4
unfolding mul_pose of_bits add sub mul
placed4 = refl

-- Camera 2's link to camera 4.
abbrev link2 : Pose
link2 =
    pose_of 0xc015_37f3_8c54_36bb 0xc014_1ade_a897_635e 0xc00c_f8b5_88e3_68f6
    0xbfe0_caaf_f3c1_d325 0x3fea_fa16_7b05_07ad 0xbfb0_8437_8f3c_8c8b 0x3fb9_5344_1fe5_6006

abbrev link2_first : Pose
link2_first =
    pose_of 0xc015_37f3_8c54_36bb 0xc014_1ade_a897_635e 0xc00c_f8b5_88e3_68f6
    0xbff3_851e_b851_eb85 0x3fff_5c28_f5c2_8f5d 0xbfc3_3333_3333_3336 0x3fcd_70a3_d70a_3d72

average_link2 : average_isometries (link2_first ∷ []) ≡ link2
unfolding plus_translation plus_rotation mean_of root_of of_bits of_int add mul div neg lt eq
average_link2 =
    average-sums (link2_first ∷ [])
    {t = vec3 (double 0xc015_37f3_8c54_36bb) (double 0xc014_1ade_a897_635e) (double 0xc00c_f8b5_88e3_68f6)}
    {s = quaternion (double 0xbff3_851e_b851_eb85) (double 0x3fff_5c28_f5c2_8f5d) (double 0xbfc3_3333_3333_3336) (double 0x3fcd_70a3_d70a_3d72)}
    refl
    refl
    ∙ refl

candidates_link2 : link_candidates grid 4 2 ≡ link2_first ∷ []
unfolding direct_grid deep_floats link_candidates mul_pose inverse_pose of_bits add sub mul neg
candidates_link2 = refl

averaged_link_link2 : averaged_link grid 4 2 ≡ link2
unfolding averaged_link
averaged_link_link2 = ap average_isometries candidates_link2 ∙ average_link2

placed2 : mul_pose deep_camera4 link2 ≡ deep_camera2
unfolding mul_pose of_bits add sub mul
placed2 = refl

spots_grid : spots grid ≡ placed 3 1 ∷ placed 3 1 ∷ placed 4 3 ∷ placed 3 0 ∷ placed 1 2 ∷ []
unfolding direct_grid is_held shared count spots layers layers_to start_spot next_spot parent_in_layer linked_in_layer in_layer most_views take_if_more
spots_grid = refl

-- Camera 0 is one link from the reference.
after0 : pose_after grid (parent grid) 1 0 ≡ deep_camera0
unfolding pose_after parent_of
after0 =
    ap (λ (l : List Spot). mul_pose identity_pose (averaged_link grid (parent_of (spot_at l 0)) 0)) spots_grid
    ∙ ap (mul_pose identity_pose) averaged_link_link0
    ∙ placed0

-- Camera 1 is one link from the reference.
after1 : pose_after grid (parent grid) 1 1 ≡ deep_camera1
unfolding pose_after parent_of
after1 =
    ap (λ (l : List Spot). mul_pose identity_pose (averaged_link grid (parent_of (spot_at l 1)) 1)) spots_grid
    ∙ ap (mul_pose identity_pose) averaged_link_link1
    ∙ placed1

-- Camera 4 is two links from the reference.
after4 : pose_after grid (parent grid) 2 4 ≡ deep_camera4
unfolding pose_after parent_of
after4 =
    ap (λ (l : List Spot). mul_pose (pose_after grid (parent grid) 1 (parent_of (spot_at l 4))) (averaged_link grid (parent_of (spot_at l 4)) 4)) spots_grid
    ∙ ap₂ mul_pose after1 averaged_link_link4
    ∙ placed4

-- Camera 2 is three links from the reference.
after2 : pose_after grid (parent grid) 3 2 ≡ deep_camera2
unfolding pose_after parent_of
after2 =
    ap (λ (l : List Spot). mul_pose (pose_after grid (parent grid) 2 (parent_of (spot_at l 2))) (averaged_link grid (parent_of (spot_at l 2)) 2)) spots_grid
    ∙ ap₂ mul_pose after4 averaged_link_link2
    ∙ placed2

camera0 : rig_se3_cam grid 0 ≡ deep_camera0
unfolding rig_se3_cam links_of
camera0 = ap (λ (l : List Spot). pose_after grid (parent grid) (links_of (spot_at l 0)) 0) spots_grid ∙ after0

camera1 : rig_se3_cam grid 1 ≡ deep_camera1
unfolding rig_se3_cam links_of
camera1 = ap (λ (l : List Spot). pose_after grid (parent grid) (links_of (spot_at l 1)) 1) spots_grid ∙ after1

camera2 : rig_se3_cam grid 2 ≡ deep_camera2
unfolding rig_se3_cam links_of
camera2 = ap (λ (l : List Spot). pose_after grid (parent grid) (links_of (spot_at l 2)) 2) spots_grid ∙ after2

camera3 : rig_se3_cam grid 3 ≡ deep_camera3
unfolding rig_se3_cam links_of
camera3 = ap (λ (l : List Spot). pose_after grid (parent grid) (links_of (spot_at l 3)) 3) spots_grid

camera4 : rig_se3_cam grid 4 ≡ deep_camera4
unfolding rig_se3_cam links_of
camera4 = ap (λ (l : List Spot). pose_after grid (parent grid) (links_of (spot_at l 4)) 4) spots_grid ∙ after4

-- ---- the targets

-- What the cameras add to view v, their poses told.
abbrev added : ℕ → List Pose
added v = (((target_candidate deep_camera0 (cell_of grid v 0) ++ target_candidate deep_camera1 (cell_of grid v 1)) ++ target_candidate deep_camera2 (cell_of grid v 2)) ++ target_candidate deep_camera3 (cell_of grid v 3)) ++ target_candidate deep_camera4 (cell_of grid v 4)

seen : (v : ℕ) → target_candidates grid v ≡ added v
unfolding target_candidates direct_grid
seen v =
    ap₂ ◌++◌ (ap₂ ◌++◌ (ap₂ ◌++◌ (ap₂ ◌++◌ (ap (λ (p : Pose). target_candidate p (cell_of grid v 0)) camera0) (ap (λ (p : Pose). target_candidate p (cell_of grid v 1)) camera1)) (ap (λ (p : Pose). target_candidate p (cell_of grid v 2)) camera2)) (ap (λ (p : Pose). target_candidate p (cell_of grid v 3)) camera3)) (ap (λ (p : Pose). target_candidate p (cell_of grid v 4)) camera4)

abbrev target0_first : Pose
target0_first =
    pose_of 0x3fe8_0c03_d2ab_c256 0xbfd5_ef05_8cb7_b9bc 0xbfe4_9e79_9c6d_52bc
    0xbfe5_ae0a_ce87_9c14 0x3fcc_e80e_68b4_d019 0xbfe5_ae0a_ce87_9c13 0x3fcc_e80e_68b4_d019

abbrev target0_second : Pose
target0_second =
    pose_of 0xbffd_23c2_8a64_1910 0xc002_bfaf_7bf6_c5be 0xbfc1_a71d_3a3c_dc80
    0xbfe1_dffc_87f8_aeeb 0x3fee_a6b5_4240_240c 0xbfed_ce00_fb87_8929 0x3fac_086f_d89f_f195

abbrev target0_third : Pose
target0_third =
    pose_of 0x3fc9_9999_9999_999a 0x3fd9_9999_9999_999a 0x3fb9_9999_9999_999a
    0xbfec_cccc_cccc_cccd 0x3fd3_3333_3333_3333 0xbfec_cccc_cccc_cccd 0x3fd3_3333_3333_3333

average_target0 : average_isometries (target0_first ∷ target0_second ∷ target0_third ∷ []) ≡ deep_target0
unfolding plus_translation plus_rotation mean_of root_of of_bits of_int add mul div neg lt eq
average_target0 =
    average-sums (target0_first ∷ target0_second ∷ target0_third ∷ [])
    {t = vec3 (double 0xbfeb_d51a_dbb6_0964) (double 0xc002_4a5c_fa5a_89c3) (double 0xbfe5_d50d_b7c9_56a9)}
    {s = quaternion (double 0xc001_16b5_08d3_45f3) (double 0x3ff7_bd29_3b03_78d6) (double 0xc004_1236_25b6_fc82) (double 0x3fe2_9424_3150_ccb9)}
    refl
    refl
    ∙ refl

seen_target0 : added 0 ≡ target0_first ∷ target0_second ∷ target0_third ∷ []
unfolding direct_grid deep_floats target_candidate mul_pose of_bits add sub mul
seen_target0 = refl

target0 : rig_se3_target grid 0 ≡ deep_target0
unfolding rig_se3_target
target0 = ap average_isometries (seen 0 ∙ seen_target0) ∙ average_target0

abbrev target1_first : Pose
target1_first =
    pose_of 0xc006_8305_89d0_443a 0xc009_47e3_06f7_1c8d 0xbffa_75c7_7733_8c6d
    0x3fd8_a094_985f_ed9b 0x3fe0_b92a_fe15_5937 0xbfd8_4ff2_4286_6697 0x3ff7_8a24_07ec_c756

abbrev target1_second : Pose
target1_second =
    pose_of 0xbfc9_9999_9999_999a 0xbfe3_3333_3333_3333 0xbfd9_9999_9999_999a
    0xbff0_0000_0000_0000 0x3fd9_9999_9999_999a 0x3fb9_9999_9999_999a 0xbfec_cccc_cccc_cccd

average_target1 : average_isometries (target1_first ∷ target1_second ∷ []) ≡ deep_target1
unfolding plus_translation plus_rotation mean_of root_of of_bits of_int add mul div neg lt eq
average_target1 =
    average-sums (target1_first ∷ target1_second ∷ [])
    {t = vec3 (double 0xc008_1c9f_2369_ddd4) (double 0xc00e_14af_d3c3_e95a) (double 0xc000_6e16_eecc_f96a)}
    {s = quaternion (double 0x3ff6_2825_2617_fb67) (double 0x3fbf_62f1_8a44_6350) (double 0xbfde_b658_a8ec_ccfe) (double 0x4002_f845_3729_96de)}
    refl
    refl
    ∙ refl

seen_target1 : added 1 ≡ target1_first ∷ target1_second ∷ []
unfolding direct_grid deep_floats target_candidate mul_pose of_bits add sub mul
seen_target1 = refl

target1 : rig_se3_target grid 1 ≡ deep_target1
unfolding rig_se3_target
target1 = ap average_isometries (seen 1 ∙ seen_target1) ∙ average_target1

abbrev target2_first : Pose
target2_first =
    pose_of 0xc004_69a0_459a_b750 0xc00b_74f2_3c7b_972d 0x3fd5_4fbc_7d63_12f6
    0xbfe8_2f30_4fa6_07b9 0xbfc8_8761_dd8b_f36c 0xbff3_bd7d_dc5c_da8c 0xbfc2_1261_fda0_a353

abbrev target2_second : Pose
target2_second =
    pose_of 0x3fd9_9999_9999_999a 0x3ff0_0000_0000_0000 0x3fec_cccc_cccc_cccd
    0xbfe9_9999_9999_999a 0xbfc9_9999_9999_999a 0x3fe0_0000_0000_0000 0xbfd3_3333_3333_3333

average_target2 : average_isometries (target2_first ∷ target2_second ∷ []) ≡ deep_target2
unfolding plus_translation plus_rotation mean_of root_of of_bits of_int add mul div neg lt eq
average_target2 =
    average-sums (target2_first ∷ target2_second ∷ [])
    {t = vec3 (double 0xc001_366d_1267_841d) (double 0xc003_74f2_3c7b_972d) (double 0x3ff3_ba55_85bf_2b24)}
    {s = quaternion (double 0xbff8_e464_f49f_d0aa) (double 0xbfd9_107d_bb92_c683) (double 0xbfe7_7afb_b8b9_b518) (double 0xbfdc_3c64_3203_84dc)}
    refl
    refl
    ∙ refl

seen_target2 : added 2 ≡ target2_first ∷ target2_second ∷ []
unfolding direct_grid deep_floats target_candidate mul_pose of_bits add sub mul
seen_target2 = refl

target2 : rig_se3_target grid 2 ≡ deep_target2
unfolding rig_se3_target
target2 = ap average_isometries (seen 2 ∙ seen_target2) ∙ average_target2

abbrev target3_first : Pose
target3_first =
    pose_of 0xbffd_23c2_8a64_1910 0xc002_bfaf_7bf6_c5be 0xbfc1_a71d_3a3c_dc80
    0xbfe1_dffc_87f8_aeeb 0x3fee_a6b5_4240_240c 0xbfed_ce00_fb87_8929 0x3fac_086f_d89f_f195

abbrev target3_second : Pose
target3_second =
    pose_of 0xc008_ede5_faf3_6af5 0xc007_bcd1_0edb_9888 0xc003_6b79_e004_1188
    0xbfe0_8c8a_4c9c_20b4 0x3fec_60a3_d883_435a 0xbfeb_9802_cb4c_80f8 0x3fa9_f416_eb2d_3d78

average_target3 : average_isometries (target3_first ∷ target3_second ∷ []) ≡ deep_target3
unfolding plus_translation plus_rotation mean_of root_of of_bits of_int add mul div neg lt eq
average_target3 =
    average-sums (target3_first ∷ target3_second ∷ [])
    {t = vec3 (double 0xc013_bfe3_a012_bbbe) (double 0xc015_3e40_4569_2f23) (double 0xc004_85eb_b3a7_df50)}
    {s = quaternion (double 0xbff1_3643_6a4a_67d0) (double 0x3ffd_83ac_8d61_b3b3) (double 0xbffc_b301_e36a_0510) (double 0x3fba_fe43_61e6_9786)}
    refl
    refl
    ∙ refl

seen_target3 : added 3 ≡ target3_first ∷ target3_second ∷ []
unfolding direct_grid deep_floats target_candidate mul_pose of_bits add sub mul
seen_target3 = refl

target3 : rig_se3_target grid 3 ≡ deep_target3
unfolding rig_se3_target
target3 = ap average_isometries (seen 3 ∙ seen_target3) ∙ average_target3

abbrev target4_first : Pose
target4_first =
    pose_of 0xc020_b133_0cd8_30b1 0x3fd2_7e67_fcee_aab2 0xc01d_ab51_42a6_33e2
    0xbff0_6bae_e67b_2e5d 0x3fee_cf9f_d5e9_6aea 0x3fe5_9a57_1eb4_48ce 0xbfe1_592e_dbd3_442d

abbrev target4_second : Pose
target4_second =
    pose_of 0xc00f_d9fb_1a1d_3265 0xc007_1727_02ab_0be8 0xc009_e4a8_1cb4_f548
    0xbfeb_f7f8_81a4_cf42 0x3fea_3d57_acba_16e0 0x3fe2_65ce_a3f1_0bce 0xbfdd_8c7e_b844_a23b

average_target4 : average_isometries (target4_first ∷ target4_second ∷ []) ≡ deep_target4
unfolding plus_translation plus_rotation mean_of root_of of_bits of_int add mul div neg lt eq
average_target4 =
    average-sums (target4_first ∷ target4_second ∷ [])
    {t = vec3 (double 0xc028_a7b1_d35f_7d4a) (double 0xc004_c75a_030d_3692) (double 0xc025_4ed2_a880_5743)}
    {s = quaternion (double 0xbffe_67ab_274d_95fe) (double 0x3ffc_867b_c151_c0e5) (double 0x3ff4_0012_e152_aa4e) (double 0xbff0_0fb7_1bfa_caa5)}
    refl
    refl
    ∙ refl

seen_target4 : added 4 ≡ target4_first ∷ target4_second ∷ []
unfolding direct_grid deep_floats target_candidate mul_pose of_bits add sub mul
seen_target4 = refl

target4 : rig_se3_target grid 4 ≡ deep_target4
unfolding rig_se3_target
target4 = ap average_isometries (seen 4 ∙ seen_target4) ∙ average_target4

-- ---- the whole

solved : direct_refusal deep_counts deep_marks deep_floats 3 70 10 ≡ None
unfolding direct_refusal deep_floats finite_pose is_held is_placed shared count spots layers layers_to start_spot next_spot parent_in_layer linked_in_layer in_layer most_views take_if_more of_bits
solved = refl

transforms_grid : transforms grid ≡ deep_transforms
unfolding transforms direct_grid deep_transforms
transforms_grid =
    ap₂ ◌++◌
    (ap₂ ◌++◌ (ap₂ ◌++◌ (ap₂ ◌++◌ (ap₂ ◌++◌ (ap flat camera0) (ap flat camera1)) (ap flat camera2)) (ap flat camera3)) (ap flat camera4))
    (ap₂ ◌++◌ (ap₂ ◌++◌ (ap₂ ◌++◌ (ap₂ ◌++◌ (ap flat target0) (ap flat target1)) (ap flat target2)) (ap flat target3)) (ap flat target4))

chains_grid : chains grid ≡ deep_chains
unfolding chains deep_chains direct_grid parent_of links_of
chains_grid = ap (λ (s : List Spot). gather 5 (λ c. parent_of (spot_at s c) ∷ links_of (spot_at s c) ∷ [])) spots_grid

-- Answers of 70 floats and 10 bytes are just long enough.
pub deep_holds : (direct_refusal deep_counts deep_marks deep_floats 3 70 10 ≡ None) × (transforms (direct_grid deep_counts deep_marks deep_floats 3) ≡ deep_transforms) × (chains (direct_grid deep_counts deep_marks deep_floats 3) ≡ deep_chains)
deep_holds = (solved, transforms_grid, chains_grid)
