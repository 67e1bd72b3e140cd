-- Three more whole rigs, from the direct call's inputs to both answers, where `GridRow` is small: an overflow (`overflow`), a link of one view (`single`), and a
-- chain of three links with a link of three views and a view of three cameras (`deep`). The numbers are recorded as those of `GridRow` are: the first answers
-- from the Rust, which `sh tests/rows.sh SOURCE_FOLDER` compares, the chains by hand. Rests on the poses of the rows of `arithmetic` and `mean`, and on `GridRow`'s empty cell.
use Rattle.std.specs.Prelude.{ℕ, List, [], ◌∷◌, ◌++◌, Float}
use Rattle.arithmetic.specs.Pose.{flat}
use Rattle.arithmetic.specs.Rows.{pose_of, A, B, C, E, F}
use Rattle.mean.specs.Rows.{D}
use Rattle.arithmetic.specs.declared.pose.Pose.{Pose}
use Rattle.claims_cases.specs.GridRow.{empty}

-- ---- poses

-- (2^1023, 0, 0), no rotation
abbrev pub far_right : Pose
far_right =
    pose_of 0x7fe0_0000_0000_0000 0x0000_0000_0000_0000 0x0000_0000_0000_0000
    0x0000_0000_0000_0000 0x0000_0000_0000_0000 0x0000_0000_0000_0000 0x3ff0_0000_0000_0000

-- (−2^1023, 0, 0), no rotation
abbrev pub far_left : Pose
far_left =
    pose_of 0xffe0_0000_0000_0000 0x0000_0000_0000_0000 0x0000_0000_0000_0000
    0x0000_0000_0000_0000 0x0000_0000_0000_0000 0x0000_0000_0000_0000 0x3ff0_0000_0000_0000

-- ---- overflow

-- Two cameras and one view. The link overflows: "Candidates inside an estimate skip the finite check: overflow travels on". The reference's identity is multiplied,
-- and so the link's infinity and its zeros become NaNs.

abbrev pub overflow_counts : List ℕ
overflow_counts = 2 ∷ []

abbrev pub overflow_marks : List ℕ
overflow_marks = 1 ∷ 1 ∷ []

unfoldable pub overflow_floats : List Float
overflow_floats = flat far_right ++ flat far_left

abbrev pub overflow_camera0 : Pose
overflow_camera0 =
    pose_of 0x0000_0000_0000_0000 0x0000_0000_0000_0000 0x0000_0000_0000_0000
    0x0000_0000_0000_0000 0x0000_0000_0000_0000 0x0000_0000_0000_0000 0x3ff0_0000_0000_0000

abbrev pub overflow_camera1 : Pose
overflow_camera1 =
    pose_of 0x7ff8_0000_0000_0000 0x7ff8_0000_0000_0000 0x7ff8_0000_0000_0000
    0x0000_0000_0000_0000 0x0000_0000_0000_0000 0x0000_0000_0000_0000 0x3ff0_0000_0000_0000

abbrev pub overflow_target0 : Pose
overflow_target0 =
    pose_of 0x7ff8_0000_0000_0000 0x7ff8_0000_0000_0000 0x7ff8_0000_0000_0000
    0x0000_0000_0000_0000 0x0000_0000_0000_0000 0x0000_0000_0000_0000 0x3ff0_0000_0000_0000

unfoldable pub overflow_transforms : List Float
overflow_transforms = flat overflow_camera0 ++ flat overflow_camera1 ++ flat overflow_target0

unfoldable pub overflow_chains : List ℕ
overflow_chains = 0 ∷ 0 ∷ 0 ∷ 1 ∷ []

-- ---- single

-- Two cameras and two views, one of them shared: a link of one candidate is averaged like any other, and so is a view of one camera.

abbrev pub single_counts : List ℕ
single_counts = 2 ∷ 2 ∷ []

abbrev pub single_marks : List ℕ
single_marks = (1 ∷ 1 ∷ []) ++ (1 ∷ 0 ∷ [])

unfoldable pub single_floats : List Float
single_floats = flat A ++ flat B ++ flat C ++ flat empty

abbrev pub single_camera0 : Pose
single_camera0 =
    pose_of 0x0000_0000_0000_0000 0x0000_0000_0000_0000 0x0000_0000_0000_0000
    0x0000_0000_0000_0000 0x0000_0000_0000_0000 0x0000_0000_0000_0000 0x3ff0_0000_0000_0000

abbrev pub single_camera1 : Pose
single_camera1 =
    pose_of 0x4002_afcc_e1c5_8257 0xbfda_d6cb_5350_0938 0x3fd9_a6b5_0b0f_27ba
    0x3fc7_9d1b_4c28_881a 0x3fec_a47d_8e27_ae8d 0xbfd2_cdb2_2e6c_2084 0x3fd1_edcd_9d61_24f6

abbrev pub single_target0 : Pose
single_target0 =
    pose_of 0x3ff2_625a_dd78_1053 0x3fe6_cac6_53df_aa0e 0x3fe9_82b7_ac43_3abe
    0xbfe9_5907_eb87_ab44 0xbfc9_5907_eb87_ab42 0x3fdf_af49_e669_9615 0xbfd3_02c5_f0a5_c073

abbrev pub single_target1 : Pose
single_target1 =
    pose_of 0x3fc9_9999_9999_999a 0x3fd9_9999_9999_999a 0x3fb9_9999_9999_999a
    0xbfe5_775c_544f_f263 0x3fcc_9f25_c5bf_edd9 0xbfe5_775c_544f_f263 0x3fcc_9f25_c5bf_edd9

unfoldable pub single_transforms : List Float
single_transforms = flat single_camera0 ++ flat single_camera1 ++ flat single_target0 ++ flat single_target1

unfoldable pub single_chains : List ℕ
single_chains = 0 ∷ 0 ∷ 0 ∷ 1 ∷ []

-- ---- deep

-- Five cameras and five views, reference 3. Cameras 0 and 1 meet it, camera 1 in three views; camera 4 meets camera 1 alone, and camera 2 camera 4 alone, three links
-- away. View 0 has three cameras.

abbrev pub deep_counts : List ℕ
deep_counts = 5 ∷ 5 ∷ 5 ∷ 5 ∷ 5 ∷ []

abbrev pub deep_marks : List ℕ
deep_marks = (1 ∷ 1 ∷ 0 ∷ 1 ∷ 0 ∷ []) ++ (0 ∷ 1 ∷ 0 ∷ 1 ∷ 0 ∷ []) ++ (0 ∷ 1 ∷ 0 ∷ 1 ∷ 0 ∷ []) ++ (0 ∷ 1 ∷ 0 ∷ 0 ∷ 1 ∷ []) ++ (0 ∷ 0 ∷ 1 ∷ 0 ∷ 1 ∷ [])

unfoldable pub deep_floats : List Float
deep_floats = flat A ++ flat B ++ flat empty ++ flat C ++ flat empty ++ flat empty ++ flat D ++ flat empty ++ flat E ++ flat empty ++ flat empty ++ flat F ++ flat empty ++ flat A ++ flat empty ++ flat empty ++ flat B ++ flat empty ++ flat empty ++ flat C ++ flat empty ++ flat empty ++ flat D ++ flat empty ++ flat E

abbrev pub deep_camera0 : Pose
deep_camera0 =
    pose_of 0x3fff_c1bd_a511_9ce7 0xbfed_6388_6594_af4b 0xbfd3_4d6a_161e_4f82
    0x3fd9_8176_2027_11f8 0xbfec_56f5_0747_db14 0xbfcc_56f5_0747_db14 0x3fb6_abf7_3906_48de

abbrev pub deep_camera1 : Pose
deep_camera1 =
    pose_of 0xc002_699f_47a0_1959 0xc007_ec72_cc17_0bff 0xbfe7_1870_80e3_310d
    0x3fe3_31a4_4f77_945a 0xbfde_e839_2800_e1c3 0x3fa4_7937_cc3b_48ee 0x3fe4_6005_1167_4eb7

abbrev pub deep_camera2 : Pose
deep_camera2 =
    pose_of 0xc022_b03a_5b61_f69a 0x3fe2_a8ac_cf7b_c138 0xc01c_8ea6_5698_6635
    0xbf91_a337_98c6_10a0 0x3fef_3212_2ab5_5d6a 0x3fb5_1064_2406_cb5c 0x3fca_6966_727b_19f1

abbrev pub deep_camera3 : Pose
deep_camera3 =
    pose_of 0x0000_0000_0000_0000 0x0000_0000_0000_0000 0x0000_0000_0000_0000
    0x0000_0000_0000_0000 0x0000_0000_0000_0000 0x0000_0000_0000_0000 0x3ff0_0000_0000_0000

abbrev pub deep_camera4 : Pose
deep_camera4 =
    pose_of 0xc00c_1973_59a0_7ff6 0xc007_839e_c21f_7826 0xc005_3f5c_2a4d_466c
    0x3fce_9217_2926_6d46 0xbfa1_02bd_8601_d8c3 0xbfde_6fdf_e960_8f9a 0x3feb_1242_17d2_aa09

abbrev pub deep_target0 : Pose
deep_target0 =
    pose_of 0xbfd2_8e11_e7ce_b0ed 0xbfe8_6326_a323_6259 0xbfcd_1c12_4a61_c8e1
    0xbfe2_ad10_a7a6_46be 0x3fd9_f1a8_11d5_b6fd 0xbfe5_ef7d_6466_23dd 0x3fc4_4dee_1079_363c

abbrev pub deep_target1 : Pose
deep_target1 =
    pose_of 0xbff8_1c9f_2369_ddd4 0xbffe_14af_d3c3_e95a 0xbff0_6e16_eecc_f96a
    0x3fdf_c345_6ec1_f880 0x3fa6_7f39_438d_b0c4 0xbfc6_0382_c5c6_5e9a 0x3feb_31ad_bbf8_8dc2

abbrev pub deep_target2 : Pose
deep_target2 =
    pose_of 0xbff1_366d_1267_841d 0xbff3_74f2_3c7b_972d 0x3fe3_ba55_85bf_2b24
    0xbfeb_6089_f084_7232 0xbfcb_9109_a795_f6cf 0xbfd9_d30c_7ae4_607b 0xbfcf_0dfd_0ca1_a727

abbrev pub deep_target3 : Pose
deep_target3 =
    pose_of 0xc003_bfe3_a012_bbbe 0xc005_3e40_4569_2f23 0xbff4_85eb_b3a7_df50
    0xbfd8_ab76_17a0_0e5c 0x3fe5_26be_338d_08ec 0xbfe4_9133_ef0b_5c0b 0x3fa3_5836_41e4_21cf

abbrev pub deep_target4 : Pose
deep_target4 =
    pose_of 0xc018_a7b1_d35f_7d4a 0xbff4_c75a_030d_3692 0xc015_4ed2_a880_5743
    0xbfe3_e05e_9fed_620f 0x3fe2_a5ce_b3a5_6076 0x3fda_263a_7b4e_964d 0xbfd4_ffda_3e07_9cbc

unfoldable pub deep_transforms : List Float
deep_transforms = flat deep_camera0 ++ flat deep_camera1 ++ flat deep_camera2 ++ flat deep_camera3 ++ flat deep_camera4 ++ flat deep_target0 ++ flat deep_target1 ++ flat deep_target2 ++ flat deep_target3 ++ flat deep_target4

unfoldable pub deep_chains : List ℕ
deep_chains = 3 ∷ 1 ∷ 3 ∷ 1 ∷ 4 ∷ 3 ∷ 3 ∷ 0 ∷ 1 ∷ 2 ∷ []
