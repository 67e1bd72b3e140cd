-- One whole rig, from the direct call's inputs to both answers: three cameras, four views, reference 2. Camera 1 meets camera 0 alone, and that one
-- the reference. The numbers of the first answer are recorded from the Rust's `estimate_extrinsics_from_cam_target_poses`, over the stand-in for nalgebra
-- of tests/rust/nalgebra, which is written from document 01's reading: `sh tests/rows.sh SOURCE_FOLDER` records them anew and compares. The chains, which
-- the Rust does not report, are worked out by hand. A double is given by its bits. Rests on the poses
-- of the rows of `arithmetic` and `mean`.
use Rattle.std.specs.Prelude.{ℕ, List, [], ◌∷◌, ◌++◌, Float}
use Rattle.arithmetic.specs.Pose.{flat}
use Rattle.arithmetic.specs.Rows.{pose_of, A, B, E}
use Rattle.mean.specs.Rows.{D}
use Rattle.arithmetic.specs.declared.pose.Pose.{Pose}

-- ---- the inputs

-- C and F with each number of the quaternion negated: the same rotations.
abbrev pub turned_c : Pose
turned_c =
    pose_of 0x3fc9_9999_9999_999a 0x3fd9_9999_9999_999a 0x3fb9_9999_9999_999a
    0x3fec_cccc_cccc_cccd 0xbfd3_3333_3333_3333 0x3fec_cccc_cccc_cccd 0xbfd3_3333_3333_3333

abbrev pub turned_f : Pose
turned_f =
    pose_of 0x3fe9_9999_9999_999a 0x3fe9_9999_9999_999a 0x3fd3_3333_3333_3333
    0x3ff0_0000_0000_0000 0x3fec_cccc_cccc_cccd 0x3fd3_3333_3333_3333 0x3fe0_0000_0000_0000

-- The numbers of an empty cell are ignored.
abbrev pub empty : Pose
empty =
    pose_of 0x7ff8_0000_0000_0000 0x7ff8_0000_0000_0000 0x7ff8_0000_0000_0000
    0x7ff8_0000_0000_0000 0x7ff8_0000_0000_0000 0x7ff8_0000_0000_0000 0x7ff8_0000_0000_0000

abbrev pub counts : List ℕ
counts = 3 ∷ 3 ∷ 3 ∷ 3 ∷ []

abbrev pub marks : List ℕ
marks = (1 ∷ 0 ∷ 1 ∷ []) ++ (1 ∷ 0 ∷ 1 ∷ []) ++ (1 ∷ 1 ∷ 0 ∷ []) ++ (1 ∷ 1 ∷ 0 ∷ [])

unfoldable pub floats : List Float
floats =
    flat A ++ flat empty ++ flat B ++ flat turned_c ++ flat empty ++ flat D ++ flat B ++ flat E ++ flat empty ++ flat D ++ flat turned_f ++ flat empty

-- ---- the answers

-- The cameras' rig poses, and the views' target poses.
abbrev pub grid_camera0 : Pose
grid_camera0 =
    pose_of 0xbfe0_62f5_989d_f114 0xc002_057d_1782_d386 0xbfeb_7707_9e59_f2bc
    0x3fd1_62e0_66ab_a5d4 0xbfdd_de60_b061_f582 0x3fc7_2e80_88e4_dd1c 0x3fea_4d60_9b52_7108

abbrev pub grid_camera1 : Pose
grid_camera1 =
    pose_of 0xc008_fd47_2185_5d68 0xbfe3_fea8_a200_ce4c 0xbfcc_35e6_8c41_f300
    0xbfe6_24a3_d58f_050c 0xbfe3_4852_0386_2638 0x3fc0_1f1f_54e8_4573 0x3fd8_2287_6619_56ae

abbrev pub grid_camera2 : Pose
grid_camera2 =
    pose_of 0x0000_0000_0000_0000 0x0000_0000_0000_0000 0x0000_0000_0000_0000
    0x0000_0000_0000_0000 0x0000_0000_0000_0000 0x0000_0000_0000_0000 0x3ff0_0000_0000_0000

abbrev pub grid_target0 : Pose
grid_target0 =
    pose_of 0xbfe2_a700_f10b_97f3 0xbfeb_3c87_1aaa_9217 0xbfd8_4cf8_c34a_b847
    0xbfe8_c848_bf2a_3dd9 0xbfb7_6b99_002a_7fa1 0xbfdb_b8bc_e1ad_c06a 0xbfdc_ec69_3870_3227

abbrev pub grid_target1 : Pose
grid_target1 =
    pose_of 0xbfe7_fed7_5364_1a0b 0xbff3_2022_6eac_3a7c 0x3fa1_49d2_e6a2_4450
    0x3fd8_2c87_e360_5ab2 0xbfd5_dcb3_d428_feae 0x3fe4_2daa_26f1_ef66 0xbfe2_bddd_de8e_2c8b

abbrev pub grid_target2 : Pose
grid_target2 =
    pose_of 0xbffa_519a_f419_c9cc 0xbff3_50a0_eda8_225d 0xbfcf_4dd0_bdca_f85a
    0xbfbf_d866_c26c_62e5 0x3fdc_1262_d2c5_edf2 0xbfe9_bf69_8abe_b02b 0xbfd8_5906_4cc9_4447

abbrev pub grid_target3 : Pose
grid_target3 =
    pose_of 0xbffc_f478_2a7c_bfd2 0xbff5_dfc4_f654_2824 0xbff1_376e_f46c_d3ae
    0xbfc3_004b_a1d4_60d1 0x3fcc_ef91_6faf_0b0e 0xbfc4_fffc_edb6_9cbf 0x3fee_5b5e_cc04_e23b

unfoldable pub grid_transforms : List Float
grid_transforms =
    flat grid_camera0 ++ flat grid_camera1 ++ flat grid_camera2 ++ flat grid_target0 ++ flat grid_target1 ++ flat grid_target2 ++ flat grid_target3

-- A parent and a number of links for each camera: 0 hangs on the reference, 1 on 0.
unfoldable pub grid_chains : List ℕ
grid_chains = 2 ∷ 1 ∷ 0 ∷ 2 ∷ 2 ∷ 0 ∷ []
