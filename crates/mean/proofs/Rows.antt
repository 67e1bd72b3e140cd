-- The rows of averages hold: each computes to what was recorded, in two steps, its sums and the mean of these: a sum that stands as a number is computed
-- once, and not anew wherever the mean names it. Assumes nothing.
use Rattle.std.proofs.Common.{◌≡◌, List, [], ◌∷◌, refl, ap, ◌∙◌}
use lib.Ieee.{to_bits, of_bits, of_int, add, mul, div, neg, lt, eq}
use Rattle.root.specs.Root.{root_of}
use Rattle.arithmetic.specs.Pose.{vec3, quaternion}
use Rattle.arithmetic.specs.Rows.{pose_bits, double, A, B, C, E, F, still}
use Rattle.mean.specs.Average.{plus_translation, plus_rotation, translation_sum, rotation_sum, first_rotation, mean_of}
use Rattle.mean.specs.Rows.{D, minus_zeros, about_i, about_j, long, across, tiny, halved, short, overflown, just_past, ones, paired, other_paired, cancelled, tiny_i, less_minus_zeros, small_i, small_back, twice_back, average_abcd, average_dba, average_of_minus_zeros, average_at_zero_dot, average_at_nan_dot, average_of_tiny, average_halved, average_of_short, average_of_overflown, average_just_below_zero_dot, average_by_paired_dot, average_by_other_paired_dot, average_by_rounded_dot, average_at_minus_zero_dot, average_at_underflown_dot, average_after_still, average_of_long, average_of_seven}
use Rattle.mean.proofs.Averaging.{average-sums}
use Rattle.arithmetic.specs.declared.pose.Vec3.{Vec3}
use Rattle.arithmetic.specs.declared.pose.Quaternion.{Quaternion}
use Rattle.arithmetic.specs.declared.pose.Pose.{Pose}

-- ---- ABCD

abbrev poses_abcd : List Pose
poses_abcd = A ∷ B ∷ C ∷ D ∷ []

abbrev translations_abcd : Vec3
translations_abcd = vec3 (double 0x3fb9_9999_9999_9990) (double 0x3ff4_cccc_cccc_ccce) (double 0x3fe6_6666_6666_6666)

abbrev rotations_abcd : Quaternion
rotations_abcd = quaternion (double 0xbffb_3333_3333_3333) (double 0xbfe3_3333_3333_3334) (double 0xbfe0_0000_0000_0000) (double 0xbffb_3333_3333_3334)

translation_sum-ABCD : translation_sum poses_abcd ≡ translations_abcd
unfolding plus_translation of_bits add
translation_sum-ABCD = refl

rotation_sum-ABCD : rotation_sum (first_rotation poses_abcd) poses_abcd ≡ rotations_abcd
unfolding plus_rotation of_bits add mul neg lt
rotation_sum-ABCD = refl

mean_ABCD : pose_bits (mean_of 4 translations_abcd rotations_abcd) ≡ average_abcd.said
unfolding average_abcd root_of to_bits of_bits of_int add mul div eq
mean_ABCD = refl

pub average_abcd-holds : average_abcd.computed ≡ average_abcd.said
unfolding average_abcd
average_abcd-holds = ap pose_bits (average-sums poses_abcd translation_sum-ABCD rotation_sum-ABCD) ∙ mean_ABCD

-- ---- DBA

abbrev poses_dba : List Pose
poses_dba = D ∷ B ∷ A ∷ []

abbrev translations_dba : Vec3
translations_dba = vec3 (double 0xbfb9_9999_9999_9998) (double 0x3fec_cccc_cccc_cccc) (double 0x3fe3_3333_3333_3333)

abbrev rotations_dba : Quaternion
rotations_dba = quaternion (double 0xbfe9_9999_9999_999a) (double 0x3ff1_9999_9999_999a) (double 0xc001_9999_9999_999a) (double 0x3fd9_9999_9999_9999)

translation_sum-DBA : translation_sum poses_dba ≡ translations_dba
unfolding plus_translation of_bits add
translation_sum-DBA = refl

rotation_sum-DBA : rotation_sum (first_rotation poses_dba) poses_dba ≡ rotations_dba
unfolding plus_rotation of_bits add mul neg lt
rotation_sum-DBA = refl

mean_DBA : pose_bits (mean_of 3 translations_dba rotations_dba) ≡ average_dba.said
unfolding average_dba root_of to_bits of_bits of_int add mul div eq
mean_DBA = refl

pub average_dba-holds : average_dba.computed ≡ average_dba.said
unfolding average_dba
average_dba-holds = ap pose_bits (average-sums poses_dba translation_sum-DBA rotation_sum-DBA) ∙ mean_DBA

-- ---- OfMinusZeros

abbrev poses_of_minus_zeros : List Pose
poses_of_minus_zeros = minus_zeros ∷ []

abbrev translations_of_minus_zeros : Vec3
translations_of_minus_zeros = vec3 (double 0x0000_0000_0000_0000) (double 0x0000_0000_0000_0000) (double 0x0000_0000_0000_0000)

abbrev rotations_of_minus_zeros : Quaternion
rotations_of_minus_zeros = quaternion (double 0x0000_0000_0000_0000) (double 0x3ff0_0000_0000_0000) (double 0x0000_0000_0000_0000) (double 0x0000_0000_0000_0000)

translation_sum-OfMinusZeros : translation_sum poses_of_minus_zeros ≡ translations_of_minus_zeros
unfolding plus_translation of_bits add
translation_sum-OfMinusZeros = refl

rotation_sum-OfMinusZeros : rotation_sum (first_rotation poses_of_minus_zeros) poses_of_minus_zeros ≡ rotations_of_minus_zeros
unfolding plus_rotation of_bits add mul neg lt
rotation_sum-OfMinusZeros = refl

mean_OfMinusZeros : pose_bits (mean_of 1 translations_of_minus_zeros rotations_of_minus_zeros) ≡ average_of_minus_zeros.said
unfolding average_of_minus_zeros root_of to_bits of_bits of_int add mul div eq
mean_OfMinusZeros = refl

pub average_of_minus_zeros-holds : average_of_minus_zeros.computed ≡ average_of_minus_zeros.said
unfolding average_of_minus_zeros
average_of_minus_zeros-holds = ap pose_bits (average-sums poses_of_minus_zeros translation_sum-OfMinusZeros rotation_sum-OfMinusZeros) ∙ mean_OfMinusZeros

-- ---- AtZeroDot

abbrev poses_at_zero_dot : List Pose
poses_at_zero_dot = about_i ∷ about_j ∷ []

abbrev translations_at_zero_dot : Vec3
translations_at_zero_dot = vec3 (double 0x0000_0000_0000_0000) (double 0x0000_0000_0000_0000) (double 0x0000_0000_0000_0000)

abbrev rotations_at_zero_dot : Quaternion
rotations_at_zero_dot = quaternion (double 0x3ff0_0000_0000_0000) (double 0x3ff0_0000_0000_0000) (double 0x0000_0000_0000_0000) (double 0x0000_0000_0000_0000)

translation_sum-AtZeroDot : translation_sum poses_at_zero_dot ≡ translations_at_zero_dot
unfolding plus_translation of_bits add
translation_sum-AtZeroDot = refl

rotation_sum-AtZeroDot : rotation_sum (first_rotation poses_at_zero_dot) poses_at_zero_dot ≡ rotations_at_zero_dot
unfolding plus_rotation of_bits add mul neg lt
rotation_sum-AtZeroDot = refl

mean_AtZeroDot : pose_bits (mean_of 2 translations_at_zero_dot rotations_at_zero_dot) ≡ average_at_zero_dot.said
unfolding average_at_zero_dot root_of to_bits of_bits of_int add mul div eq
mean_AtZeroDot = refl

pub average_at_zero_dot-holds : average_at_zero_dot.computed ≡ average_at_zero_dot.said
unfolding average_at_zero_dot
average_at_zero_dot-holds = ap pose_bits (average-sums poses_at_zero_dot translation_sum-AtZeroDot rotation_sum-AtZeroDot) ∙ mean_AtZeroDot

-- ---- AtNanDot

abbrev poses_at_nan_dot : List Pose
poses_at_nan_dot = long ∷ across ∷ still ∷ still ∷ []

abbrev translations_at_nan_dot : Vec3
translations_at_nan_dot = vec3 (double 0x0000_0000_0000_0000) (double 0x0000_0000_0000_0000) (double 0x0000_0000_0000_0000)

abbrev rotations_at_nan_dot : Quaternion
rotations_at_nan_dot = quaternion (double 0x6000_0000_0000_0000) (double 0x0000_0000_0000_0000) (double 0x0000_0000_0000_0000) (double 0x0000_0000_0000_0000)

translation_sum-AtNanDot : translation_sum poses_at_nan_dot ≡ translations_at_nan_dot
unfolding plus_translation of_bits add
translation_sum-AtNanDot = refl

rotation_sum-AtNanDot : rotation_sum (first_rotation poses_at_nan_dot) poses_at_nan_dot ≡ rotations_at_nan_dot
unfolding plus_rotation of_bits add mul neg lt
rotation_sum-AtNanDot = refl

mean_AtNanDot : pose_bits (mean_of 4 translations_at_nan_dot rotations_at_nan_dot) ≡ average_at_nan_dot.said
unfolding average_at_nan_dot root_of to_bits of_bits of_int add mul div eq
mean_AtNanDot = refl

pub average_at_nan_dot-holds : average_at_nan_dot.computed ≡ average_at_nan_dot.said
unfolding average_at_nan_dot
average_at_nan_dot-holds = ap pose_bits (average-sums poses_at_nan_dot translation_sum-AtNanDot rotation_sum-AtNanDot) ∙ mean_AtNanDot

-- ---- OfTiny

abbrev poses_of_tiny : List Pose
poses_of_tiny = tiny ∷ []

abbrev translations_of_tiny : Vec3
translations_of_tiny = vec3 (double 0x3ff0_0000_0000_0000) (double 0x4000_0000_0000_0000) (double 0x4008_0000_0000_0000)

abbrev rotations_of_tiny : Quaternion
rotations_of_tiny = quaternion (double 0x1a70_0000_0000_0000) (double 0x0000_0000_0000_0000) (double 0x0000_0000_0000_0000) (double 0x0000_0000_0000_0000)

translation_sum-OfTiny : translation_sum poses_of_tiny ≡ translations_of_tiny
unfolding plus_translation of_bits add
translation_sum-OfTiny = refl

rotation_sum-OfTiny : rotation_sum (first_rotation poses_of_tiny) poses_of_tiny ≡ rotations_of_tiny
unfolding plus_rotation of_bits add mul neg lt
rotation_sum-OfTiny = refl

mean_OfTiny : pose_bits (mean_of 1 translations_of_tiny rotations_of_tiny) ≡ average_of_tiny.said
unfolding average_of_tiny root_of to_bits of_bits of_int add mul div eq
mean_OfTiny = refl

pub average_of_tiny-holds : average_of_tiny.computed ≡ average_of_tiny.said
unfolding average_of_tiny
average_of_tiny-holds = ap pose_bits (average-sums poses_of_tiny translation_sum-OfTiny rotation_sum-OfTiny) ∙ mean_OfTiny

-- ---- Halved

abbrev poses_halved : List Pose
poses_halved = halved ∷ halved ∷ []

abbrev translations_halved : Vec3
translations_halved = vec3 (double 0x0000_0000_0000_0000) (double 0x0000_0000_0000_0000) (double 0x0000_0000_0000_0000)

abbrev rotations_halved : Quaternion
rotations_halved = quaternion (double 0x1e60_0000_0000_0000) (double 0x0000_0000_0000_0000) (double 0x0000_0000_0000_0000) (double 0x0000_0000_0000_0000)

translation_sum-Halved : translation_sum poses_halved ≡ translations_halved
unfolding plus_translation of_bits add
translation_sum-Halved = refl

rotation_sum-Halved : rotation_sum (first_rotation poses_halved) poses_halved ≡ rotations_halved
unfolding plus_rotation of_bits add mul neg lt
rotation_sum-Halved = refl

mean_Halved : pose_bits (mean_of 2 translations_halved rotations_halved) ≡ average_halved.said
unfolding average_halved root_of to_bits of_bits of_int add mul div eq
mean_Halved = refl

pub average_halved-holds : average_halved.computed ≡ average_halved.said
unfolding average_halved
average_halved-holds = ap pose_bits (average-sums poses_halved translation_sum-Halved rotation_sum-Halved) ∙ mean_Halved

-- ---- OfShort

abbrev poses_of_short : List Pose
poses_of_short = short ∷ []

abbrev translations_of_short : Vec3
translations_of_short = vec3 (double 0x0000_0000_0000_0000) (double 0x0000_0000_0000_0000) (double 0x0000_0000_0000_0000)

abbrev rotations_of_short : Quaternion
rotations_of_short = quaternion (double 0x39c8_0000_0000_0000) (double 0x0000_0000_0000_0000) (double 0x39d0_0000_0000_0000) (double 0x0000_0000_0000_0000)

translation_sum-OfShort : translation_sum poses_of_short ≡ translations_of_short
unfolding plus_translation of_bits add
translation_sum-OfShort = refl

rotation_sum-OfShort : rotation_sum (first_rotation poses_of_short) poses_of_short ≡ rotations_of_short
unfolding plus_rotation of_bits add mul neg lt
rotation_sum-OfShort = refl

mean_OfShort : pose_bits (mean_of 1 translations_of_short rotations_of_short) ≡ average_of_short.said
unfolding average_of_short root_of to_bits of_bits of_int add mul div eq
mean_OfShort = refl

pub average_of_short-holds : average_of_short.computed ≡ average_of_short.said
unfolding average_of_short
average_of_short-holds = ap pose_bits (average-sums poses_of_short translation_sum-OfShort rotation_sum-OfShort) ∙ mean_OfShort

-- ---- OfOverflown

abbrev poses_of_overflown : List Pose
poses_of_overflown = overflown ∷ []

abbrev translations_of_overflown : Vec3
translations_of_overflown = vec3 (double 0x7ff0_0000_0000_0000) (double 0x0000_0000_0000_0000) (double 0x0000_0000_0000_0000)

abbrev rotations_of_overflown : Quaternion
rotations_of_overflown = quaternion (double 0x7ff8_0000_0000_0000) (double 0x0000_0000_0000_0000) (double 0x0000_0000_0000_0000) (double 0x3ff0_0000_0000_0000)

translation_sum-OfOverflown : translation_sum poses_of_overflown ≡ translations_of_overflown
unfolding plus_translation of_bits add
translation_sum-OfOverflown = refl

rotation_sum-OfOverflown : rotation_sum (first_rotation poses_of_overflown) poses_of_overflown ≡ rotations_of_overflown
unfolding plus_rotation of_bits add mul neg lt
rotation_sum-OfOverflown = refl

mean_OfOverflown : pose_bits (mean_of 1 translations_of_overflown rotations_of_overflown) ≡ average_of_overflown.said
unfolding average_of_overflown root_of to_bits of_bits of_int add mul div eq
mean_OfOverflown = refl

pub average_of_overflown-holds : average_of_overflown.computed ≡ average_of_overflown.said
unfolding average_of_overflown
average_of_overflown-holds = ap pose_bits (average-sums poses_of_overflown translation_sum-OfOverflown rotation_sum-OfOverflown) ∙ mean_OfOverflown

-- ---- JustBelowZeroDot

abbrev poses_just_below_zero_dot : List Pose
poses_just_below_zero_dot = about_i ∷ just_past ∷ []

abbrev translations_just_below_zero_dot : Vec3
translations_just_below_zero_dot = vec3 (double 0x0000_0000_0000_0000) (double 0x0000_0000_0000_0000) (double 0x0000_0000_0000_0000)

abbrev rotations_just_below_zero_dot : Quaternion
rotations_just_below_zero_dot = quaternion (double 0x3ff0_0000_0000_0000) (double 0xbff0_0000_0000_0000) (double 0x0000_0000_0000_0000) (double 0x0000_0000_0000_0000)

translation_sum-JustBelowZeroDot : translation_sum poses_just_below_zero_dot ≡ translations_just_below_zero_dot
unfolding plus_translation of_bits add
translation_sum-JustBelowZeroDot = refl

rotation_sum-JustBelowZeroDot : rotation_sum (first_rotation poses_just_below_zero_dot) poses_just_below_zero_dot ≡ rotations_just_below_zero_dot
unfolding plus_rotation of_bits add mul neg lt
rotation_sum-JustBelowZeroDot = refl

mean_JustBelowZeroDot : pose_bits (mean_of 2 translations_just_below_zero_dot rotations_just_below_zero_dot) ≡ average_just_below_zero_dot.said
unfolding average_just_below_zero_dot root_of to_bits of_bits of_int add mul div eq
mean_JustBelowZeroDot = refl

pub average_just_below_zero_dot-holds : average_just_below_zero_dot.computed ≡ average_just_below_zero_dot.said
unfolding average_just_below_zero_dot
average_just_below_zero_dot-holds = ap pose_bits (average-sums poses_just_below_zero_dot translation_sum-JustBelowZeroDot rotation_sum-JustBelowZeroDot) ∙ mean_JustBelowZeroDot

-- ---- ByPairedDot

abbrev poses_by_paired_dot : List Pose
poses_by_paired_dot = ones ∷ paired ∷ []

abbrev translations_by_paired_dot : Vec3
translations_by_paired_dot = vec3 (double 0x0000_0000_0000_0000) (double 0x0000_0000_0000_0000) (double 0x0000_0000_0000_0000)

abbrev rotations_by_paired_dot : Quaternion
rotations_by_paired_dot = quaternion (double 0xc3b0_0000_0000_0000) (double 0x4000_0000_0000_0000) (double 0x43b0_0000_0000_0000) (double 0x3ff0_0000_0000_0000)

translation_sum-ByPairedDot : translation_sum poses_by_paired_dot ≡ translations_by_paired_dot
unfolding plus_translation of_bits add
translation_sum-ByPairedDot = refl

rotation_sum-ByPairedDot : rotation_sum (first_rotation poses_by_paired_dot) poses_by_paired_dot ≡ rotations_by_paired_dot
unfolding plus_rotation of_bits add mul neg lt
rotation_sum-ByPairedDot = refl

mean_ByPairedDot : pose_bits (mean_of 2 translations_by_paired_dot rotations_by_paired_dot) ≡ average_by_paired_dot.said
unfolding average_by_paired_dot root_of to_bits of_bits of_int add mul div eq
mean_ByPairedDot = refl

pub average_by_paired_dot-holds : average_by_paired_dot.computed ≡ average_by_paired_dot.said
unfolding average_by_paired_dot
average_by_paired_dot-holds = ap pose_bits (average-sums poses_by_paired_dot translation_sum-ByPairedDot rotation_sum-ByPairedDot) ∙ mean_ByPairedDot

-- ---- ByOtherPairedDot

abbrev poses_by_other_paired_dot : List Pose
poses_by_other_paired_dot = ones ∷ other_paired ∷ []

abbrev translations_by_other_paired_dot : Vec3
translations_by_other_paired_dot = vec3 (double 0x0000_0000_0000_0000) (double 0x0000_0000_0000_0000) (double 0x0000_0000_0000_0000)

abbrev rotations_by_other_paired_dot : Quaternion
rotations_by_other_paired_dot = quaternion (double 0x4000_0000_0000_0000) (double 0xc3b0_0000_0000_0000) (double 0x3ff0_0000_0000_0000) (double 0x43b0_0000_0000_0000)

translation_sum-ByOtherPairedDot : translation_sum poses_by_other_paired_dot ≡ translations_by_other_paired_dot
unfolding plus_translation of_bits add
translation_sum-ByOtherPairedDot = refl

rotation_sum-ByOtherPairedDot : rotation_sum (first_rotation poses_by_other_paired_dot) poses_by_other_paired_dot ≡ rotations_by_other_paired_dot
unfolding plus_rotation of_bits add mul neg lt
rotation_sum-ByOtherPairedDot = refl

mean_ByOtherPairedDot : pose_bits (mean_of 2 translations_by_other_paired_dot rotations_by_other_paired_dot) ≡ average_by_other_paired_dot.said
unfolding average_by_other_paired_dot root_of to_bits of_bits of_int add mul div eq
mean_ByOtherPairedDot = refl

pub average_by_other_paired_dot-holds : average_by_other_paired_dot.computed ≡ average_by_other_paired_dot.said
unfolding average_by_other_paired_dot
average_by_other_paired_dot-holds = ap pose_bits (average-sums poses_by_other_paired_dot translation_sum-ByOtherPairedDot rotation_sum-ByOtherPairedDot) ∙ mean_ByOtherPairedDot

-- ---- ByRoundedDot

abbrev poses_by_rounded_dot : List Pose
poses_by_rounded_dot = ones ∷ cancelled ∷ []

abbrev translations_by_rounded_dot : Vec3
translations_by_rounded_dot = vec3 (double 0x0000_0000_0000_0000) (double 0x0000_0000_0000_0000) (double 0x0000_0000_0000_0000)

abbrev rotations_by_rounded_dot : Quaternion
rotations_by_rounded_dot = quaternion (double 0x43b0_0000_0000_0000) (double 0xc3b0_0000_0000_0000) (double 0x0000_0000_0000_0000) (double 0x3ff0_0000_0000_0000)

translation_sum-ByRoundedDot : translation_sum poses_by_rounded_dot ≡ translations_by_rounded_dot
unfolding plus_translation of_bits add
translation_sum-ByRoundedDot = refl

rotation_sum-ByRoundedDot : rotation_sum (first_rotation poses_by_rounded_dot) poses_by_rounded_dot ≡ rotations_by_rounded_dot
unfolding plus_rotation of_bits add mul neg lt
rotation_sum-ByRoundedDot = refl

mean_ByRoundedDot : pose_bits (mean_of 2 translations_by_rounded_dot rotations_by_rounded_dot) ≡ average_by_rounded_dot.said
unfolding average_by_rounded_dot root_of to_bits of_bits of_int add mul div eq
mean_ByRoundedDot = refl

pub average_by_rounded_dot-holds : average_by_rounded_dot.computed ≡ average_by_rounded_dot.said
unfolding average_by_rounded_dot
average_by_rounded_dot-holds = ap pose_bits (average-sums poses_by_rounded_dot translation_sum-ByRoundedDot rotation_sum-ByRoundedDot) ∙ mean_ByRoundedDot

-- ---- AtMinusZeroDot

abbrev poses_at_minus_zero_dot : List Pose
poses_at_minus_zero_dot = tiny_i ∷ less_minus_zeros ∷ []

abbrev translations_at_minus_zero_dot : Vec3
translations_at_minus_zero_dot = vec3 (double 0x0000_0000_0000_0000) (double 0x0000_0000_0000_0000) (double 0x0000_0000_0000_0000)

abbrev rotations_at_minus_zero_dot : Quaternion
rotations_at_minus_zero_dot = quaternion (double 0xa0b0_0000_0000_0000) (double 0x0000_0000_0000_0000) (double 0x0000_0000_0000_0000) (double 0x0000_0000_0000_0000)

translation_sum-AtMinusZeroDot : translation_sum poses_at_minus_zero_dot ≡ translations_at_minus_zero_dot
unfolding plus_translation of_bits add
translation_sum-AtMinusZeroDot = refl

rotation_sum-AtMinusZeroDot : rotation_sum (first_rotation poses_at_minus_zero_dot) poses_at_minus_zero_dot ≡ rotations_at_minus_zero_dot
unfolding plus_rotation of_bits add mul neg lt
rotation_sum-AtMinusZeroDot = refl

mean_AtMinusZeroDot : pose_bits (mean_of 2 translations_at_minus_zero_dot rotations_at_minus_zero_dot) ≡ average_at_minus_zero_dot.said
unfolding average_at_minus_zero_dot root_of to_bits of_bits of_int add mul div eq
mean_AtMinusZeroDot = refl

pub average_at_minus_zero_dot-holds : average_at_minus_zero_dot.computed ≡ average_at_minus_zero_dot.said
unfolding average_at_minus_zero_dot
average_at_minus_zero_dot-holds = ap pose_bits (average-sums poses_at_minus_zero_dot translation_sum-AtMinusZeroDot rotation_sum-AtMinusZeroDot) ∙ mean_AtMinusZeroDot

-- ---- AtUnderflownDot

abbrev poses_at_underflown_dot : List Pose
poses_at_underflown_dot = small_i ∷ small_back ∷ []

abbrev translations_at_underflown_dot : Vec3
translations_at_underflown_dot = vec3 (double 0x0000_0000_0000_0000) (double 0x0000_0000_0000_0000) (double 0x0000_0000_0000_0000)

abbrev rotations_at_underflown_dot : Quaternion
rotations_at_underflown_dot = quaternion (double 0x1f6f_ffff_ffff_e000) (double 0x0000_0000_0000_0000) (double 0x3ff0_0000_0000_0000) (double 0x0000_0000_0000_0000)

translation_sum-AtUnderflownDot : translation_sum poses_at_underflown_dot ≡ translations_at_underflown_dot
unfolding plus_translation of_bits add
translation_sum-AtUnderflownDot = refl

rotation_sum-AtUnderflownDot : rotation_sum (first_rotation poses_at_underflown_dot) poses_at_underflown_dot ≡ rotations_at_underflown_dot
unfolding plus_rotation of_bits add mul neg lt
rotation_sum-AtUnderflownDot = refl

mean_AtUnderflownDot : pose_bits (mean_of 2 translations_at_underflown_dot rotations_at_underflown_dot) ≡ average_at_underflown_dot.said
unfolding average_at_underflown_dot root_of to_bits of_bits of_int add mul div eq
mean_AtUnderflownDot = refl

pub average_at_underflown_dot-holds : average_at_underflown_dot.computed ≡ average_at_underflown_dot.said
unfolding average_at_underflown_dot
average_at_underflown_dot-holds = ap pose_bits (average-sums poses_at_underflown_dot translation_sum-AtUnderflownDot rotation_sum-AtUnderflownDot) ∙ mean_AtUnderflownDot

-- ---- AfterStill

abbrev poses_after_still : List Pose
poses_after_still = still ∷ about_i ∷ twice_back ∷ []

abbrev translations_after_still : Vec3
translations_after_still = vec3 (double 0x0000_0000_0000_0000) (double 0x0000_0000_0000_0000) (double 0x0000_0000_0000_0000)

abbrev rotations_after_still : Quaternion
rotations_after_still = quaternion (double 0xbff0_0000_0000_0000) (double 0x0000_0000_0000_0000) (double 0x0000_0000_0000_0000) (double 0x0000_0000_0000_0000)

translation_sum-AfterStill : translation_sum poses_after_still ≡ translations_after_still
unfolding plus_translation of_bits add
translation_sum-AfterStill = refl

rotation_sum-AfterStill : rotation_sum (first_rotation poses_after_still) poses_after_still ≡ rotations_after_still
unfolding plus_rotation of_bits add mul neg lt
rotation_sum-AfterStill = refl

mean_AfterStill : pose_bits (mean_of 3 translations_after_still rotations_after_still) ≡ average_after_still.said
unfolding average_after_still root_of to_bits of_bits of_int add mul div eq
mean_AfterStill = refl

pub average_after_still-holds : average_after_still.computed ≡ average_after_still.said
unfolding average_after_still
average_after_still-holds = ap pose_bits (average-sums poses_after_still translation_sum-AfterStill rotation_sum-AfterStill) ∙ mean_AfterStill

-- ---- OfLong

abbrev poses_of_long : List Pose
poses_of_long = long ∷ []

abbrev translations_of_long : Vec3
translations_of_long = vec3 (double 0x0000_0000_0000_0000) (double 0x0000_0000_0000_0000) (double 0x0000_0000_0000_0000)

abbrev rotations_of_long : Quaternion
rotations_of_long = quaternion (double 0x5ff0_0000_0000_0000) (double 0x0000_0000_0000_0000) (double 0x5ff0_0000_0000_0000) (double 0x0000_0000_0000_0000)

translation_sum-OfLong : translation_sum poses_of_long ≡ translations_of_long
unfolding plus_translation of_bits add
translation_sum-OfLong = refl

rotation_sum-OfLong : rotation_sum (first_rotation poses_of_long) poses_of_long ≡ rotations_of_long
unfolding plus_rotation of_bits add mul neg lt
rotation_sum-OfLong = refl

mean_OfLong : pose_bits (mean_of 1 translations_of_long rotations_of_long) ≡ average_of_long.said
unfolding average_of_long root_of to_bits of_bits of_int add mul div eq
mean_OfLong = refl

pub average_of_long-holds : average_of_long.computed ≡ average_of_long.said
unfolding average_of_long
average_of_long-holds = ap pose_bits (average-sums poses_of_long translation_sum-OfLong rotation_sum-OfLong) ∙ mean_OfLong

-- ---- OfSeven

abbrev poses_of_seven : List Pose
poses_of_seven = F ∷ A ∷ A ∷ B ∷ C ∷ D ∷ E ∷ []

abbrev translations_of_seven : Vec3
translations_of_seven = vec3 (double 0x3ff1_9999_9999_999a) (double 0x4003_ffff_ffff_ffff) (double 0x3ff8_0000_0000_0002)

abbrev rotations_of_seven : Quaternion
rotations_of_seven = quaternion (double 0xc012_0000_0000_0001) (double 0xbff4_cccc_cccc_cccc) (double 0xbfc9_9999_9999_999b) (double 0xc00b_3333_3333_3333)

translation_sum-OfSeven : translation_sum poses_of_seven ≡ translations_of_seven
unfolding plus_translation of_bits add
translation_sum-OfSeven = refl

rotation_sum-OfSeven : rotation_sum (first_rotation poses_of_seven) poses_of_seven ≡ rotations_of_seven
unfolding plus_rotation of_bits add mul neg lt
rotation_sum-OfSeven = refl

mean_OfSeven : pose_bits (mean_of 7 translations_of_seven rotations_of_seven) ≡ average_of_seven.said
unfolding average_of_seven root_of to_bits of_bits of_int add mul div eq
mean_OfSeven = refl

pub average_of_seven-holds : average_of_seven.computed ≡ average_of_seven.said
unfolding average_of_seven
average_of_seven-holds = ap pose_bits (average-sums poses_of_seven translation_sum-OfSeven rotation_sum-OfSeven) ∙ mean_OfSeven
