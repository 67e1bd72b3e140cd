-- Exact rows for averages: what the definitions compute beside what the Rust computed, as whole numbers. A double is its bits.
-- Their numbers are recorded from the Rust's `average_isometries`, over the stand-in for nalgebra of tests/rust/nalgebra, which is written from
-- document 01's reading: `sh tests/rows.sh SOURCE_FOLDER` records them anew and compares. Which rows notice each of the slips listed in
-- tests/slips.py is what `python3 tests/slips.py` prints: they hold the definitions at these numbers alone. Rests on `average_isometries` and the poses of arithmetic's `Rows`.
use Rattle.std.specs.Prelude.{[], ◌∷◌}
use Rattle.arithmetic.specs.Rows.{Row, row, pose_bits, pose_of, A, B, C, E, F, still}
use Rattle.mean.specs.Average.{average_isometries}
use Rattle.arithmetic.specs.declared.pose.Pose.{Pose}

-- ---- the poses: (x, y, z), (i, j, k, w)

-- (−.8, −.4, .6), (−.8, .8, −.8, .9)
abbrev pub D : Pose
D =
    pose_of 0xbfe9_9999_9999_999a 0xbfd9_9999_9999_999a 0x3fe3_3333_3333_3333
    0xbfe9_9999_9999_999a 0x3fe9_9999_9999_999a 0xbfe9_9999_9999_999a 0x3fec_cccc_cccc_cccd

-- (−0, −0, −0), (−0, 1, −0, −0)
abbrev pub minus_zeros : Pose
minus_zeros =
    pose_of 0x8000_0000_0000_0000 0x8000_0000_0000_0000 0x8000_0000_0000_0000
    0x8000_0000_0000_0000 0x3ff0_0000_0000_0000 0x8000_0000_0000_0000 0x8000_0000_0000_0000

-- No translation, (1, 0, 0, 0)
abbrev pub about_i : Pose
about_i =
    pose_of 0x0000_0000_0000_0000 0x0000_0000_0000_0000 0x0000_0000_0000_0000
    0x3ff0_0000_0000_0000 0x0000_0000_0000_0000 0x0000_0000_0000_0000 0x0000_0000_0000_0000

-- No translation, (0, 1, 0, 0)
abbrev pub about_j : Pose
about_j =
    pose_of 0x0000_0000_0000_0000 0x0000_0000_0000_0000 0x0000_0000_0000_0000
    0x0000_0000_0000_0000 0x3ff0_0000_0000_0000 0x0000_0000_0000_0000 0x0000_0000_0000_0000

-- No translation, (2^512, 0, 2^512, 0)
abbrev pub long : Pose
long =
    pose_of 0x0000_0000_0000_0000 0x0000_0000_0000_0000 0x0000_0000_0000_0000
    0x5ff0_0000_0000_0000 0x0000_0000_0000_0000 0x5ff0_0000_0000_0000 0x0000_0000_0000_0000

-- No translation, (2^512, 0, −2^512, 0)
abbrev pub across : Pose
across =
    pose_of 0x0000_0000_0000_0000 0x0000_0000_0000_0000 0x0000_0000_0000_0000
    0x5ff0_0000_0000_0000 0x0000_0000_0000_0000 0xdff0_0000_0000_0000 0x0000_0000_0000_0000

-- (1, 2, 3), (2^−600, 0, 0, 0)
abbrev pub tiny : Pose
tiny =
    pose_of 0x3ff0_0000_0000_0000 0x4000_0000_0000_0000 0x4008_0000_0000_0000
    0x1a70_0000_0000_0000 0x0000_0000_0000_0000 0x0000_0000_0000_0000 0x0000_0000_0000_0000

-- No translation, (2^−538, 0, 0, 0)
abbrev pub halved : Pose
halved =
    pose_of 0x0000_0000_0000_0000 0x0000_0000_0000_0000 0x0000_0000_0000_0000
    0x1e50_0000_0000_0000 0x0000_0000_0000_0000 0x0000_0000_0000_0000 0x0000_0000_0000_0000

-- No translation, (3 × 2^−100, 0, 4 × 2^−100, 0)
abbrev pub short : Pose
short =
    pose_of 0x0000_0000_0000_0000 0x0000_0000_0000_0000 0x0000_0000_0000_0000
    0x39c8_0000_0000_0000 0x0000_0000_0000_0000 0x39d0_0000_0000_0000 0x0000_0000_0000_0000

-- (infinity, 0, 0), (NaN, 0, 0, 1): what overflow leaves, which an estimate averages like any other
abbrev pub overflown : Pose
overflown =
    pose_of 0x7ff0_0000_0000_0000 0x0000_0000_0000_0000 0x0000_0000_0000_0000
    0x7ff8_0000_0000_0000 0x0000_0000_0000_0000 0x0000_0000_0000_0000 0x3ff0_0000_0000_0000

-- No translation, (−2^−60, 1, 0, 0)
abbrev pub just_past : Pose
just_past =
    pose_of 0x0000_0000_0000_0000 0x0000_0000_0000_0000 0x0000_0000_0000_0000
    0xbc30_0000_0000_0000 0x3ff0_0000_0000_0000 0x0000_0000_0000_0000 0x0000_0000_0000_0000

-- No translation, (1, 1, 1, 1)
abbrev pub ones : Pose
ones =
    pose_of 0x0000_0000_0000_0000 0x0000_0000_0000_0000 0x0000_0000_0000_0000
    0x3ff0_0000_0000_0000 0x3ff0_0000_0000_0000 0x3ff0_0000_0000_0000 0x3ff0_0000_0000_0000

-- No translation, (2^60, −1, −2^60, 0)
abbrev pub paired : Pose
paired =
    pose_of 0x0000_0000_0000_0000 0x0000_0000_0000_0000 0x0000_0000_0000_0000
    0x43b0_0000_0000_0000 0xbff0_0000_0000_0000 0xc3b0_0000_0000_0000 0x0000_0000_0000_0000

-- No translation, (−1, 2^60, 0, −2^60)
abbrev pub other_paired : Pose
other_paired =
    pose_of 0x0000_0000_0000_0000 0x0000_0000_0000_0000 0x0000_0000_0000_0000
    0xbff0_0000_0000_0000 0x43b0_0000_0000_0000 0x0000_0000_0000_0000 0xc3b0_0000_0000_0000

-- No translation, (2^60, −2^60, −1, 0)
abbrev pub cancelled : Pose
cancelled =
    pose_of 0x0000_0000_0000_0000 0x0000_0000_0000_0000 0x0000_0000_0000_0000
    0x43b0_0000_0000_0000 0xc3b0_0000_0000_0000 0xbff0_0000_0000_0000 0x0000_0000_0000_0000

-- No translation, (2^−600, 0, 0, 0)
abbrev pub tiny_i : Pose
tiny_i =
    pose_of 0x0000_0000_0000_0000 0x0000_0000_0000_0000 0x0000_0000_0000_0000
    0x1a70_0000_0000_0000 0x0000_0000_0000_0000 0x0000_0000_0000_0000 0x0000_0000_0000_0000

-- No translation, (−2^−500, −0, −0, −0)
abbrev pub less_minus_zeros : Pose
less_minus_zeros =
    pose_of 0x0000_0000_0000_0000 0x0000_0000_0000_0000 0x0000_0000_0000_0000
    0xa0b0_0000_0000_0000 0x8000_0000_0000_0000 0x8000_0000_0000_0000 0x8000_0000_0000_0000

-- No translation, (2^−520, −0, 0, 0)
abbrev pub small_i : Pose
small_i =
    pose_of 0x0000_0000_0000_0000 0x0000_0000_0000_0000 0x0000_0000_0000_0000
    0x1f70_0000_0000_0000 0x8000_0000_0000_0000 0x0000_0000_0000_0000 0x0000_0000_0000_0000

-- No translation, (−2^−560, −0, 1, 0)
abbrev pub small_back : Pose
small_back =
    pose_of 0x0000_0000_0000_0000 0x0000_0000_0000_0000 0x0000_0000_0000_0000
    0x9cf0_0000_0000_0000 0x8000_0000_0000_0000 0x3ff0_0000_0000_0000 0x0000_0000_0000_0000

-- No translation, (−2, 0, 0, 0)
abbrev pub twice_back : Pose
twice_back =
    pose_of 0x0000_0000_0000_0000 0x0000_0000_0000_0000 0x0000_0000_0000_0000
    0xc000_0000_0000_0000 0x0000_0000_0000_0000 0x0000_0000_0000_0000 0x0000_0000_0000_0000

-- ---- averages

-- D is turned over, which the pose before it or the sum so far would not have done; normalised twice.
unfoldable pub average_abcd : Row
unfolding pose_bits average_isometries
average_abcd =
    row (pose_bits (average_isometries (A ∷ B ∷ C ∷ D ∷ [])))
    (0x3f99_9999_9999_9990 ∷ 0x3fd4_cccc_cccc_ccce ∷ 0x3fc6_6666_6666_6666 ∷ 0xbfe5_8532_ddab_17b1 ∷ 0xbfce_61b1_38f1_8add ∷ 0xbfc9_5169_04c9_490d ∷ 0xbfe5_8532_ddab_17b2 ∷ [])

-- A count of three: by its reciprocal, or divided after it is normalised, the last digits are others.
unfoldable pub average_dba : Row
unfolding pose_bits average_isometries
average_dba =
    row (pose_bits (average_isometries (D ∷ B ∷ A ∷ [])))
    (0xbfa1_1111_1111_1110 ∷ 0x3fd3_3333_3333_3333 ∷ 0x3fc9_9999_9999_9999 ∷ 0xbfd3_9000_f216_118e ∷ 0x3fda_e601_4cde_5824 ∷ 0xbfea_e601_4cde_5824 ∷ 0x3fc3_9000_f216_118e ∷ [])

-- Sums are taken from zero, so every −0 becomes 0.
unfoldable pub average_of_minus_zeros : Row
unfolding pose_bits average_isometries
average_of_minus_zeros =
    row (pose_bits (average_isometries (minus_zeros ∷ [])))
    (0x0000_0000_0000_0000 ∷ 0x0000_0000_0000_0000 ∷ 0x0000_0000_0000_0000 ∷ 0x0000_0000_0000_0000 ∷ 0x3ff0_0000_0000_0000 ∷ 0x0000_0000_0000_0000 ∷ 0x0000_0000_0000_0000 ∷ [])

-- A dot product of 0 turns nothing over.
unfoldable pub average_at_zero_dot : Row
unfolding pose_bits average_isometries
average_at_zero_dot =
    row (pose_bits (average_isometries (about_i ∷ about_j ∷ [])))
    (0x0000_0000_0000_0000 ∷ 0x0000_0000_0000_0000 ∷ 0x0000_0000_0000_0000 ∷ 0x3fe6_a09e_667f_3bcd ∷ 0x3fe6_a09e_667f_3bcd ∷ 0x0000_0000_0000_0000 ∷ 0x0000_0000_0000_0000 ∷ [])

-- Nor does a NaN: infinity minus infinity. The zero rotations are added as they are.
unfoldable pub average_at_nan_dot : Row
unfolding pose_bits average_isometries
average_at_nan_dot =
    row (pose_bits (average_isometries (long ∷ across ∷ still ∷ still ∷ [])))
    (0x0000_0000_0000_0000 ∷ 0x0000_0000_0000_0000 ∷ 0x0000_0000_0000_0000 ∷ 0x3ff0_0000_0000_0000 ∷ 0x0000_0000_0000_0000 ∷ 0x0000_0000_0000_0000 ∷ 0x0000_0000_0000_0000 ∷ [])

-- The squared norm rounds to 0, though a number is above it: the identity's rotation, and the translation as ever.
unfoldable pub average_of_tiny : Row
unfolding pose_bits average_isometries
average_of_tiny =
    row (pose_bits (average_isometries (tiny ∷ [])))
    (0x3ff0_0000_0000_0000 ∷ 0x4000_0000_0000_0000 ∷ 0x4008_0000_0000_0000 ∷ 0x0000_0000_0000_0000 ∷ 0x0000_0000_0000_0000 ∷ 0x0000_0000_0000_0000 ∷ 0x3ff0_0000_0000_0000 ∷ [])

-- The sum's squared norm is the least double, that of its half is 0: the sum is what is tested, and its direction is lost.
unfoldable pub average_halved : Row
unfolding pose_bits average_isometries
average_halved =
    row (pose_bits (average_isometries (halved ∷ halved ∷ [])))
    (0x0000_0000_0000_0000 ∷ 0x0000_0000_0000_0000 ∷ 0x0000_0000_0000_0000 ∷ 0x7ff8_0000_0000_0000 ∷ 0x7ff8_0000_0000_0000 ∷ 0x7ff8_0000_0000_0000 ∷ 0x7ff8_0000_0000_0000 ∷ [])

-- A squared norm far below 1 is no zero.
unfoldable pub average_of_short : Row
unfolding pose_bits average_isometries
average_of_short =
    row (pose_bits (average_isometries (short ∷ [])))
    (0x0000_0000_0000_0000 ∷ 0x0000_0000_0000_0000 ∷ 0x0000_0000_0000_0000 ∷ 0x3fe3_3333_3333_3333 ∷ 0x0000_0000_0000_0000 ∷ 0x3fe9_9999_9999_999a ∷ 0x0000_0000_0000_0000 ∷ [])

-- A squared norm that is a NaN is no zero.
unfoldable pub average_of_overflown : Row
unfolding pose_bits average_isometries
average_of_overflown =
    row (pose_bits (average_isometries (overflown ∷ [])))
    (0x7ff0_0000_0000_0000 ∷ 0x0000_0000_0000_0000 ∷ 0x0000_0000_0000_0000 ∷ 0x7ff8_0000_0000_0000 ∷ 0x7ff8_0000_0000_0000 ∷ 0x7ff8_0000_0000_0000 ∷ 0x7ff8_0000_0000_0000 ∷ [])

-- A dot product of −2^−60 is below 0: no tolerance.
unfoldable pub average_just_below_zero_dot : Row
unfolding pose_bits average_isometries
average_just_below_zero_dot =
    row (pose_bits (average_isometries (about_i ∷ just_past ∷ [])))
    (0x0000_0000_0000_0000 ∷ 0x0000_0000_0000_0000 ∷ 0x0000_0000_0000_0000 ∷ 0x3fe6_a09e_667f_3bcd ∷ 0xbfe6_a09e_667f_3bcd ∷ 0x0000_0000_0000_0000 ∷ 0x0000_0000_0000_0000 ∷ [])

-- The dot product is −1 where i and k are added first, and 0 left to right: turned over.
unfoldable pub average_by_paired_dot : Row
unfolding pose_bits average_isometries
average_by_paired_dot =
    row (pose_bits (average_isometries (ones ∷ paired ∷ [])))
    (0x0000_0000_0000_0000 ∷ 0x0000_0000_0000_0000 ∷ 0x0000_0000_0000_0000 ∷ 0xbfe6_a09e_667f_3bcd ∷ 0x3c36_a09e_667f_3bcd ∷ 0x3fe6_a09e_667f_3bcd ∷ 0x3c26_a09e_667f_3bcd ∷ [])

-- The dot product is −1 where j and w are added for themselves, and 0 where they join i and k one by one: turned over.
unfoldable pub average_by_other_paired_dot : Row
unfolding pose_bits average_isometries
average_by_other_paired_dot =
    row (pose_bits (average_isometries (ones ∷ other_paired ∷ [])))
    (0x0000_0000_0000_0000 ∷ 0x0000_0000_0000_0000 ∷ 0x0000_0000_0000_0000 ∷ 0x3c36_a09e_667f_3bcd ∷ 0xbfe6_a09e_667f_3bcd ∷ 0x3c26_a09e_667f_3bcd ∷ 0x3fe6_a09e_667f_3bcd ∷ [])

-- The dot product rounds to 0, though the exact one is −1: not turned over.
unfoldable pub average_by_rounded_dot : Row
unfolding pose_bits average_isometries
average_by_rounded_dot =
    row (pose_bits (average_isometries (ones ∷ cancelled ∷ [])))
    (0x0000_0000_0000_0000 ∷ 0x0000_0000_0000_0000 ∷ 0x0000_0000_0000_0000 ∷ 0x3fe6_a09e_667f_3bcd ∷ 0xbfe6_a09e_667f_3bcd ∷ 0x0000_0000_0000_0000 ∷ 0x3c26_a09e_667f_3bcd ∷ [])

-- A dot product of −0 is not below 0.
unfoldable pub average_at_minus_zero_dot : Row
unfolding pose_bits average_isometries
average_at_minus_zero_dot =
    row (pose_bits (average_isometries (tiny_i ∷ less_minus_zeros ∷ [])))
    (0x0000_0000_0000_0000 ∷ 0x0000_0000_0000_0000 ∷ 0x0000_0000_0000_0000 ∷ 0xbff0_0000_0000_0000 ∷ 0x0000_0000_0000_0000 ∷ 0x0000_0000_0000_0000 ∷ 0x0000_0000_0000_0000 ∷ [])

-- The products round to −0 and 0: not turned over, as rotations normalised first would be. And j is summed from zero, like the others.
unfoldable pub average_at_underflown_dot : Row
unfolding pose_bits average_isometries
average_at_underflown_dot =
    row (pose_bits (average_isometries (small_i ∷ small_back ∷ [])))
    (0x0000_0000_0000_0000 ∷ 0x0000_0000_0000_0000 ∷ 0x0000_0000_0000_0000 ∷ 0x1f6f_ffff_ffff_e000 ∷ 0x0000_0000_0000_0000 ∷ 0x3ff0_0000_0000_0000 ∷ 0x0000_0000_0000_0000 ∷ [])

-- A first rotation of four zeros turns nothing over.
unfoldable pub average_after_still : Row
unfolding pose_bits average_isometries
average_after_still =
    row (pose_bits (average_isometries (still ∷ about_i ∷ twice_back ∷ [])))
    (0x0000_0000_0000_0000 ∷ 0x0000_0000_0000_0000 ∷ 0x0000_0000_0000_0000 ∷ 0xbff0_0000_0000_0000 ∷ 0x0000_0000_0000_0000 ∷ 0x0000_0000_0000_0000 ∷ 0x0000_0000_0000_0000 ∷ [])

-- A squared norm that overflows is not scaled: divided by infinity, and then 0 by 0.
unfoldable pub average_of_long : Row
unfolding pose_bits average_isometries
average_of_long =
    row (pose_bits (average_isometries (long ∷ [])))
    (0x0000_0000_0000_0000 ∷ 0x0000_0000_0000_0000 ∷ 0x0000_0000_0000_0000 ∷ 0x7ff8_0000_0000_0000 ∷ 0x7ff8_0000_0000_0000 ∷ 0x7ff8_0000_0000_0000 ∷ 0x7ff8_0000_0000_0000 ∷ [])

-- A count of seven: by its reciprocal, any one of the seven numbers is another.
unfoldable pub average_of_seven : Row
unfolding pose_bits average_isometries
average_of_seven =
    row (pose_bits (average_isometries (F ∷ A ∷ A ∷ B ∷ C ∷ D ∷ E ∷ [])))
    (0x3fc4_1d41_d41d_41d5 ∷ 0x3fd6_db6d_b6db_6db6 ∷ 0x3fcb_6db6_db6d_b6de ∷ 0xbfe8_dd54_7f20_28ef ∷ 0xbfcc_bb7e_15be_c333 ∷ 0xbfa1_ae74_f9b0_7822 ∷ 0xbfe2_c95c_494b_7fa2 ∷ [])
