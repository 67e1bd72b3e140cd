-- Exact rows for products, inverses and dot products: what the definitions compute beside what the Rust computed, as whole numbers. A double is its bits.
-- Where code and definition change together, they hold the definitions, at these numbers alone. What is said is recorded from the Rust, over the stand-in for
-- nalgebra of tests/rust/nalgebra, which is written from document 01's reading: `sh tests/rows.sh SOURCE_FOLDER` records it anew and compares. Which rows
-- notice each of the slips listed in tests/slips.py is what `python3 tests/slips.py` prints. Rests on the definitions of `Pose`.
use Rattle.std.specs.Prelude.{ℕ, List, [], ◌∷◌, ◌++◌, map, Float}
use Rattle.std.specs.Float.{binary64}
use Rattle.std.specs.Float.Ieee.{of_bits, to_bits}
use Rattle.arithmetic.specs.Pose.{vec3, quaternion, dot, pose, mul_pose, inverse_pose, flat}
use Rattle.arithmetic.specs.declared.pose.Pose.{Pose}

-- ---- rows, and numbers as bits

pub record Row : Type 0 where
  pub computed : List ℕ
  pub said : List ℕ

abbrev pub row : List ℕ → List ℕ → Row
row c s = record { computed = c; said = s }

unfoldable pub bits : Float → ℕ
bits x = to_bits binary64 x

unfoldable pub pose_bits : Pose → List ℕ
unfolding bits
pose_bits p = map bits (flat p)

abbrev pub double : ℕ → Float
double b = of_bits binary64 b

-- The pose of seven numbers: x, y, z, i, j, k, w.
abbrev pub pose_of : ℕ → ℕ → ℕ → ℕ → ℕ → ℕ → ℕ → Pose
pose_of x y z i j k w = pose (vec3 (double x) (double y) (double z)) (quaternion (double i) (double j) (double k) (double w))

-- ---- the poses: (x, y, z), (i, j, k, w)

-- (.4, 1, .9), (−.8, −.2, .5, −.3)
abbrev pub A : Pose
A =
    pose_of 0x3fd9_9999_9999_999a 0x3ff0_0000_0000_0000 0x3fec_cccc_cccc_cccd
    0xbfe9_9999_9999_999a 0xbfc9_9999_9999_999a 0x3fe0_0000_0000_0000 0xbfd3_3333_3333_3333

-- (.3, .3, −.9), (−.8, .1, −.9, −.8)
abbrev pub B : Pose
B =
    pose_of 0x3fd3_3333_3333_3333 0x3fd3_3333_3333_3333 0xbfec_cccc_cccc_cccd
    0xbfe9_9999_9999_999a 0x3fb9_9999_9999_999a 0xbfec_cccc_cccc_cccd 0xbfe9_9999_9999_999a

-- (.2, .4, .1), (−.9, .3, −.9, .3)
abbrev pub C : Pose
C =
    pose_of 0x3fc9_9999_9999_999a 0x3fd9_9999_9999_999a 0x3fb9_9999_9999_999a
    0xbfec_cccc_cccc_cccd 0x3fd3_3333_3333_3333 0xbfec_cccc_cccc_cccd 0x3fd3_3333_3333_3333

-- (−.2, −.6, −.4), (−1, .4, .1, −.9)
abbrev pub E : Pose
E =
    pose_of 0xbfc9_9999_9999_999a 0xbfe3_3333_3333_3333 0xbfd9_9999_9999_999a
    0xbff0_0000_0000_0000 0x3fd9_9999_9999_999a 0x3fb9_9999_9999_999a 0xbfec_cccc_cccc_cccd

-- (.8, .8, .3), (−1, −.9, −.3, −.5)
abbrev pub F : Pose
F =
    pose_of 0x3fe9_9999_9999_999a 0x3fe9_9999_9999_999a 0x3fd3_3333_3333_3333
    0xbff0_0000_0000_0000 0xbfec_cccc_cccc_cccd 0xbfd3_3333_3333_3333 0xbfe0_0000_0000_0000

-- No translation, (1, 0, 0, .25)
abbrev pub huge : Pose
huge =
    pose_of 0x0000_0000_0000_0000 0x0000_0000_0000_0000 0x0000_0000_0000_0000
    0x3ff0_0000_0000_0000 0x0000_0000_0000_0000 0x0000_0000_0000_0000 0x3fd0_0000_0000_0000

-- (0, 0, 2^1023), no rotation
abbrev pub far : Pose
far =
    pose_of 0x0000_0000_0000_0000 0x0000_0000_0000_0000 0x7fe0_0000_0000_0000
    0x0000_0000_0000_0000 0x0000_0000_0000_0000 0x0000_0000_0000_0000 0x3ff0_0000_0000_0000

-- No translation, (.75, 0, 0, .75)
abbrev pub slight : Pose
slight =
    pose_of 0x0000_0000_0000_0000 0x0000_0000_0000_0000 0x0000_0000_0000_0000
    0x3fe8_0000_0000_0000 0x0000_0000_0000_0000 0x0000_0000_0000_0000 0x3fe8_0000_0000_0000

-- The least double and twice it, (0, 2^−1074, 2^−1073), no rotation
abbrev pub near : Pose
near =
    pose_of 0x0000_0000_0000_0000 0x0000_0000_0000_0001 0x0000_0000_0000_0002
    0x0000_0000_0000_0000 0x0000_0000_0000_0000 0x0000_0000_0000_0000 0x3ff0_0000_0000_0000

-- (0, −0, 0), (0, −0, 0, −0)
abbrev pub zeros : Pose
zeros =
    pose_of 0x0000_0000_0000_0000 0x8000_0000_0000_0000 0x0000_0000_0000_0000
    0x0000_0000_0000_0000 0x8000_0000_0000_0000 0x0000_0000_0000_0000 0x8000_0000_0000_0000

-- (0, 0, −0), (0, 0, −0, −0)
abbrev pub other_zeros : Pose
other_zeros =
    pose_of 0x0000_0000_0000_0000 0x0000_0000_0000_0000 0x8000_0000_0000_0000
    0x0000_0000_0000_0000 0x0000_0000_0000_0000 0x8000_0000_0000_0000 0x8000_0000_0000_0000

-- No translation, (0, 0, 0, 0)
abbrev pub still : Pose
still =
    pose_of 0x0000_0000_0000_0000 0x0000_0000_0000_0000 0x0000_0000_0000_0000
    0x0000_0000_0000_0000 0x0000_0000_0000_0000 0x0000_0000_0000_0000 0x0000_0000_0000_0000

-- No translation, (−0, 0, −0, −0): in the product of `still` and this one the four terms of i are −0. The three below are the same for j, k and w.
abbrev pub zeros_i : Pose
zeros_i =
    pose_of 0x0000_0000_0000_0000 0x0000_0000_0000_0000 0x0000_0000_0000_0000
    0x8000_0000_0000_0000 0x0000_0000_0000_0000 0x8000_0000_0000_0000 0x8000_0000_0000_0000

-- No translation, (−0, −0, 0, −0)
abbrev pub zeros_j : Pose
zeros_j =
    pose_of 0x0000_0000_0000_0000 0x0000_0000_0000_0000 0x0000_0000_0000_0000
    0x8000_0000_0000_0000 0x8000_0000_0000_0000 0x0000_0000_0000_0000 0x8000_0000_0000_0000

-- No translation, (0, −0, −0, −0)
abbrev pub zeros_k : Pose
zeros_k =
    pose_of 0x0000_0000_0000_0000 0x0000_0000_0000_0000 0x0000_0000_0000_0000
    0x0000_0000_0000_0000 0x8000_0000_0000_0000 0x8000_0000_0000_0000 0x8000_0000_0000_0000

-- No translation, (0, 0, 0, −0)
abbrev pub zeros_w : Pose
zeros_w =
    pose_of 0x0000_0000_0000_0000 0x0000_0000_0000_0000 0x0000_0000_0000_0000
    0x0000_0000_0000_0000 0x0000_0000_0000_0000 0x0000_0000_0000_0000 0x8000_0000_0000_0000

-- ---- products

-- Signs, brackets, the order of rotate's three terms, its w.
unfoldable pub product_ab : Row
unfolding pose_bits mul_pose
product_ab =
    row (pose_bits (mul_pose A B))
    (0x3ff5_2f1a_9fbe_76c8 ∷ 0x3ff6_24dd_2f1a_9fbf ∷ 0x3ff0_8312_6e97_8d51 ∷ 0x3ff0_28f5_c28f_5c29 ∷ 0xbfef_ae14_7ae1_47af ∷ 0xbfd7_ae14_7ae1_47af ∷ 0x3fb1_eb85_1eb8_51e4 ∷ [])

-- With A × B it tells every other order of the four terms of i, j, k and w, and of the translation's four.
unfoldable pub product_ef : Row
unfolding pose_bits mul_pose
product_ef =
    row (pose_bits (mul_pose E F))
    (0xbfdc_6a7e_f9db_22d5 ∷ 0xc005_ba5e_353f_7cef ∷ 0x3ff1_fbe7_6c8b_4398 ∷ 0x3ff5_eb85_1eb8_51eb ∷ 0x3fca_e147_ae14_7ae1 ∷ 0x3ff8_51eb_851e_b851 ∷ 0xbfc4_7ae1_47ae_147b ∷ [])

-- 2 × (u × v) overflows, and w × that stays an infinity: w × (u × v), doubled after, would not.
unfoldable pub product_overflows : Row
unfolding pose_bits mul_pose
product_overflows =
    row (pose_bits (mul_pose huge far))
    (0x7ff8_0000_0000_0000 ∷ 0xfff0_0000_0000_0000 ∷ 0xfff0_0000_0000_0000 ∷ 0x3ff0_0000_0000_0000 ∷ 0x0000_0000_0000_0000 ∷ 0x0000_0000_0000_0000 ∷ 0x3fd0_0000_0000_0000 ∷ [])

-- The numbers of u × v are rounded before they are doubled, and doubled before they are multiplied by w.
unfoldable pub product_underflows : Row
unfolding pose_bits mul_pose
product_underflows =
    row (pose_bits (mul_pose slight near))
    (0x0000_0000_0000_0000 ∷ 0x8000_0000_0000_0004 ∷ 0x0000_0000_0000_0001 ∷ 0x3fe8_0000_0000_0000 ∷ 0x0000_0000_0000_0000 ∷ 0x0000_0000_0000_0000 ∷ 0x3fe8_0000_0000_0000 ∷ [])

-- Four terms of −0 make −0: no number of a product is summed from zero.
unfoldable pub products_of_zeros : Row
unfolding pose_bits mul_pose
products_of_zeros =
    row (pose_bits (mul_pose still zeros_i) ++ pose_bits (mul_pose still zeros_j) ++ pose_bits (mul_pose still zeros_k) ++ pose_bits (mul_pose still zeros_w))
    (0x0000_0000_0000_0000 ∷ 0x0000_0000_0000_0000 ∷ 0x0000_0000_0000_0000 ∷ 0x8000_0000_0000_0000 ∷ 0x0000_0000_0000_0000 ∷ 0x0000_0000_0000_0000 ∷ 0x0000_0000_0000_0000 ∷ 0x0000_0000_0000_0000 ∷ 0x0000_0000_0000_0000 ∷ 0x0000_0000_0000_0000 ∷ 0x0000_0000_0000_0000 ∷ 0x8000_0000_0000_0000 ∷ 0x0000_0000_0000_0000 ∷ 0x0000_0000_0000_0000 ∷ 0x0000_0000_0000_0000 ∷ 0x0000_0000_0000_0000 ∷ 0x0000_0000_0000_0000 ∷ 0x0000_0000_0000_0000 ∷ 0x0000_0000_0000_0000 ∷ 0x8000_0000_0000_0000 ∷ 0x0000_0000_0000_0000 ∷ 0x0000_0000_0000_0000 ∷ 0x0000_0000_0000_0000 ∷ 0x0000_0000_0000_0000 ∷ 0x0000_0000_0000_0000 ∷ 0x0000_0000_0000_0000 ∷ 0x0000_0000_0000_0000 ∷ 0x8000_0000_0000_0000 ∷ [])

-- ---- inverses

-- The conjugate, the negation, rotated by the conjugate.
unfoldable pub inverse_c : Row
unfolding pose_bits inverse_pose
inverse_c =
    row (pose_bits (inverse_pose C))
    (0x3fdc_ac08_3126_e979 ∷ 0x3ff0_1062_4dd2_f1aa ∷ 0xbfd1_eb85_1eb8_51ec ∷ 0x3fec_cccc_cccc_cccd ∷ 0xbfd3_3333_3333_3333 ∷ 0x3fec_cccc_cccc_cccd ∷ 0x3fd3_3333_3333_3333 ∷ [])

-- The translation is negated before it is rotated, and the negation of 0 is −0, which 0 − 0 is not.
unfoldable pub inverse_of_zeros : Row
unfolding pose_bits inverse_pose
inverse_of_zeros =
    row (pose_bits (inverse_pose zeros))
    (0x0000_0000_0000_0000 ∷ 0x0000_0000_0000_0000 ∷ 0x8000_0000_0000_0000 ∷ 0x8000_0000_0000_0000 ∷ 0x0000_0000_0000_0000 ∷ 0x8000_0000_0000_0000 ∷ 0x8000_0000_0000_0000 ∷ [])

-- The same for y and j.
unfoldable pub inverse_of_other_zeros : Row
unfolding pose_bits inverse_pose
inverse_of_other_zeros =
    row (pose_bits (inverse_pose other_zeros))
    (0x8000_0000_0000_0000 ∷ 0x0000_0000_0000_0000 ∷ 0x0000_0000_0000_0000 ∷ 0x8000_0000_0000_0000 ∷ 0x8000_0000_0000_0000 ∷ 0x0000_0000_0000_0000 ∷ 0x8000_0000_0000_0000 ∷ [])

-- ---- dot products

-- Every other order of the four terms gives another number in one of them.
unfoldable pub dots : Row
unfolding bits
dots =
    row (bits (dot A.rotation B.rotation) ∷ bits (dot A.rotation C.rotation) ∷ bits (dot E.rotation F.rotation) ∷ bits (dot E.rotation E.rotation) ∷ [])
    (0x3fda_3d70_a3d7_0a3f ∷ 0x3fbe_b851_eb85_1ebe ∷ 0x3ff0_f5c2_8f5c_28f6 ∷ 0x3fff_ae14_7ae1_47ae ∷ [])
