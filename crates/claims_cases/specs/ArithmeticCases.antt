-- The rows P10 to P13 of document 01's bench table, and exact cases beside them that are worked out by hand: what the definitions compute beside what is to
-- come out, as whole numbers. A double is its bits. Exact cases recorded from the Rust stand in the crates `arithmetic` and `mean` themselves.
-- The rows of the crates above join these. Rests on the rows and the definitions of `Pose`, `Average` and `Root`.
use Rattle.std.specs.Prelude.{ℕ, cond, List, [], ◌∷◌, ◌++◌, map, Float}
use Rattle.std.specs.Float.Ieee.Scale.{finite}
use Rattle.arithmetic.specs.Double.{Zero, One, Two}
use Rattle.root.specs.Root.{root_of}
use Rattle.arithmetic.specs.Pose.{vec3, zero_vec, quaternion, mul_quat, dot, pose, mul_pose}
use Rattle.arithmetic.specs.Rows.{Row, row, bits, pose_bits, double}
use Rattle.mean.specs.Average.{average_isometries, first_rotation, rotation_sum}
use Rattle.arithmetic.specs.declared.pose.Quaternion.{Quaternion}
use Rattle.arithmetic.specs.declared.pose.Pose.{Pose}

-- What the cases compute, and what the paper says, one list a row.
unfoldable pub all_computed : List Row → List (List ℕ)
all_computed rows = map (λ (r : Row). r.computed) rows

unfoldable pub all_said : List Row → List (List ℕ)
all_said rows = map (λ (r : Row). r.said) rows

-- ---- numbers as bits

unfoldable pub quat_bits : Quaternion → List ℕ
unfolding bits
quat_bits q = bits q.i ∷ bits q.j ∷ bits q.k ∷ bits q.w ∷ []

abbrev one : ℕ
one = 0x3ff0_0000_0000_0000

abbrev minus_one : ℕ
minus_one = 0xbff0_0000_0000_0000

abbrev minus_zero : ℕ
minus_zero = 0x8000_0000_0000_0000

abbrev Three : Float
Three = double 0x4008_0000_0000_0000

abbrev MinusOne : Float
MinusOne = double minus_one

-- A rotation with no translation.
abbrev turned : Float → Float → Float → Float → Pose
turned i j k w = pose zero_vec (quaternion i j k w)

-- ---- the paper's cases

-- "P10: rotations (0,0,0,1), (0,0,0,−1) average to (0,0,0,1)."
unfoldable pub P10 : Row
unfolding pose_bits average_isometries
P10 =
    row (pose_bits (average_isometries (turned Zero Zero Zero One ∷ turned Zero Zero Zero MinusOne ∷ [])))
    (0 ∷ 0 ∷ 0 ∷ 0 ∷ 0 ∷ 0 ∷ one ∷ [])

-- "P11: for (1,0,0,0), (0,1,0,0) the dot is 0 and the undivided sum (1,1,0,0)."
unfoldable pub P11 : Row
unfolding bits quat_bits
P11 =
    let l = turned One Zero Zero Zero ∷ turned Zero One Zero Zero ∷ [] in
    row (bits (dot (quaternion One Zero Zero Zero) (quaternion Zero One Zero Zero)) ∷ quat_bits (rotation_sum (first_rotation l) l))
    (0 ∷ one ∷ one ∷ 0 ∷ 0 ∷ [])

-- "P12: one pose of zero rotation averages to identity rotation."
unfoldable pub P12 : Row
unfolding pose_bits average_isometries
P12 = row (pose_bits (average_isometries (turned Zero Zero Zero Zero ∷ []))) (0 ∷ 0 ∷ 0 ∷ 0 ∷ 0 ∷ 0 ∷ one ∷ [])

-- "P13: the root of 2 has bits 3ff6a09e667f3bcd; of 2 to the −1074, 2 to the −537." The least double has bits 1, and 2 to the −537 the exponent's field 1023 − 537.
unfoldable pub P13 : Row
unfolding bits root_of
P13 = row (bits (root_of Two) ∷ bits (root_of (double 1)) ∷ []) (0x3ff6_a09e_667f_3bcd ∷ 0x1e60_0000_0000_0000 ∷ [])

unfoldable pub arithmetic_rows : List Row
unfolding P10 P11 P12 P13
arithmetic_rows = P10 ∷ P11 ∷ P12 ∷ P13 ∷ []

-- ---- exact cases by hand: rules and ends that a reader can follow

abbrev I : Quaternion
I = quaternion One Zero Zero Zero

abbrev J : Quaternion
J = quaternion Zero One Zero Zero

abbrev K : Quaternion
K = quaternion Zero Zero One Zero

-- Hamilton's rules: ij = k, jk = i, ki = j, and each squared is −1. A zero made of unlike zeros is +0.
unfoldable pub hamilton : Row
unfolding quat_bits
hamilton =
    row (quat_bits (mul_quat I J) ++ quat_bits (mul_quat J K) ++ quat_bits (mul_quat K I) ++ quat_bits (mul_quat I I) ++ quat_bits (mul_quat J J) ++ quat_bits (mul_quat K K))
    (0 ∷ 0 ∷ one ∷ 0 ∷ one ∷ 0 ∷ 0 ∷ 0 ∷ 0 ∷ one ∷ 0 ∷ 0 ∷ 0 ∷ 0 ∷ 0 ∷ minus_one ∷ 0 ∷ 0 ∷ 0 ∷ minus_one ∷ 0 ∷ 0 ∷ 0 ∷ minus_one ∷ [])

-- A half turn about z takes (1, 2, 3) to (−1, −2, 3); the left translation (1, 1, 1) is added, and the rotation is the left one.
unfoldable pub half_turn : Row
unfolding pose_bits mul_pose
half_turn =
    row (pose_bits (mul_pose (pose (vec3 One One One) K) (pose (vec3 One Two Three) (quaternion Zero Zero Zero One))))
    (0 ∷ minus_one ∷ 0x4010_0000_0000_0000 ∷ 0 ∷ 0 ∷ one ∷ 0 ∷ [])

-- The largest double, the least, both zeros, both infinities and a NaN: 1 where it is finite.
unfoldable pub finite_doubles : Row
finite_doubles =
    row (map (λ (b : ℕ). cond (finite (double b)) 1 0)
    (0x7fef_ffff_ffff_ffff ∷ 1 ∷ 0 ∷ minus_zero ∷ 0x7ff0_0000_0000_0000 ∷ 0xfff0_0000_0000_0000 ∷ 0x7ff8_0000_0000_0000 ∷ []))
    (1 ∷ 1 ∷ 1 ∷ 1 ∷ 0 ∷ 0 ∷ 0 ∷ [])

-- "Root of −0 is −0, of +infinity itself, of anything below zero or NaN a NaN." Then the greatest subnormal, and 2^1023 with its last bits 3: a last bit more or
-- less in the number is one in the root.
unfoldable pub root_ends : Row
unfolding bits root_of
root_ends =
    row (map (λ (b : ℕ). bits (root_of (double b))) (0 ∷ minus_zero ∷ 0x7ff0_0000_0000_0000 ∷ 0xfff0_0000_0000_0000 ∷ minus_one ∷ 0x7ff8_0000_0000_0000 ∷ 0x000f_ffff_ffff_ffff ∷ 0x7fe0_0000_0000_0003 ∷ []))
    (0 ∷ minus_zero ∷ 0x7ff0_0000_0000_0000 ∷ 0x7ff8_0000_0000_0000 ∷ 0x7ff8_0000_0000_0000 ∷ 0x7ff8_0000_0000_0000 ∷ 0x1fff_ffff_ffff_ffff ∷ 0x5fe6_a09e_667f_3bcf ∷ [])

unfoldable pub exact_rows : List Row
unfolding hamilton half_turn finite_doubles root_ends
exact_rows = hamilton ∷ half_turn ∷ finite_doubles ∷ root_ends ∷ []
