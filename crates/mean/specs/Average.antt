-- The average of a list of poses, as document 01's "Averaging" words it.
-- Rests on the root of `root` and the poses of `Pose`.
use Rattle.std.specs.Prelude.{ℕ, cond, List, [], ◌∷◌, length, pos, Float}
use mathlib.Core.List.{foldl}
use Rattle.std.specs.Float.{binary64}
use Rattle.std.specs.Float.Ieee.{neg, lt, eq, of_int}
use Rattle.arithmetic.specs.Double.{Zero, One}
use Rattle.root.specs.Root.{root_of}
use Rattle.arithmetic.specs.Pose.{zero_vec, add_vec, over_vec, quaternion, identity_quat, add_quat, times_quat, over_quat, dot, norm_squared, pose}
use Rattle.arithmetic.specs.declared.pose.Vec3.{Vec3}
use Rattle.arithmetic.specs.declared.pose.Quaternion.{Quaternion}
use Rattle.arithmetic.specs.declared.pose.Pose.{Pose}

-- ---- the numbers of a rotation, one by one

abbrev pub zero_quat : Quaternion
zero_quat = quaternion Zero Zero Zero Zero

-- Each number divided by the root of the squared norm.
unfoldable pub normalize : Quaternion → Quaternion
normalize q = over_quat q (root_of (norm_squared q))

-- ---- the sums

-- −1 where the dot product with the first rotation is below 0, else 1.
abbrev pub sign : Quaternion → Quaternion → Float
sign first q = cond (lt (dot first q) Zero) (neg One) One

unfoldable pub plus_translation : Vec3 → Pose → Vec3
plus_translation s p = add_vec s p.translation

unfoldable pub plus_rotation : Quaternion → Quaternion → Pose → Quaternion
plus_rotation first s p = add_quat s (times_quat p.rotation (sign first p.rotation))

-- Translations are added in order from zero.
abbrev pub translation_sum : List Pose → Vec3
translation_sum l = foldl plus_translation zero_vec l

abbrev pub rotation_sum : Quaternion → List Pose → Quaternion
rotation_sum first l = foldl (plus_rotation first) zero_quat l

-- The rotation whose hemisphere the others take. The papers average no empty list; there it is the identity.
abbrev pub first_rotation : List Pose → Quaternion
first_rotation [] = identity_quat
first_rotation (p ∷ l) = p.rotation

-- ---- the average

-- A sum whose squared norm equals 0 gives the identity; any other is divided by the count, normalised, and normalised again.
unfoldable pub mean_rotation : Float → Quaternion → Quaternion
unfolding normalize
mean_rotation count s = cond (eq (norm_squared s) Zero) identity_quat (normalize (normalize (over_quat s count)))

unfoldable pub mean_of : ℕ → Vec3 → Quaternion → Pose
unfolding mean_rotation
mean_of n translations rotations =
    let count = of_int binary64 (pos n) in pose (over_vec translations count) (mean_rotation count rotations)

unfoldable pub average_isometries : List Pose → Pose
unfolding mean_of plus_translation plus_rotation
average_isometries l = mean_of (length l) (translation_sum l) (rotation_sum (first_rotation l) l)
