-- The average in the making: what `Average` holds once it has taken the poses of a list, and one pose more. Rests on the sums of `Average`.
use Rattle.std.specs.Prelude.{ℕ, ◌+◌, ◌%◌, ◌^◌, List, [], ◌∷◌, length, Option, None, Some}
use Rattle.std.specs.Option.{unwrap_or}
use Rattle.arithmetic.specs.declared.pose.Vec3.{Vec3}
use Rattle.arithmetic.specs.declared.pose.Quaternion.{Quaternion}
use Rattle.arithmetic.specs.declared.pose.Pose.{Pose}
use Rattle.mean.specs.Average.{plus_translation, plus_rotation, translation_sum, rotation_sum, first_rotation}
use Rattle.mean.specs.declared.Average.{Average}

abbrev pub average : Option Quaternion → Vec3 → Quaternion → ℕ → Average
average q v s n = record { first = q; translations = v; rotations = s; count = n }

-- The rotation of the first pose, which an empty list has not.
abbrev pub first_taken : List Pose → Option Quaternion
first_taken [] = None
first_taken (p ∷ l) = Some p.rotation

unfoldable pub taken : List Pose → Average
unfolding plus_translation plus_rotation
taken l = average (first_taken l) (translation_sum l) (rotation_sum (first_rotation l) l) (length l)

-- The rotation whose hemisphere the others take, once p is taken too: that of the first pose of all.
abbrev pub first_of : Average → Pose → Quaternion
first_of a p = unwrap_or a.first p.rotation

unfoldable pub plus_pose : Average → Pose → Average
unfolding plus_translation plus_rotation
plus_pose a p =
    average (Some (first_of a p)) (plus_translation a.translations p) (plus_rotation (first_of a p) a.rotations p)
    ((a.count + 1) % 2 ^ 32)
