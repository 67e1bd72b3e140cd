-- Laws of averaging one pose at a time: what `Average` holds after the poses of a list is `taken` of that list, and its mean is the list's average.
-- Assumes nothing.
use Rattle.std.proofs.Common.{◌≡◌, ◌+◌, ◌^◌, ◌<◌, List, [], ◌∷◌, ◌++◌, length, refl, ap₂, mod-eq_of_lt, length-append}
use mathlib.Core.List.{foldl-append}
use Rattle.mean.specs.Average.{translation_sum, rotation_sum, first_rotation, mean_of, average_isometries}
use Rattle.mean.specs.Inner.Taking.{taken, plus_pose}
use Rattle.arithmetic.specs.declared.pose.Vec3.{Vec3}
use Rattle.arithmetic.specs.declared.pose.Quaternion.{Quaternion}
use Rattle.arithmetic.specs.declared.pose.Pose.{Pose}

-- One pose more, while the count does not wrap.
pub taken-append : (l : List Pose) (p : Pose) → length l + 1 < 2 ^ 32 → plus_pose (taken l) p ≡ taken (l ++ (p ∷ []))
unfolding plus_pose taken
taken-append [] p h = refl
taken-append (o ∷ l) p h =
    simp (foldl-append, length-append, mod-eq_of_lt h)

pub mean_taken : (l : List Pose) → mean_of (taken l).count (taken l).translations (taken l).rotations ≡ average_isometries l
unfolding taken average_isometries
mean_taken l = refl

-- An average by its sums, where they are known.
pub average-sums : (l : List Pose) {t : Vec3} {s : Quaternion} → translation_sum l ≡ t → rotation_sum (first_rotation l) l ≡ s → average_isometries l ≡ mean_of (length l) t s
unfolding average_isometries
average-sums l translations rotations = ap₂ (mean_of (length l)) translations rotations
