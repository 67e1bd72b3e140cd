-- The product and the inverse of poses are document 01's, written a second time number by number, for all poses. Assumes nothing.
use mathlib.Core.Path.{◌≡◌, refl}
use Rattle.arithmetic.specs.Pose.{mul_pose, inverse_pose}
use Rattle.arithmetic.specs.Numbers.{mul_iso, inverse_iso}
use Rattle.arithmetic.specs.declared.pose.Pose.{Pose}

pub mul_iso-mul_pose : (a b : Pose) → mul_iso a b ≡ mul_pose a b
unfolding mul_iso mul_pose
mul_iso-mul_pose a b = refl

pub inverse_iso-inverse_pose : (a : Pose) → inverse_iso a ≡ inverse_pose a
unfolding inverse_iso inverse_pose
inverse_iso-inverse_pose a = refl
