-- Laws of the product of a list of poses, one pose more, and of how many floats their inverses take. Assumes nothing.
use Rattle.std.proofs.Common.{◌≡◌, ℕ, ◌+◌, ◌*◌, ◌/◌, List, [], ◌∷◌, length, sym, refl, ap, ◌∙◌, add-one}
use mathlib.Core.List.{foldl, foldl-append}
use lib.Ieee.{Float}
use Rattle.arithmetic.specs.Pose.{identity_pose, mul_pose, inverse_pose, flat, pose_at}
use Rattle.arithmetic.specs.declared.pose.Pose.{Pose}
use Rattle.test_probe.specs.Poses.{poses_in, inverses_of}
use Rattle.lists.proofs.Blocks.{length-gather}

-- The product of the first n poses.
abbrev pub product_to : ℕ → List Float → Pose
product_to n floats = foldl mul_pose identity_pose (poses_in n floats)

pub product_to_next : (n : ℕ) (floats : List Float) → mul_pose (product_to n floats) (pose_at floats (7 * n)) ≡ product_to (n + 1) floats
unfolding poses_in
product_to_next n floats =
    sym (foldl-append mul_pose identity_pose (poses_in n floats) (pose_at floats (7 * n) ∷ []))
    ∙ ap (λ (k : ℕ). product_to k floats) (sym (add-one n))

pub length-inverses_of : (floats : List Float) → length (inverses_of floats) ≡ 7 * (length floats / 7)
unfolding inverses_of
length-inverses_of floats = length-gather (λ i. flat (inverse_pose (pose_at floats (7 * i)))) 7 (λ i. refl) (length floats / 7)
