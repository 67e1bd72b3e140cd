-- Lists of poses lent as floats, seven each: what is refused of them, their product, and their inverses. Rests on the poses of `arithmetic`
-- and the table of refusals.
use Rattle.std.specs.Prelude.{ℕ, zero, suc, ◌*◌, ◌/◌, ◌%◌, not, ◌||◌, List, [], ◌∷◌, ◌++◌, length, ◌==◌, nat_lt, Float}
use Rattle.std.specs.Prelude.{Option}
use mathlib.Core.List.{foldl}
use Rattle.arithmetic.specs.Pose.{identity_pose, mul_pose, inverse_pose, flat, pose_at}
use Rattle.arithmetic.specs.declared.pose.Pose.{Pose}
use Rattle.refusal.specs.Table.{refuse_if}
use Rattle.refusal.specs.declared.Refusal.{Refusal}
use Rattle.refusal.specs.declared.Refusal.TheVariants.{WrongLength}
use Rattle.lists.specs.Lists.{gather}

abbrev pub pose_count : List Float → ℕ
pose_count floats = length floats / 7

-- The first n poses of the list.
unfoldable pub poses_in : ℕ → List Float → List Pose
unfolding pose_at
poses_in zero l = []
poses_in (suc n) l = poses_in n l ++ (pose_at l (7 * n) ∷ [])

-- 5: so many floats are not seven for each pose, or the answer has less room than it needs.
unfoldable pub poses_refusal : ℕ → ℕ → ℕ → Option Refusal
unfolding refuse_if
poses_refusal floats room needed = refuse_if (not (floats % 7 == 0) || nat_lt room needed) WrongLength

-- The product of all poses, in order.
unfoldable pub product_of : List Float → Pose
unfolding mul_pose poses_in
product_of floats = foldl mul_pose identity_pose (poses_in (pose_count floats) floats)

-- The inverse of each pose, seven floats each.
unfoldable pub inverses_of : List Float → List Float
unfolding gather inverse_pose pose_at
inverses_of floats = gather (pose_count floats) (λ i. flat (inverse_pose (pose_at floats (7 * i))))
