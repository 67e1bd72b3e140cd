-- The public averaging entry, by document 01, "Averaging": "It refuses an empty list with 1, more than 64 with 2, and a non-finite
-- number with 7, detail being the lowest pose." Rests on the average of `mean` and the table of `refusal`.
use Rattle.std.specs.Prelude.{ℕ, Bool, not, List, [], ◌∷◌, length, get_or, eqb, ltb}
use Rattle.std.specs.Prelude.{Option, None, Some}
use Rattle.mean.specs.Average.{average_isometries}
use Rattle.arithmetic.specs.Pose.{finite_pose, nowhere}
use Rattle.arithmetic.specs.declared.pose.Pose.{Pose}
use Rattle.refusal.specs.Table.{refuse_if, refuse_at, first_of}
use Rattle.refusal.specs.declared.Refusal.{Refusal}
use Rattle.refusal.specs.declared.Refusal.TheVariants.{InsufficientData, TooMany, NotFinite}
use Rattle.lists.specs.Finding.{lowest}
use Rattle.std.specs.Prelude.{Result, Err, Ok}

-- The most poses that one average takes.
abbrev pub max_poses : ℕ
max_poses = 64

-- Pose i of the list holds a number that is not finite.
abbrev pub is_not_finite : List Pose → ℕ → Bool
is_not_finite l i = not (finite_pose (get_or l i nowhere))

unfoldable pub lowest_not_finite : List Pose → Option ℕ
unfolding lowest
lowest_not_finite l = lowest (is_not_finite l) (length l)

-- 1, 2 and 7, in this order.
unfoldable pub average_refusal : List Pose → Option Refusal
unfolding refuse_if refuse_at first_of lowest_not_finite
average_refusal l =
    first_of
    (refuse_if (eqb (length l) 0) InsufficientData
    ∷ refuse_if (ltb max_poses (length l)) TooMany
    ∷ refuse_at (lowest_not_finite l) NotFinite
    ∷ [])

-- A mean, or what is refused.
abbrev pub Averaged : Type 0
Averaged = Result Pose Refusal

unfoldable pub averaged_by : Option Refusal → Pose → Averaged
averaged_by (Some r) mean = Err r
averaged_by None mean = Ok mean

-- What the entry answers.
unfoldable pub averaged_of : List Pose → Averaged
unfolding average_refusal averaged_by average_isometries
averaged_of l = averaged_by (average_refusal l) (average_isometries l)
