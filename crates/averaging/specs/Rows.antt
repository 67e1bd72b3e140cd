-- Lists of poses beside what the averaging entry refuses them with, by document 01, "Averaging": "It refuses an empty list with 1, more than 64 with 2,
-- and a non-finite number with 7, detail being the lowest pose." The numbers and details are worked out by hand from that sentence, and the limit is
-- written as a number, not by the name that the definitions use. Rests on the entry.
use Rattle.std.specs.Prelude.{ℕ, List, [], ◌∷◌, ◌++◌, replicate, Float}
use Rattle.std.specs.Prelude.{Option, None, Some}
use Rattle.std.specs.Float.{binary64}
use Rattle.std.specs.Float.Ieee.{of_bits}
use Rattle.arithmetic.specs.Pose.{vec3, quaternion, pose}
use Rattle.arithmetic.specs.declared.pose.Pose.{Pose}
use Rattle.refusal.specs.Table.{number_of, detail_of}
use Rattle.refusal.specs.declared.Refusal.{Refusal}
use Rattle.averaging.specs.Entry.{average_refusal}

-- A list, and what is told of it: nothing, or a refusal's number and detail.
pub record Row : Type 0 where
  pub poses : List Pose
  pub told : List ℕ

abbrev tells : List Pose → List ℕ → Row
tells p t = record { poses = p; told = t }

unfoldable pub told_by : Option Refusal → List ℕ
told_by None = []
told_by (Some r) = number_of r ∷ detail_of r ∷ []

-- What the definition tells of each row's list; and what the rows say.
unfoldable pub all_told : List Row → List (List ℕ)
unfolding told_by average_refusal
all_told [] = []
all_told (r ∷ later) = told_by (average_refusal r.poses) ∷ all_told later

unfoldable pub all_said : List Row → List (List ℕ)
all_said [] = []
all_said (r ∷ later) = r.told ∷ all_said later

-- ---- poses

-- 0, 1, infinity, its negative, a NaN.
abbrev nought : Float
nought = of_bits binary64 0

abbrev one : Float
one = of_bits binary64 0x3ff0_0000_0000_0000

abbrev infinity : Float
infinity = of_bits binary64 0x7ff0_0000_0000_0000

abbrev below_all : Float
below_all = of_bits binary64 0xfff0_0000_0000_0000

abbrev not_a_number : Float
not_a_number = of_bits binary64 0x7ff8_0000_0000_0000

-- A finite pose; poses with one number that is not, in w, in x and in j.
abbrev good : Pose
good = pose (vec3 nought nought nought) (quaternion nought nought nought one)

abbrev bad_last : Pose
bad_last = pose (vec3 nought nought nought) (quaternion nought nought nought infinity)

abbrev bad_first : Pose
bad_first = pose (vec3 below_all nought nought) (quaternion nought nought nought one)

abbrev bad_within : Pose
bad_within = pose (vec3 nought nought nought) (quaternion nought not_a_number nought one)

-- ---- the rows

-- 1 for none. One pose and 64 are no refusal; 65 are 2.
unfoldable pub lengths : List Row
lengths =
    tells [] (1 ∷ 0 ∷ [])
    ∷ tells (good ∷ []) []
    ∷ tells (replicate 64 good) []
    ∷ tells (replicate 65 good) (2 ∷ 0 ∷ [])
    ∷ []

-- 7 with the pose: the only one, the first and the last of 64; of two the lower.
unfoldable pub not_finite : List Row
not_finite =
    tells (bad_within ∷ []) (7 ∷ 0 ∷ [])
    ∷ tells (bad_first ∷ replicate 63 good) (7 ∷ 0 ∷ [])
    ∷ tells (replicate 63 good ++ (bad_last ∷ [])) (7 ∷ 63 ∷ [])
    ∷ tells (good ∷ bad_within ∷ good ∷ bad_first ∷ good ∷ []) (7 ∷ 1 ∷ [])
    ∷ []

-- 2 before 7, wherever the number stands.
unfoldable pub too_many_first : List Row
too_many_first =
    tells (bad_within ∷ replicate 64 good) (2 ∷ 0 ∷ [])
    ∷ tells (replicate 64 good ++ (bad_within ∷ [])) (2 ∷ 0 ∷ [])
    ∷ []

unfoldable pub rows : List Row
unfolding lengths not_finite too_many_first
rows = lengths ++ not_finite ++ too_many_first
