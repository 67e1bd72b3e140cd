-- Laws of the outcome of averaging, one for each of its cases. Assumes nothing.
use Prim.Native.Nat.{ℕ, ◌≤◌, ◌<◌}
use native.Mathlib.Omega.{arith}
use mathlib.Core.Path.{◌≡◌}
use Rattle.std.specs.Prelude.{None, Some, Err, Ok}
use mathlib.Core.List.{List}
use borrow.Author.Tests.{eq-eqb, ne_eqb, lt-ltb, le-ltb}
use lib.ListN.{length}
use Rattle.mean.specs.Average.{average_isometries}
use Rattle.arithmetic.specs.declared.pose.Pose.{Pose}
use Rattle.refusal.specs.declared.Refusal.TheVariants.{InsufficientData, TooMany, NotFinite}
use Rattle.averaging.specs.Entry.{max_poses, lowest_not_finite, averaged_of}

pub averaged_of-empty : (l : List Pose) → length l ≡ 0 → averaged_of l ≡ Err InsufficientData
unfolding averaged_of
averaged_of-empty l e = simp (eq-eqb _ _ e)

pub averaged_of_too_many : (l : List Pose) → max_poses < length l → averaged_of l ≡ Err TooMany
unfolding averaged_of
averaged_of_too_many l h = let n : length l ≡ 0 → ⊥ = λ e. omega arith in simp (ne_eqb _ _ n, lt-ltb _ _ h)

pub averaged_of-not_finite : (l : List Pose) → (length l ≡ 0 → ⊥) → length l ≤ max_poses → (i : ℕ) → lowest_not_finite l ≡ Some i → averaged_of l ≡ Err (NotFinite i)
unfolding averaged_of
averaged_of-not_finite l some-pose few i e = simp (ne_eqb _ _ some-pose, le-ltb _ _ few, e)

pub averaged_of_mean : (l : List Pose) → (length l ≡ 0 → ⊥) → length l ≤ max_poses → lowest_not_finite l ≡ None → averaged_of l ≡ Ok (average_isometries l)
unfolding averaged_of
averaged_of_mean l some-pose few e = simp (ne_eqb _ _ some-pose, le-ltb _ _ few, e)
