-- Each of the seven numbers of a pose of finite numbers is finite, and none of them is a NaN. Assumes nothing.
use Prim.Native.Nat.{ℕ, ◌<◌}
use mathlib.Core.Path.{◌≡◌, sym, ◌∙◌}
use mathlib.Core.Bool.{true, not, false≢true, and_assoc, and-true}
use lib.Dec.{T}
use lib.ListN.{get_or}
use lib.Ieee.{Float, nan, inf, fin, is_nan}
use lib.Ieee.Scale.{finite}
use Rattle.std.specs.List.{list_all}
use Rattle.std.proofs.lemmas.List.Elements.{All-get_or}
use Rattle.std.proofs.lemmas.List.Sums.{AllPass-from_list_all}
use Rattle.arithmetic.specs.Pose.{finite_pose, flat}
use Rattle.arithmetic.specs.declared.pose.Pose.{Pose}

pub finite_pose-flat : (p : Pose) → finite_pose p ≡ list_all finite (flat p)
unfolding finite_pose
finite_pose-flat p = simp (and_assoc, and-true)

pub finite_number : (p : Pose) → finite_pose p ≡ true → (k : ℕ) → k < 7 → finite (get_or (flat p) k nan) ≡ true
finite_number p all k h = All-get_or (λ x. finite x ≡ true) (flat p) k nan h (AllPass-from_list_all finite (flat p) (sym (finite_pose-flat p) ∙ all))

-- What is finite is no NaN.
pub finite_not-nan : (x : Float) → finite x ≡ true → T (not (is_nan x))
unfolding is_nan
finite_not-nan nan h = absurd (false≢true h)
finite_not-nan (inf s) h = absurd (false≢true h)
finite_not-nan (fin s m e) h = tt
