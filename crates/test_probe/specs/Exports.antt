-- What each export answers, and what its lent answer is after it, over its full length. Rests on `Poses` and the replies of `placer`.
use Rattle.std.specs.Prelude.{◌≡◌, ℕ, List, length, Float}
use Rattle.std.specs.Prelude.{Option}
use Rattle.arithmetic.specs.Pose.{flat}
use Rattle.refusal.specs.declared.Refusal.{Refusal}
use Rattle.extrinsics.specs.Outcome.{answered}
use Rattle.placer.specs.Code.{code_of_refusal}
use Rattle.test_probe.specs.Poses.{poses_refusal, product_of, inverses_of}

-- Given what is refused and the floats that are written otherwise: the reply r, and the lent answer after it.
pub record Replied (refusal : Option Refusal) (new old : List Float) (r : ℕ) (after : List Float) : Type 0 where
  pub reply : r ≡ code_of_refusal refusal
  pub answer : after ≡ answered refusal new old

abbrev pub Multiplied : List Float → List Float → ℕ → List Float → Type 0
Multiplied poses product = Replied (poses_refusal (length poses) (length product) 7) (flat (product_of poses)) product

abbrev pub Inverted : List Float → List Float → ℕ → List Float → Type 0
Inverted poses inverses = Replied (poses_refusal (length poses) (length inverses) (length poses)) (inverses_of poses) inverses
