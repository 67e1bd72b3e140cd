-- A double is finite as std tells it exactly where the definitions say so. Assumes nothing.
use Rattle.std.proofs.Common.{◌≡◌, refl}
use Rattle.std.specs.Float.{float_is_finite}
use lib.Ieee.{Float, nan, inf, fin}
use lib.Ieee.Scale.{finite}

pub finite_alike : (x : Float) → float_is_finite x ≡ finite x
unfolding float_is_finite
finite_alike nan = refl
finite_alike (inf s) = refl
finite_alike (fin s m e) = refl
