-- A double is finite exactly where it lies strictly between the infinities. Assumes nothing.
use mathlib.Core.Path.{◌≡◌, refl}
use mathlib.Core.Bool.{true, false, ◌&&◌}
use lib.Ieee.{Float, nan, inf, fin, binary64, of_bits, div, neg, lt}
use lib.Ieee.Scale.{finite}
use Rattle.arithmetic.specs.Double.{One, Zero}

pub between_infinities : (x : Float) → lt x (div binary64 One Zero) && lt (div binary64 (neg One) Zero) x ≡ finite x
unfolding of_bits div neg lt
between_infinities nan = refl
between_infinities (inf true) = refl
between_infinities (inf false) = refl
between_infinities (fin s m e) = refl
