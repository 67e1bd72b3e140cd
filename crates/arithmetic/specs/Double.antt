-- Doubles: the operators of IEEE 754's binary64, each rounded once, under the signs that the literature gives rounded operators, and the constants in use.
-- Rests on the kit's account of IEEE 754, `lib.Ieee`.
use Rattle.std.specs.Prelude.{Float}
use Rattle.std.specs.Float.{binary64}
use Rattle.std.specs.Float.Ieee.{of_bits, add, sub, mul, div}

infixl 6 ◌⊕◌
infixl 6 ◌⊖◌
infixl 7 ◌⊗◌
infixl 7 ◌⊘◌
abbrev pub ◌⊕◌ : Float → Float → Float
x ⊕ y = add binary64 x y

abbrev pub ◌⊖◌ : Float → Float → Float
x ⊖ y = sub binary64 x y

abbrev pub ◌⊗◌ : Float → Float → Float
x ⊗ y = mul binary64 x y

abbrev pub ◌⊘◌ : Float → Float → Float
x ⊘ y = div binary64 x y

abbrev pub Zero : Float
Zero = of_bits binary64 0

abbrev pub One : Float
One = of_bits binary64 0x3ff0_0000_0000_0000

abbrev pub Two : Float
Two = of_bits binary64 0x4000_0000_0000_0000
