-- The rounded operators and the constants of doubles a second time, for the texts that say the arithmetic again: nothing of `Double` stands here.
-- Rests on the kit's account of IEEE 754, `lib.Ieee`.
use Rattle.std.specs.Prelude.{Float}
use Rattle.std.specs.Float.{binary64}
use Rattle.std.specs.Float.Ieee.{of_bits, add, sub, mul, div}

infixl 6 ◌⊕◌
infixl 6 ◌⊖◌
infixl 7 ◌⊗◌
infixl 7 ◌⊘◌
abbrev pub ◌⊕◌ : Float → Float → Float
◌⊕◌ = add binary64

abbrev pub ◌⊖◌ : Float → Float → Float
◌⊖◌ = sub binary64

abbrev pub ◌⊗◌ : Float → Float → Float
◌⊗◌ = mul binary64

abbrev pub ◌⊘◌ : Float → Float → Float
◌⊘◌ = div binary64

-- The bits of 0, 1 and 2.
abbrev pub Zero : Float
Zero = of_bits binary64 0x0000_0000_0000_0000

abbrev pub One : Float
One = of_bits binary64 0x3ff0_0000_0000_0000

abbrev pub Two : Float
Two = of_bits binary64 0x4000_0000_0000_0000
