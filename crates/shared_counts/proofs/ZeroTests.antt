-- What a number made by or, or by exclusive or, says where it is 0. Assumes nothing.
use Prim.Native.Nat.{ℕ}
use native.Mathlib.Omega.{arith}
use mathlib.Core.Path.{◌≡◌}
use mathlib.Core.Bool.{◌&&◌}
use lib.Bits.{bit_or, bit_xor, or_add_and, xor_add_and, xor_self, and_le_l, and_le_r}
use lib.Dec.{eqb}

pub or-zero : (x y : ℕ) → eqb (bit_or x y) 0 ≡ (eqb x 0 && eqb y 0)
or-zero x y = grind (arith, or_add_and x y, and_le_l x y, and_le_r x y)

pub xor-zero : (x y : ℕ) → eqb (bit_xor x y) 0 ≡ eqb x y
xor-zero x y = grind (arith, xor_add_and x y, and_le_l x y, and_le_r x y, xor_self x)
