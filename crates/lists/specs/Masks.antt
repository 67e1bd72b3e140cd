-- Bits of a number. Assumes nothing.
use Rattle.std.specs.Prelude.{ℕ, ◌/◌, ◌%◌, ◌^◌, Bool, eqb}

-- Bit v of the mask is set.
unfoldable pub in_mask : ℕ → ℕ → Bool
in_mask mask v = eqb (mask / 2 ^ v % 2) 1
