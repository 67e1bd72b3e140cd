-- What the private steps of src/lib.rt promise. Definitions only. Assumes nothing.
use Rattle.std.specs.Prelude.{ℕ, ◌+◌, ◌*◌, ◌^◌, ◌≤◌, ◌<◌}
use Rattle.root.specs.Root.{sq, dropped, rounded}

-- r is √n to the nearest whole number: √n is above r - 1/2 and below r + 1/2, squared.
pub record Rounded (n r : ℕ) : Type 0 where
  pub above : sq r < n + r
  pub below : n ≤ sq r + r

-- the bit pattern of √s units: with the leading digit of `rounded s` the exponent's field is `dropped s` and one
unfoldable pub pattern : ℕ → ℕ
unfolding dropped rounded
pattern s = dropped s * 2 ^ 52 + rounded s
