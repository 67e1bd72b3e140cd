-- `root::rounded_root` meets its contract, by the square of the whole part and one. Assumes nothing.
use native.Mathlib.Omega.{arith}
use Rattle.root.proofs.Squares.{sq-suc}
use Rattle.root.proofs.rounded_root.Goals as goal

pub returns-then-q-rem : goal.returns-then-q-rem
returns-then-q-rem c = let e = sq-suc c.isqrt-whole.result in omega arith
