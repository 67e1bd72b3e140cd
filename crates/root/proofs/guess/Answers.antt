-- `root::guess` meets its contract: the pattern of u is a finite one. Assumes nothing.
use Prim.Native.Nat.{◌/◌, ◌^◌}
use native.Mathlib.Omega.{arith}
use lib.Pow.{shr_le}
use Rattle.std.proofs.lemmas.Float.{not_nan_f64_bits}
use Rattle.root.proofs.guess.Goals as goal

pub float_from_bits-u : goal.float_from_bits-u
float_from_bits-u c = not_nan_f64_bits _ (omega (arith, shr_le c.args.m (c.args.m / 2 ^ 53)))
