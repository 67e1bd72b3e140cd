-- `layer_cameras` meets its contract: an empty layer is the last. Assumes nothing.
use native.Mathlib.Omega.{arith}
use Rattle.std.proofs.lemmas.Bool.Decides.{nat_tests}
use Rattle.chains.proofs.Reaching.{reached_end}
use Rattle.chains.proofs.layer_cameras.Goals as goal

pub returns : goal.returns
returns c = reached_end _ c.loop-network.invariant (grind (arith, nat_tests))
