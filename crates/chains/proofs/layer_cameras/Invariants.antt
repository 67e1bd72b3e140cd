-- `layer_cameras` meets its contract. The loop's invariant: the search stands at its layer. The measure is how far its number is below that of
-- the cameras. Assumes nothing.
use Prim.Native.Nat.{◌-◌}
use Rattle.chains.specs.Inner.Search.{Reached}
use Rattle.chains.proofs.layer_cameras.Given as goal

abbrev pub invariant-loop-network : goal.invariant-loop-network
invariant-loop-network l = Reached l.network l.search

abbrev pub decreases-loop-network : goal.decreases-loop-network
decreases-loop-network l = l.network.cameras - l.search.number
