-- `place_next_layer` meets its contract. The loop's invariant: the cameras passed are done for the next layer (`Turned`). Assumes nothing.
use Rattle.chains.proofs.Turning.{Turned}
use Rattle.chains.proofs.Network.place_next_layer.Given as goal

abbrev pub invariant-loop-camera : goal.invariant-loop-camera
invariant-loop-camera l = Turned l.self l.fn.search.number l.camera l.places l.layer.items
