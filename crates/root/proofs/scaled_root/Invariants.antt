-- `root::scaled_root` meets its contract: the loop keeps `Scaled`, and what it leaves has a root whose digits `nearest_root` gives. The measure is the exponent. Assumes nothing.
use Rattle.root.proofs.Scale.{Scaled}
use Rattle.root.proofs.scaled_root.Given as goal

abbrev pub invariant-loop-n : goal.invariant-loop-n
invariant-loop-n l = Scaled l.m l.b l.n l.c

abbrev pub decreases-loop-n : goal.decreases-loop-n
decreases-loop-n l = l.c
