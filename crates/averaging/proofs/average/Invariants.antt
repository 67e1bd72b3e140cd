-- Before each turn the sums are those of the poses before `pose`.
use Rattle.std.proofs.Common.{◌≡◌, take}
use Rattle.mean.specs.Inner.Taking.{taken}
use Rattle.averaging.proofs.average.Given as goal

abbrev pub invariant-loop-pose : goal.invariant-loop-pose
invariant-loop-pose l = l.sum ≡ taken (take l.pose-index l.poses)
