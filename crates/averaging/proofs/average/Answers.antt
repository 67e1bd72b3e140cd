-- `average` meets its contract: a turn adds the next pose to the sums, and of so few poses the count does not wrap. Assumes nothing.
use Rattle.std.proofs.Common.{arith}
use Rattle.std.proofs.lemmas.List.{take_all, take_more, length-take}
use Rattle.mean.proofs.Averaging.{taken-append, mean_taken}
use Rattle.averaging.proofs.average.Goals as goal

pub loop-pose-preserved : goal.loop-pose-preserved
loop-pose-preserved c = grind (arith, take_more, length-take, taken-append)

pub returns : goal.returns
returns c = grind (arith, take_all, mean_taken)
