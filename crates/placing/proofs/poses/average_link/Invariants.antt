-- `average_link` meets its contract: the sum has taken the candidates of the views passed. Assumes nothing.
use mathlib.Core.Path.{◌≡◌}
use Rattle.mean.specs.Inner.Taking.{taken}
use Rattle.lists.specs.Lists.{gather}
use Rattle.placing.specs.Estimate.{link_candidate}
use Rattle.placing.specs.Rig.{rig_cell}
use Rattle.placing.proofs.poses.average_link.Given as goal

abbrev pub invariant-loop-view : goal.invariant-loop-view
invariant-loop-view l = l.sum ≡ taken (gather l.view (λ v. link_candidate (rig_cell l.seen.rig l.seen.floats.now v l.parent) (rig_cell l.seen.rig l.seen.floats.now v l.camera)))
