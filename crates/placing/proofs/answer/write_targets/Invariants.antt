-- `write_targets` meets its contract: within a view the sum has taken the candidates of the cameras passed, and the part is filled
-- from the front, a pose at a time (`Filling`). Assumes nothing.
use Prim.Native.Nat.{◌*◌}
use mathlib.Core.Path.{◌≡◌}
use mathlib.Core.List.{◌++◌}
use lib.ListN.{get_or, drop}
use Rattle.arithmetic.specs.Pose.{flat, nowhere}
use Rattle.mean.specs.Inner.Taking.{taken}
use Rattle.lists.specs.Lists.{gather}
use Rattle.placing.specs.Estimate.{target_candidate, rig_se3_target_from}
use Rattle.placing.specs.Rig.{rig_cell, rig_grid}
use Rattle.placing.proofs.answer.write_targets.Given as goal

abbrev pub invariant-loop-camera : goal.invariant-loop-camera
invariant-loop-camera l = l.sum ≡ taken (gather l.camera (λ c. target_candidate (get_or l.rig_se3_cam c nowhere) (rig_cell l.seen.rig l.seen.floats.now l.view c)))

abbrev pub invariant-loop-view : goal.invariant-loop-view
invariant-loop-view l = l.answer ≡ gather l.view (λ v. flat (rig_se3_target_from (rig_grid l.seen.rig l.seen.floats.now) (λ c. get_or l.rig_se3_cam c nowhere) v)) ++ drop (7 * l.view) l.initial.answer
