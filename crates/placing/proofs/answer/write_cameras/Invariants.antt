-- `write_cameras` meets its contract: the answer is filled from the front, a pose at a time (`Filling`). Assumes nothing.
use Prim.Native.Nat.{◌*◌}
use mathlib.Core.Path.{◌≡◌}
use mathlib.Core.List.{◌++◌}
use lib.ListN.{get_or, drop}
use Rattle.arithmetic.specs.Pose.{flat, nowhere}
use Rattle.lists.specs.Lists.{gather}
use Rattle.placing.proofs.answer.write_cameras.Given as goal

abbrev pub invariant-loop-camera : goal.invariant-loop-camera
invariant-loop-camera l = l.answer ≡ gather l.camera (λ c. flat (get_or l.rig_se3_cam c nowhere)) ++ drop (7 * l.camera) l.initial.answer
