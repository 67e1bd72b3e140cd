-- `write_cameras` meets its contract: the answer is filled from the front, a pose at a time (`Filling`). Assumes nothing.
use Prim.Native.Nat.{ℕ}
use native.Mathlib.Omega.{arith}
use mathlib.Core.Path.{refl}
use lib.ListN.{get_or}
use Rattle.arithmetic.specs.Pose.{flat, nowhere}
use Rattle.placing.proofs.Filling.{fill_tail}
use Rattle.placing.proofs.answer.write_cameras.Goals as goal

pub loop-camera-preserved : goal.loop-camera-preserved
loop-camera-preserved c =
    fill_tail (λ (i : ℕ). flat (get_or c.args.rig_se3_cam.now i nowhere)) 7 (λ i. refl) c.loop-camera.answer c.args.answer.now
    c.write.new.part c.loop-camera.camera (omega arith) c.loop-camera.invariant c.write.ensures
