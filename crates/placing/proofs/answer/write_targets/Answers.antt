-- `write_targets` meets its contract: within a view the sum has taken the candidates of the cameras passed, and the part is filled
-- from the front, a pose at a time (`Filling`). Assumes nothing.
use Prim.Native.Nat.{ℕ}
use native.Mathlib.Omega.{arith}
use mathlib.Core.Path.{◌≡◌, refl}
use lib.ListN.{get_or}
use Rattle.arithmetic.specs.Pose.{flat, nowhere}
use Rattle.placing.specs.Estimate.{rig_se3_target_from}
use Rattle.placing.specs.Rig.{rig_grid}
use Rattle.mean.proofs.Averaging.{mean_taken}
use Rattle.placing.proofs.Gathering.{taken-gather-next, length-target_candidate-le}
use Rattle.placing.proofs.Candidates.{target_candidates-rig_cell}
use Rattle.placing.proofs.Filling.{fill_tail}
use Rattle.placing.proofs.answer.write_targets.Goals as goal

pub loop-camera-preserved : goal.loop-camera-preserved
loop-camera-preserved c =
    let few = c.args.seen.now.fits.cameras_fit in
    simp (c.add_target-sum.ensures, c.cell.ensures, c.loop-camera.invariant)
    (taken-gather-next c.loop-camera.camera _ (λ i. length-target_candidate-le _ _) (omega arith))

pub loop-view-preserved : goal.loop-view-preserved
unfolding rig_se3_target_from
loop-view-preserved c =
    let s = c.args.seen.now in
    let view = c.loop-view.view in
    let poses = λ (i : ℕ). get_or c.args.rig_se3_cam.now i nowhere in
    let target = λ (v : ℕ). rig_se3_target_from (rig_grid s.rig s.floats.now) poses v in
    let whole : c.loop-camera.camera ≡ s.rig.cameras = omega arith in
    let mean : c.mean-pose.result ≡ target view =
    simp (c.mean-pose.ensures, c.loop-camera.invariant, mean_taken, whole, target_candidates-rig_cell s.rig s.floats.now poses view (omega arith)) in
    fill_tail (λ (v : ℕ). flat (target v)) 7 (λ i. refl) c.loop-view.answer c.args.answer.now c.write.new.part view (omega arith)
    c.loop-view.invariant (rw mean at c.write.ensures)
