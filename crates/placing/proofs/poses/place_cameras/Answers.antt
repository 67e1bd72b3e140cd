-- `place_cameras` meets its contract: the reference is all there is before layer 1 (`placed_to_reference`); within a layer `PlacedBefore` holds of the cameras
-- passed, and one camera more is either stored with its rig pose (`placed_before_stored`) or belongs to another layer (`placed_before_passed`); and no camera
-- has as many links as there are cameras (`placed_to_all`). Assumes nothing.
use native.Mathlib.Omega.{arith}
use mathlib.Core.Path.{refl, ap, ◌∙◌}
use lib.ListN.{replicate, length-set, get_or-replicate}
use Rattle.arithmetic.specs.Pose.{mul_pose, nowhere}
use Rattle.limits.specs.Limits.{max_cameras}
use Rattle.placing.specs.Rig.{rig_grid}
use Rattle.placing.proofs.Rooting.{parent_at-place, links_at-place, links_at-none, place_parent_inside}
use Rattle.placing.proofs.LayerPoses.{placed_to_reference, placed_to_all, placed_before_stored, placed_before_passed}
use Rattle.placing.proofs.poses.place_cameras.Goals as goal
use Rattle.placing.proofs.poses.place_cameras.Goals.{in-Some+then-from-layer, in-Some+else-from-layer, in_default}

pub loop-layer-init : goal.loop-layer-init
unfolding rig_grid
loop-layer-init c =
    let rig = c.args.seen.now.rig in
    let fits = c.args.seen.now.fits in
    let p = c.identity-poses.result in (
      refl,
      placed_to_reference _ _ _ c.requires (replicate max_cameras p)
          (get_or-replicate max_cameras rig.reference p nowhere (omega arith) ∙ c.identity-poses.ensures),
    )

pub average_link-link-requires : goal.average_link-link-requires
average_link-link-requires c =
    let inside = place_parent_inside _ _ _ c.requires c.loop-camera.camera (omega arith) c.in-Some.place c.in-Some.is (omega arith) in
    (omega arith, omega arith)

pub offset_bounds-poses-parent : goal.offset_bounds-poses-parent
offset_bounds-poses-parent c =
    let fits = c.args.seen.now.fits in
    omega (arith, place_parent_inside _ _ _ c.requires c.loop-camera.camera (omega arith) c.in-Some.place c.in-Some.is (omega arith))

pub bounds-poses-parent : goal.bounds-poses-parent
bounds-poses-parent c =
    let fits = c.args.seen.now.fits in
    omega (arith, place_parent_inside _ _ _ c.requires c.loop-camera.camera (omega arith) c.in-Some.place c.in-Some.is (omega arith))

pub loop-camera-preserved : goal.loop-camera-preserved
unfolding rig_grid
loop-camera-preserved c =
    let fits = c.args.seen.now.fits in
    let tree = c.args.tree.now in
    let camera = c.loop-camera.camera in
    let before = c.loop-camera.invariant.1 in
    elim c.match-tree-camera.branch [
      | in-Some+then-from-layer w ↦ rw w.poses-is (
        simp length-set c.loop-camera.invariant.0,
        placed_before_stored _ _ _ c.requires _ camera (omega arith) (omega arith)
            (omega (arith, links_at-place tree camera w.in-Some.place w.in-Some.is, w.if-from-layer.true)) c.loop-camera.poses (omega arith) before _
            (rw (parent_at-place tree camera w.in-Some.place w.in-Some.is, ← w.from-parent.ensures) (w.mul.ensures ∙ ap (mul_pose _) w.average_link-link.ensures)),
      )
      | in-Some+else-from-layer w ↦ rw w.poses-is (
        c.loop-camera.invariant.0,
        placed_before_passed _ _ _ c.requires _ camera (omega arith) (omega arith)
            (omega (arith, links_at-place tree camera w.in-Some.place w.in-Some.is, w.if-from-layer.false)) c.loop-camera.poses before,
      )
      | in_default w ↦ rw w.poses-is (
        c.loop-camera.invariant.0,
        placed_before_passed _ _ _ c.requires _ camera (omega arith) (omega arith)
            (omega (arith, links_at-none tree camera w.in_default.is)) c.loop-camera.poses before,
      )
    ]

pub loop-layer-preserved : goal.loop-layer-preserved
unfolding rig_grid
loop-layer-preserved c =
    (c.loop-camera.invariant.0, λ i h k. c.loop-camera.invariant.1.passed i (omega arith) h k)

pub returns : goal.returns
unfolding rig_grid
returns c =
    let fits = c.args.seen.now.fits in
    placed_to_all _ _ _ c.requires c.loop-layer.layer c.loop-layer.poses (omega arith) c.loop-layer.invariant.1
