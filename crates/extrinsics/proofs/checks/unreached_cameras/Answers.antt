-- `unreached_cameras` meets its contract: the set is the sum over the cameras passed, and the tree has no place exactly for those that
-- the layers do not place. Assumes nothing.
use native.Mathlib.Omega.{arith}
use mathlib.Core.Path.{◌≡◌, ap, ◌∙◌}
use mathlib.Core.Bool.{not}
use lib.Pow.{pow_mono}
use Rattle.chains.specs.Inner.Trees.{tree_of, place_at}
use Rattle.placing.specs.Grid.{spots, has_place}
use Rattle.placing.specs.Rig.{rig_grid}
use Rattle.extrinsics.specs.Outcome.{unreached_set}
use Rattle.lists.proofs.PowerSums.{power_sum-lt, power_sum_more, power_sum_same, power_sum_agree, one_shl}
use Rattle.chains.proofs.Reading.{is_some-place_at}
use Rattle.extrinsics.proofs.checks.unreached_cameras.Goals as goal
use Rattle.extrinsics.proofs.checks.unreached_cameras.Goals.{then-is_none, else-is_none}
use Rattle.extrinsics.proofs.checks.unreached_cameras.Invariants.{no_place}

pub overflow_add-set : goal.overflow_add-set
overflow_add-set c =
    let fits = c.args.seen.now.fits in
    let camera = c.loop-camera.camera in
    omega (arith, one_shl camera (omega arith), power_sum-lt (no_place c.args.tree.now) camera, pow_mono {i = camera} {j = 16} (omega arith))

pub loop-camera-preserved : goal.loop-camera-preserved
loop-camera-preserved c =
    let fits = c.args.seen.now.fits in
    let test = no_place c.args.tree.now in
    let camera = c.loop-camera.camera in
    elim c.if-is_none.branch [
      | then-is_none w ↦ omega (arith, power_sum_more test camera (ap not w.if-is_none.ensures), one_shl camera (omega arith))
      | else-is_none w ↦ omega (arith, power_sum_same test camera (ap not w.if-is_none.ensures))
    ]

pub returns : goal.returns
unfolding unreached_set rig_grid place_at
returns c =
    let seen = c.args.seen.now in
    let g = rig_grid seen.rig seen.floats.now in
    let all : c.loop-camera.camera ≡ seen.rig.cameras = omega arith in
    c.loop-camera.invariant
    ∙ rw (all, c.requires)
    (power_sum_agree (no_place (tree_of (spots g))) (λ i. not (has_place g i)) seen.rig.cameras
    (λ i l. ap not (is_some-place_at (spots g) i (omega (arith, seen.fits.cameras_fit)))))
