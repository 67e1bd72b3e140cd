-- `listing::lines::put_cameras` meets its contract: there is room for as many lines as are left, and a line more is put behind those before. Assumes nothing.
use native.Mathlib.Omega.{arith}
use Rattle.lists.specs.Lists.{gather}
use Rattle.listing.specs.Listing.{pose_fields, camera_line_at}
use Rattle.putting.proofs.Putting.{puts_nothing, puts_next, puts_length}
use Rattle.listing.proofs.lines.put_cameras.Goals as goal

pub loop-camera-init : goal.loop-camera-init
unfolding gather
loop-camera-init c = record { upper_bound = omega arith; put = puts_nothing c.args.writer.now }

pub put_camera-requires : goal.put_camera-requires
put_camera-requires c = omega (arith, puts_length)

pub loop-camera-preserved : goal.loop-camera-preserved
unfolding camera_line_at
loop-camera-preserved c =
    let l = c.loop-camera in
    let answers = c.args.answers.now in
    record {
      upper_bound = omega arith;
      put = puts_next (camera_line_at pose_fields answers.transforms.now answers.chains.now) l.camera l.invariant.put (rw (c.read-pose.ensures, c.from-c.ensures) at c.put_camera.ensures.put);
    }
