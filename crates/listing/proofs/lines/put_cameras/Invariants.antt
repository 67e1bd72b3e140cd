-- `listing::lines::put_cameras` meets its contract. The loop's invariant: the lines of the cameras passed are put, one behind the other. Assumes nothing.
use Prim.Native.Nat.{◌+◌, ◌*◌, ◌≤◌}
use Rattle.limits.specs.Limits.{pose_floats}
use Rattle.lists.specs.Lists.{gather}
use Rattle.putting.specs.Putting.{Puts}
use Rattle.listing.specs.Listing.{pose_fields, camera_line_at}
use Rattle.listing.specs.Widths.{camera_bytes}
use Rattle.listing.proofs.lines.put_cameras.Given as goal

abbrev pub invariant-loop-camera : goal.invariant-loop-camera
invariant-loop-camera l =
    record {
      upper_bound : l.writer.used ≤ l.initial.writer.used + camera_bytes pose_floats * l.camera;
      put : Puts l.initial.writer (gather l.camera (camera_line_at pose_fields l.answers.transforms.now l.answers.chains.now)) l.writer;
    }
