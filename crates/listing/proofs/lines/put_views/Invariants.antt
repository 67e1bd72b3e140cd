-- `listing::lines::put_views` meets its contract. The loop's invariant: the lines of the views passed are put, one behind the other. Assumes nothing.
use Prim.Native.Nat.{◌+◌, ◌*◌, ◌≤◌}
use Rattle.limits.specs.Limits.{pose_floats}
use Rattle.lists.specs.Lists.{gather}
use Rattle.putting.specs.Putting.{Puts}
use Rattle.listing.specs.Listing.{pose_fields, view_line_at}
use Rattle.listing.specs.Widths.{view_bytes}
use Rattle.listing.proofs.lines.put_views.Given as goal

abbrev pub invariant-loop-view : goal.invariant-loop-view
invariant-loop-view l =
    record {
      upper_bound : l.writer.used ≤ l.initial.writer.used + view_bytes pose_floats * l.view;
      put : Puts l.initial.writer (gather l.view (view_line_at pose_fields l.answers.transforms.now l.cameras)) l.writer;
    }
