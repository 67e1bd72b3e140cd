-- `listing::lines::put_views` meets its contract: there is room for as many lines as are left, and a line more is put behind those before. Assumes nothing.
use native.Mathlib.Omega.{arith}
use Rattle.lists.specs.Lists.{gather}
use Rattle.listing.specs.Listing.{pose_fields, view_line_at}
use Rattle.putting.proofs.Putting.{puts_nothing, puts_next, puts_length}
use Rattle.listing.proofs.lines.put_views.Goals as goal

pub loop-view-init : goal.loop-view-init
unfolding gather
loop-view-init c = record { upper_bound = omega arith; put = puts_nothing c.args.writer.now }

pub put_view-requires : goal.put_view-requires
put_view-requires c = omega (arith, puts_length)

pub loop-view-preserved : goal.loop-view-preserved
unfolding view_line_at
loop-view-preserved c =
    let l = c.loop-view in
    record {
      upper_bound = omega arith;
      put = puts_next (view_line_at pose_fields c.args.answers.now.transforms.now c.args.cameras) l.view l.invariant.put (rw (c.read.ensures, c.from.ensures, c.from-in-loop-view.ensures) at c.put_view.ensures.put);
    }
