-- `count_view` meets its contract. The loop's invariant: the view is counted with each camera before `other`. Assumes nothing.
use native.Mathlib.Omega.{arith}
use Rattle.shared_counts.proofs.CountedViews.{counted_more}
use Rattle.shared_counts.proofs.count_view.Goals as goal

pub loop-other-preserved : goal.loop-other-preserved
loop-other-preserved c = counted_more _ _ _ _ _ _ _ _ (omega (arith, c.from-camera.ensures, c.args.cell.inside.1)) (omega arith) c.loop-other.invariant c.recount-count.ensures
