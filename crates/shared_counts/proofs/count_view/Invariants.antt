-- `count_view` meets its contract. The loop's invariant: the view is counted with each camera before `other`. Assumes nothing.
use Rattle.shared_counts.specs.Inner.Counts.{Counted}
use Rattle.shared_counts.proofs.count_view.Given as goal

abbrev pub invariant-loop-other : goal.invariant-loop-other
invariant-loop-other l = Counted l.masks l.initial.shared l.camera l.cell.view l.by l.other l.shared
