-- `counts_up_to` meets its contract. The loop's invariant: `wrong` is 0 exactly where the entries with cameras before `other` are true. Assumes nothing.
use mathlib.Core.Path.{◌≡◌}
use lib.Dec.{eqb}
use Rattle.lists.specs.Finding.{all_below}
use Rattle.shared_counts.specs.Inner.Counts.{true_entries}
use Rattle.shared_counts.proofs.counts_up_to.Given as goal

abbrev pub invariant-loop-other : goal.invariant-loop-other
invariant-loop-other l = eqb l.wrong 0 ≡ all_below (true_entries l.masks l.shared l.camera) l.other
