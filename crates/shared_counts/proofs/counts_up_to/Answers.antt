-- `counts_up_to` meets its contract. The loop's invariant: `wrong` is 0 exactly where the entries with cameras before `other` are true. Assumes nothing.
use native.Mathlib.Omega.{arith}
use mathlib.Core.Path.{refl}
use Rattle.lists.specs.Finding.{all_below}
use Rattle.chains.specs.Masks.{shared_by}
use Rattle.shared_counts.specs.Inner.Counts.{true_entries}
use Rattle.lists.proofs.AllBelow.{all_below-one_more}
use Rattle.shared_counts.proofs.ZeroTests.{or-zero, xor-zero}
use Rattle.shared_counts.proofs.counts_up_to.Goals as goal

pub loop-other-init : goal.loop-other-init
unfolding all_below
loop-other-init c = refl

pub loop-other-preserved : goal.loop-other-preserved
unfolding true_entries shared_by
loop-other-preserved c = grind (arith, all_below-one_more, or-zero, xor-zero)

pub returns : goal.returns
unfolding true_entries shared_by
returns c = grind (arith, all_below-one_more, or-zero, xor-zero)
