-- `shared_count` meets its contract: a mask without views shares none, and the count fits a byte. Assumes nothing.
use native.Mathlib.Omega.{arith}
use lib.ListN.{get_or}
use mathlib.Core.Path.{sym}
use Rattle.chains.specs.Masks.{shared_by}
use Rattle.chains.proofs.Bits.{views_of_both-le}
use Rattle.shared_counts.proofs.SharedViews.{shared_by-none}
use Rattle.shared_counts.proofs.shared_count.Goals as goal

pub overflow_cast-result : goal.overflow_cast-result
overflow_cast-result c =
    let masks = c.args.masks.now in
    record { fits = omega (arith, c.shared.ensures, views_of_both-le (get_or masks c.args.camera 0) (get_or masks c.args.other 0)) }

pub returns-then-mask-eq0 : goal.returns-then-mask-eq0
returns-then-mask-eq0 c = sym (shared_by-none c.args.masks.now c.args.camera c.args.other c.if-mask-eq0.true)

pub returns-else-mask-eq0 : goal.returns-else-mask-eq0
unfolding shared_by
returns-else-mask-eq0 c = c.shared.ensures
