-- The product is that of the first i poses. Assumes nothing.
use Rattle.std.proofs.Common.{◌≡◌}
use Rattle.test_probe.proofs.Products.{product_to}
use Rattle.test_probe.proofs.poses.product_of.Given as goal

abbrev pub invariant-loop-i : goal.invariant-loop-i
invariant-loop-i l = l.product ≡ product_to l.i l.poses
