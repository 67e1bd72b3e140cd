-- `product_of` meets its contract. Assumes nothing.
use Rattle.std.proofs.Common.{◌≡◌, ℕ, ◌/◌, length, ap, ◌∙◌, arith}
use Rattle.test_probe.specs.Poses.{poses_in, product_of}
use Rattle.test_probe.proofs.Products.{product_to, product_to_next}
use Rattle.test_probe.proofs.poses.product_of.Goals as goal

pub loop-i-init : goal.loop-i-init
unfolding poses_in
loop-i-init c = c.identity-product.ensures

pub loop-i-preserved : goal.loop-i-preserved
loop-i-preserved c = simp (c.mul-product.ensures, c.loop-i.invariant, c.read.ensures) (product_to_next c.loop-i.i c.args.poses.now)

pub returns : goal.returns
unfolding product_of
returns c =
    let poses = c.args.poses.now in
    let whole : c.loop-i.i ≡ length poses / 7 = omega arith in
    c.loop-i.invariant ∙ ap (λ (n : ℕ). product_to n poses) whole
