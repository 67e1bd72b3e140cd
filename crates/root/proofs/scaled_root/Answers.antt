-- `root::scaled_root` meets its contract: the loop keeps `Scaled`, and what it leaves has a root whose digits `nearest_root` gives. The measure is the exponent. Assumes nothing.
use mathlib.Core.Path.{sym, ap, ◌∙◌}
use native.Mathlib.Omega.{arith}
use Rattle.root.specs.Inner.Steps.{pattern}
use Rattle.root.proofs.Scale.{scaled_more, pattern_scaled}
use Rattle.root.proofs.scaled_root.Goals as goal

pub loop-n-preserved : goal.loop-n-preserved
loop-n-preserved c =
    let l = c.loop-n in
    scaled_more c.args.m c.args.b l.n l.c l.invariant (omega arith) (omega arith)

pub returns : goal.returns
returns c =
    let a = c.args in
    let l = c.loop-n in
    sym (ap pattern (sym l.invariant.same) ∙ pattern_scaled l.n l.c c.nearest_root.result (omega arith) (omega arith) (omega arith) c.nearest_root.ensures)
