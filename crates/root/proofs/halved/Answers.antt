-- `root::halved` meets its contract: with the 2 that an odd exponent has over, the number is the same. Assumes nothing.
use mathlib.Core.Path.{ap, ◌∙◌}
use Rattle.root.specs.Inner.Steps.{pattern}
use Rattle.root.proofs.Scale.{halves}
use Rattle.root.proofs.halved.Goals as goal

pub returns : goal.returns
returns c = c.scaled_root.ensures ∙ ap pattern (halves c.args.m c.args.a).same
