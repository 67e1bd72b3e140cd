-- `root::root_bits` meets its contract, at a subnormal and at any other pattern. Assumes nothing.
use Rattle.root.proofs.Bits.{root_subnormal, root_normal}
use Rattle.root.proofs.root_bits.Goals as goal

pub returns-then-field-eq0 : goal.returns-then-field-eq0
returns-then-field-eq0 c = let b = c.args.bits in root_subnormal b c.halved.result c.requires.0 c.requires.1 c.if-field-eq0.true c.halved.ensures

pub returns-else-field-eq0 : goal.returns-else-field-eq0
returns-else-field-eq0 c = let b = c.args.bits in root_normal b c.halved-else-field-eq0.result c.requires.1 c.if-field-eq0.false c.halved-else-field-eq0.ensures
