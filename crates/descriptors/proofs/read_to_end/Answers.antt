-- A read fills the memory behind what was read before, and a call that is made again leaves that. Assumes nothing.
use Rattle.std.proofs.Common.{arith, rules}
use Rattle.std.proofs.KnownBytes.{Consumes-trans, Consumes-kept}
use Rattle.std.proofs.lemmas.Slice.{take-put_mid_below}
use Rattle.descriptors.proofs.Front.{take-put_mid_within}
use Rattle.descriptors.proofs.read_to_end.Goals as goal

pub loop-preserved : goal.loop-preserved
loop-preserved g c = (search rules, grind (arith, take-put_mid_within, take-put_mid_below, Consumes-trans, Consumes-kept))
