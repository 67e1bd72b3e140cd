-- A write appends the next bytes, and a call that is made again none. Assumes nothing.
use Rattle.std.proofs.Common.{arith, rules}
use Rattle.std.proofs.KnownBytes.{Appends-trans, Appends-kept}
use Rattle.std.proofs.Math.Seq.{take-add}
use Rattle.std.proofs.lemmas.Slice.{between_to_end}
use Rattle.descriptors.proofs.write_whole.Goals as goal

pub loop-preserved : goal.loop-preserved
loop-preserved g c = (search rules, grind (arith, take-add, between_to_end, Appends-trans, Appends-kept))
