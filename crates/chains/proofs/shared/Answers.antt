-- `shared` meets its contract: the ones of both masks are the views of both. Assumes nothing.
use native.Mathlib.Omega.{arith}
use mathlib.Core.Path.{sym}
use Rattle.chains.proofs.Bits.{views_of_both-ones}
use Rattle.chains.proofs.shared.Goals as goal

pub returns : goal.returns
returns c = sym (views_of_both-ones c.args.a c.args.b (omega arith))
