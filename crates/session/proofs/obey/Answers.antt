-- `obey` meets its contract: the summary is put back behind what the command at the offset left. Assumes nothing.
use native.Mathlib.Omega.{arith}
use Rattle.inputs.specs.Inputs.{checked_of}
use Rattle.session.proofs.Calling.{called, call_is}
use Rattle.session.proofs.obey.Goals as goal

pub returns-clause-called : goal.returns-clause-called
unfolding checked_of
returns-clause-called c = called _ _ _ _ _ _ _ (grind (arith, call_is))
