-- `root_of_pattern` is safe: up to infinity's, patterns are no NaN's. Assumes nothing.
use mathlib.Core.Path.{sym, subst}
use mathlib.Core.Bool.{Bool, not}
use lib.Arith.{le→nltb}
use lib.Dec.{T}
use lib.Ieee.{binary64}
use lib.Ieee.Bits.{nan_bits_above}
use Rattle.test_replay.proofs.root_of_pattern.Goals as goal

pub float_from_bits-word : goal.float_from_bits-word
float_from_bits-word c = subst (λ (b : Bool). T (not b)) (sym (nan_bits_above binary64 c.args.word)) (le→nltb _ _ c.if-word-gt-INFINITY.false)
