-- `root::sqrt` meets its contract: each float comparison tells which clause of `root_of` holds, and a finite double above zero has a finite pattern above zero.
-- Assumes nothing.
use mathlib.Core.Path.{ap, ◌∙◌}
use native.Mathlib.Omega.{arith}
use lib.Ieee.{binary64}
use lib.Ieee.Bits.{of_bits-to_bits}
use Rattle.std.proofs.lemmas.Float.{T_from_true, not_nan_f64_bits}
use Rattle.root.specs.Root.{root_of}
use Rattle.root.proofs.Ends.{computed_root, own_root, infinite_root, root_below-zero, to_bits-pos, to_bits-finite}
use Rattle.root.proofs.sqrt.Goals as goal
use Rattle.root.proofs.sqrt.Goals.{else-x-2-via-then-x-2+else-x-3, else-x-2-via-else-x-2}

pub root_bits-requires : goal.root_bits-requires
root_bits-requires c =
    let f = T_from_true _ c.well_formed.0.1 in
    (to_bits-pos c.args.x f c.if-x-2.true, to_bits-finite c.args.x f c.if-x-2.true c.if-x-3.true)

pub float_from_bits-result : goal.float_from_bits-result
float_from_bits-result c = not_nan_f64_bits _ (omega arith)

pub returns-then-x : goal.returns-then-x
returns-then-x c = root_below-zero c.args.x c.if-x.true

pub returns-then-x-3 : goal.returns-then-x-3
returns-then-x-3 c =
    let f = T_from_true _ c.well_formed.0.1 in
    computed_root c.args.x _ f (c.root_bits.ensures.0 ∙ ap root_of (of_bits-to_bits binary64 c.args.x f))

pub returns-else-x-2 : goal.returns-else-x-2
returns-else-x-2 c =
    elim c.else-x-2.branch [
      | else-x-2-via-then-x-2+else-x-3 w ↦ infinite_root c.args.x w.if-x-2.true w.if-x-3.false
      | else-x-2-via-else-x-2 w ↦ own_root c.args.x w.if-x-2.false c.if-x.false
    ]
