-- `listing::text::put_pose` meets its contract: seven fields take what is asked for, and the line's end is put behind them. Assumes nothing.
use native.Mathlib.Omega.{arith}
use mathlib.Core.Path.{◌≡◌}
use lib.Ieee.{Float}
use lib.ListN.{length-take}
use Rattle.arithmetic.specs.Pose.{flat}
use Rattle.putting.proofs.Putting.{puts_then, puts_length}
use Rattle.listing.proofs.Fields.{length_float_fields, puts_next_float, fields_text-floats}
use Rattle.listing.proofs.text.put_pose.Goals as goal

pub put_float-requires : goal.put_float-requires
put_float-requires c = omega (arith, puts_length, length_float_fields, length-take {A = Float})

pub loop-number-preserved : goal.loop-number-preserved
loop-number-preserved c = puts_next_float c.from-number-items.result c.loop-number.number-index (omega arith) c.loop-number.invariant c.put_float.ensures

pub put_byte-requires : goal.put_byte-requires
put_byte-requires c = omega (arith, puts_length, length_float_fields, length-take {A = Float})

pub returns : goal.returns
returns c =
    let all : c.loop-number.number-index ≡ 7 = omega arith in
    rw (fields_text-floats (flat c.args.pose)) (puts_then (rw (all, c.from-number-items.ensures) at c.loop-number.invariant) c.put_byte.ensures)
