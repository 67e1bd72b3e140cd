-- `command::write::put_pose` meets its contract: a finite number has bits of its own, and those of the seven, one behind the other, are the pose's. Assumes nothing.
use native.Mathlib.Omega.{arith}
use mathlib.Core.Path.{◌≡◌, sym, subst}
use mathlib.Core.Bool.{true}
use mathlib.Core.List.{List}
use lib.ListN.{get_or}
use lib.Ieee.{Float, nan}
use lib.Ieee.Scale.{finite}
use Rattle.command.proofs.LowBytes.{puts_next_double, pose_bytes_of-flat}
use Rattle.command.proofs.OfferedPoses.{finite_number, finite_not-nan}
use Rattle.command.proofs.write.put_pose.Goals as goal

pub to_le_bytes-requires : goal.to_le_bytes-requires
to_le_bytes-requires c =
    let number = c.loop-number.number-index in
    finite_not-nan _
    (subst (λ (l : List Float). finite (get_or l number nan) ≡ true) (sym c.from-number-items.ensures) (finite_number c.args.pose c.requires.1 number (omega arith)))

pub loop-number-preserved : goal.loop-number-preserved
loop-number-preserved c =
    puts_next_double c.from-number-items.result c.loop-number.number-index (omega arith) c.loop-number.invariant c.to_le_bytes.ensures c.put_bytes.ensures

pub returns : goal.returns
returns c =
    let all : c.loop-number.number-index ≡ 7 = omega arith in
    rw (pose_bytes_of-flat c.args.pose) (rw (all, c.from-number-items.ensures) at c.loop-number.invariant)
