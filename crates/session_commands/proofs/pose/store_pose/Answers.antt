-- `store_pose` meets its contract: a pose written to the front of the part that begins at the cell. Assumes nothing.
use Prim.Native.Nat.{◌+◌, ◌*◌}
use native.Mathlib.Omega.{arith}
use Rattle.arithmetic.specs.Pose.{flat}
use Rattle.placing.proofs.Filling.{put_tail}
use Rattle.session_commands.specs.Pose.{buffer_after_pose}
use Rattle.session_commands.proofs.pose.store_pose.Goals as goal

pub returns : goal.returns
unfolding buffer_after_pose
returns c =
    let a = c.args in
    rw (← c.from.ensures, ← c.from-2.ensures) (put_tail a.buffer.now _ (flat a.pose) (7 * (c.from.result * 16 + c.from-2.result)) 7 (omega arith) c.write.ensures)
