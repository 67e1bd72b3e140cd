-- `command::write::put_pose_command` meets its contract: three bytes and a pose, one behind the other. Assumes nothing.
use Rattle.putting.proofs.Putting.{puts_then}
use Rattle.command.specs.Writing.{bytes_of}
use Rattle.command.proofs.write.put_pose_command.Goals as goal

pub returns : goal.returns
unfolding bytes_of
returns c = puts_then (rw c.from.ensures at c.put_bytes.ensures) c.put_pose.ensures
