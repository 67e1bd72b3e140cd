-- `command::write::put_pose` meets its contract. The loop's invariant: the numbers so far are put, one behind the other. Assumes nothing.
use lib.ListN.{take}
use Rattle.std.specs.List.{flat_map}
use Rattle.putting.specs.Putting.{Puts}
use Rattle.command.specs.Writing.{double_bytes}
use Rattle.command.proofs.write.put_pose.Given as goal

abbrev pub invariant-loop-number : goal.invariant-loop-number
invariant-loop-number l = Puts l.initial.writer (flat_map double_bytes (take l.number-index l.number-items)) l.writer
