-- `put_commands` meets its contract. The loop's invariant: the commands of the frames passed are put, one behind the other. Assumes nothing.
use Prim.Native.Nat.{◌*◌}
use mathlib.Core.Path.{◌≡◌}
use Rattle.lists.specs.Lists.{gather}
use Rattle.putting.specs.Putting.{Puts}
use Rattle.command.specs.Command.{pose_width}
use Rattle.command.specs.Writing.{bytes_of}
use Rattle.telemetry.specs.Frames.{frame_bytes, packed_command}
use Rattle.telemetry.proofs.put_commands.Given as goal

abbrev pub invariant-loop-frame : goal.invariant-loop-frame
invariant-loop-frame l =
    (l.writer.used ≡ pose_width * l.frame-index)
    × Puts l.initial.writer (gather l.frame-index (λ k. bytes_of (packed_command l.fn.frames (frame_bytes * k)))) l.writer
