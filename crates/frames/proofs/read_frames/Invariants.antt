-- What is kept stands for what was read, for more bytes too, and leaves room. Assumes nothing.
use Rattle.std.proofs.Common.{◌+◌, ◌*◌, ◌<◌}
use Rattle.telemetry.specs.Frames.{frame_bytes, max_bytes}
use Rattle.frames.proofs.Turning.{Kept}
use Rattle.frames.proofs.read_frames.Given as goal

abbrev pub invariant-loop : goal.invariant-loop
invariant-loop g l =
    (l.kept < max_bytes + 2 * frame_bytes)
    × Kept (g.I.Read.remaining l.initial.input) (g.I.Read.remaining l.input) l.kept l.memory
