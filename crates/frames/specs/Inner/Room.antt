-- How many bytes are lent for an input, and how many of commands for so many bytes of frames. Rests on the limits of `telemetry`.
use Rattle.std.specs.Prelude.{ℕ, ◌*◌, ◌/◌, cond, ltb}
use Rattle.command.specs.Command.{pose_width}
use Rattle.telemetry.specs.Frames.{frame_bytes, max_frames}

abbrev pub input_bytes : ℕ
input_bytes = 65536

abbrev pub max_commands : ℕ
max_commands = pose_width * max_frames

-- None where there are too many frames, since these are refused by their length alone.
abbrev pub room_for : ℕ → ℕ
room_for bytes = cond (ltb max_frames (bytes / frame_bytes)) 0 (pose_width * (bytes / frame_bytes))
