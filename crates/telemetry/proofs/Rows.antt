-- The rows of `Rows` hold, by computing with the definitions. Assumes nothing.
use mathlib.Core.Path.{◌≡◌, refl}
use lib.Ieee.{to_bits, round}
use Rattle.lists.specs.Lists.{gather}
use Rattle.refusal.specs.Table.{refuse_if, or_else, first_of}
use Rattle.command.specs.Writing.{low_bytes, double_bytes, pose_bytes_of, bytes_of}
use Rattle.telemetry.specs.Quotient.{count_of, quotient}
use Rattle.telemetry.specs.Frames.{metres_at, rotation_at, packed_pose, packed_command, command_bytes, frames_refusal, imported_by, left_by, imported_of, import_leaves}
use Rattle.telemetry.specs.Rows.{all_computed, all_said, rows}

pub rows_compute : all_computed rows ≡ all_said rows
unfolding rows all_computed all_said metres_at rotation_at count_of quotient to_bits frames_refusal first_of refuse_if or_else command_bytes gather packed_command packed_pose bytes_of pose_bytes_of double_bytes low_bytes imported_by left_by imported_of import_leaves round
rows_compute = refl
