-- The grid that the Rust function would be handed for a session: what "masks and buffer hold", view by view and camera by camera.
-- Rests on the record of `Session`.
use Rattle.std.specs.Prelude.{ℕ, ◌+◌, ◌*◌, cond, List, get_or, Float}
use Rattle.std.specs.Prelude.{Option, None, Some}
use Rattle.arithmetic.specs.Pose.{pose_at}
use Rattle.arithmetic.specs.declared.pose.Pose.{Pose}
use Rattle.lists.specs.Masks.{in_mask}
use Rattle.lists.specs.Lists.{tabulate}
use Rattle.session_record.specs.declared.Session.{Session}

-- "bit v is set when view v holds a pose of that camera", and its seven floats stand "from 7 × (view × 16 + camera)".
unfoldable pub rust_cell_of : Session → List Float → ℕ → ℕ → Option Pose
rust_cell_of s buffer v c = cond (in_mask (get_or s.masks c 0) v) (Some (pose_at buffer (7 * (v * 16 + c)))) None

unfoldable pub rust_view_of : Session → List Float → ℕ → List (Option Pose)
rust_view_of s buffer v = tabulate s.cameras (rust_cell_of s buffer v)

unfoldable pub rust_grid_of : Session → List Float → List (List (Option Pose))
rust_grid_of s buffer = tabulate s.views (rust_view_of s buffer)
