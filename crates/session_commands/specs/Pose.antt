-- The command Pose, by document 01: what refuses it, in order, and the record and the buffer that it leaves. Rests on the poses of `arithmetic` and the
-- masks of `lists`, and on the checks of `Cell`.
use Rattle.std.specs.Prelude.{ℕ, ◌+◌, ◌*◌, ◌^◌, not, List, [], ◌∷◌, ◌++◌, get_or, set, take, drop, Float, Option}
use Rattle.arithmetic.specs.Pose.{finite_pose, flat}
use Rattle.arithmetic.specs.declared.pose.Pose.{Pose}
use Rattle.refusal.specs.Table.{refuse_if, first_of}
use Rattle.refusal.specs.declared.Refusal.{Refusal}
use Rattle.refusal.specs.declared.Refusal.TheVariants.{HeldAlready, NotFinite}
use Rattle.lists.specs.Masks.{in_mask}
use Rattle.session_record.specs.Session.{named_cell, cell_start, with_masks}
use Rattle.session_record.specs.declared.Held.{Held}
use Rattle.session_commands.specs.Cell.{cell_checks}

-- 21: "Pose or Solve before an accepted Size". "Pose checks 12, 23, 7".
unfoldable pub pose_command_refusal : Held → ℕ → ℕ → Pose → Option Refusal
unfolding refuse_if first_of in_mask finite_pose
pose_command_refusal h view camera p =
    first_of
    (cell_checks h view camera
    ++ (refuse_if (in_mask (get_or h.masks camera 0) view) (HeldAlready (named_cell view camera))
    ∷ refuse_if (not (finite_pose p)) (NotFinite (view * h.cameras + camera))
    ∷ []))

-- "bit v is set when view v holds a pose of that camera": the bit was clear, so that setting it adds its power of two.
unfoldable pub held_after_pose : Held → ℕ → ℕ → Held
held_after_pose h view camera = with_masks h (set h.masks camera (get_or h.masks camera 0 + 2 ^ view))

-- "an accepted Pose writes those seven only"
unfoldable pub buffer_after_pose : List Float → ℕ → ℕ → Pose → List Float
buffer_after_pose buffer v c p = take (cell_start v c) buffer ++ (flat p ++ drop (cell_start v c + 7) buffer)
