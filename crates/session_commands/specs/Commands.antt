-- All commands of a stream: what refuses one and what an accepted one leaves in the record and the buffer, the edits on one side and Solve on the other.
-- Rests on `Size`, `Pose`, `Withdraw` and `Solve`, one file a command.
use Rattle.std.specs.Prelude.{◌≡◌, List, Float, Option, None}
use Rattle.refusal.specs.declared.Refusal.{Refusal}
use Rattle.command.specs.Command.{Edit, size, place, withdraw, Command, edit, solve}
use Rattle.session_record.specs.Session.{fresh, held_of, summed}
use Rattle.session_commands.specs.Size.{size_command_refusal, held_after_size}
use Rattle.session_commands.specs.Pose.{pose_command_refusal, held_after_pose, buffer_after_pose}
use Rattle.session_commands.specs.Withdraw.{withdraw_command_refusal, held_after_withdraw}
use Rattle.session_commands.specs.Solve.{solve_command_refusal}
use Rattle.session_record.specs.declared.Session.{Session}
use Rattle.session_record.specs.declared.Held.{Held}

-- ---- the edits: none of them looks at the buffer, and an accepted one changes record and buffer alone

unfoldable pub edit_refusal : Held → Edit → Option Refusal
unfolding size_command_refusal pose_command_refusal withdraw_command_refusal
edit_refusal h (size views cameras reference) = size_command_refusal h views cameras reference
edit_refusal h (place view camera p) = pose_command_refusal h view camera p
edit_refusal h (withdraw view camera) = withdraw_command_refusal h view camera

unfoldable pub edit_held : Held → Edit → Held
unfolding held_after_size held_after_pose held_after_withdraw
edit_held h (size views cameras reference) = held_after_size h views cameras reference
edit_held h (place view camera p) = held_after_pose h view camera
edit_held h (withdraw view camera) = held_after_withdraw h view camera

unfoldable pub edit_buffer : List Float → Edit → List Float
unfolding buffer_after_pose
edit_buffer buffer (size views cameras reference) = buffer
edit_buffer buffer (place view camera p) = buffer_after_pose buffer view camera p
edit_buffer buffer (withdraw view camera) = buffer

-- ---- every command: Solve changes neither record nor buffer, and no command's refusal looks at the summary

unfoldable pub command_refusal : Held → List Float → Command → Option Refusal
unfolding edit_refusal solve_command_refusal
command_refusal h buffer (edit e) = edit_refusal h e
command_refusal h buffer solve = solve_command_refusal h buffer

-- "Every accepted command keeps each entry equal to the count over the held poses."
unfoldable pub edit_session : Session → Edit → Session
unfolding edit_held
edit_session s e = summed (edit_held (held_of s) e)

unfoldable pub session_after : Session → Command → Session
unfolding edit_session
session_after s (edit e) = edit_session s e
session_after s solve = s

unfoldable pub buffer_after : List Float → Command → List Float
unfolding edit_buffer
buffer_after buffer (edit e) = edit_buffer buffer e
buffer_after buffer solve = buffer

-- ---- which records accepted commands leave, by the commands themselves

-- A fresh session, and what an accepted command leaves of such a record, whatever the buffer then held.
pub data Left : Session → Type 0 where
  left-fresh : Left fresh
  left_after : {s : Session} (buffer : List Float) (command : Command) → Left s → command_refusal (held_of s) buffer command ≡ None → Left (session_after s command)
