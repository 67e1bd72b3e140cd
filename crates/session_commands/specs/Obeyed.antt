-- One command obeyed, by documents 01 and 02: the reply, and everything that then stands in the record, the buffer and both answers.
-- Rests on the commands of `Command` and what they do in `Commands`.
use Rattle.std.specs.Prelude.{ℕ, List, Float, None, Some, Err, Ok}
use Rattle.limits.specs.Limits.{max_views, max_cameras, first_needs, second_needs}
use Rattle.command.specs.Command.{Command, edit, solve}
use Rattle.session_record.specs.Session.{held_of}
use Rattle.session_commands.specs.Solve.{first_after_solve, second_after_solve}
use Rattle.session_commands.specs.Commands.{command_refusal, session_after, buffer_after}
use Rattle.session_record.specs.declared.Session.{Session}
use Rattle.session_commands.specs.Reply.{Reply}
use Rattle.session_commands.specs.declared.Done.TheVariants.{Accepted, Solved}

-- "two lent answers of at least 560 floats and 32 bytes"
abbrev pub first_length : ℕ
first_length = first_needs max_cameras max_views

abbrev pub second_length : ℕ
second_length = second_needs max_cameras

-- All that a call can change.
pub record State : Type 0 where
  pub session : Session
  pub buffer : List Float
  pub first : List Float
  pub second : List ℕ

abbrev pub state : Session → List Float → List Float → List ℕ → State
state s b f g = record { session = s; buffer = b; first = f; second = g }

-- The reply, what then holds, and where the next command begins.
pub record Result : Type 0 where
  pub reply : Reply
  pub after : State
  pub next : ℕ

abbrev pub result : Reply → State → ℕ → Result
result r t n = record { reply = r; after = t; next = n }

-- ---- a command obeyed

unfoldable pub reply_to : Command → Reply
reply_to (edit e) = Ok Accepted
reply_to solve = Ok Solved

-- Solve writes both answers; no other command does.
unfoldable pub first_after : State → Command → List Float
unfolding first_after_solve
first_after t (edit e) = t.first
first_after t solve = first_after_solve (held_of t.session) t.buffer t.first

unfoldable pub second_after : State → Command → List ℕ
unfolding second_after_solve
second_after t (edit e) = t.second
second_after t solve = second_after_solve (held_of t.session) t.buffer t.second

unfoldable pub state_after : State → Command → State
unfolding session_after buffer_after first_after second_after
state_after t command = state (session_after t.session command) (buffer_after t.buffer command) (first_after t command) (second_after t command)

-- "A refused command changes neither session nor buffer, and reading goes on at the next command".
unfoldable pub obeyed : State → Command → ℕ → Result
unfolding command_refusal state_after reply_to
obeyed t command next =
    elim (command_refusal (held_of t.session) t.buffer command) [ Some r ↦ result (Err r) t next | None ↦ result (reply_to command) (state_after t command) next ]
