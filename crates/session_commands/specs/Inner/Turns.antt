-- What the functions of the code promise each other, beside the definitions of `Obeyed`. Assumes nothing.
use Rattle.std.specs.Prelude.{ℕ, List, Float, Ok, Err}
use Rattle.session_commands.specs.Obeyed.{Result, result, state}
use Rattle.session_commands.specs.Reply.{Reply, Edited}
use Rattle.session_commands.specs.declared.Done.TheVariants.{Accepted}
use Rattle.session_record.specs.Session.{session_of}
use Rattle.session_record.specs.declared.Held.{Held}

-- What is held after a command, with the reply and the offset of the next one.
pub record Turned : Type 0 where
  pub held : Held
  pub reply : Reply
  pub next : ℕ

abbrev pub turn : Held → Reply → ℕ → Turned
turn h reply next = record { held = h; reply = reply; next = next }

-- A command that edits what is held, by what is held after it.
abbrev pub edit_turn : Held → Edited → ℕ → Turned
edit_turn h (Ok tt) next = turn h (Ok Accepted) next
edit_turn h (Err r) next = turn h (Err r) next

-- What a command hands on, with the summary and what then stands in the memory lent to it, as one result.
abbrev pub turn_result : Turned → List ℕ → List Float → List Float → List ℕ → Result
turn_result t shared buffer first second = result t.reply (state (session_of t.held shared) buffer first second) t.next
