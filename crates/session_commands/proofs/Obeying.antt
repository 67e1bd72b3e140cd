-- What one command comes to, by what refuses it, and what holds of it in both cases (`obeyed_cases`). Assumes nothing.
use Prim.Native.Nat.{ℕ}
use mathlib.Core.Path.{◌≡◌, refl}
use Rattle.std.specs.Prelude.{Option, None, Some, Err}
use Rattle.refusal.specs.declared.Refusal.{Refusal}
use Rattle.command.specs.Command.{Command}
use Rattle.session_record.specs.Session.{held_of}
use Rattle.session_commands.specs.Commands.{command_refusal}
use Rattle.session_commands.specs.Obeyed.{State, Result, result, reply_to, state_after, obeyed}

module _ (t : State) (command : Command) (next : ℕ) where
  pub obeyed-refused : (r : Refusal) → command_refusal (held_of t.session) t.buffer command ≡ Some r → obeyed t command next ≡ result (Err r) t next
  unfolding obeyed
  obeyed-refused r e = rw (e, obeyed)

  pub obeyed-accepted : command_refusal (held_of t.session) t.buffer command ≡ None → obeyed t command next ≡ result (reply_to command) (state_after t command) next
  unfolding obeyed
  obeyed-accepted e = rw (e, obeyed)

  -- What holds of a refusal and of an acceptance holds of what the command comes to.
  pub obeyed_cases : (P : Result → Type 0)
      → ((r : Refusal) → command_refusal (held_of t.session) t.buffer command ≡ Some r → P (result (Err r) t next))
      → (command_refusal (held_of t.session) t.buffer command ≡ None → P (result (reply_to command) (state_after t command) next))
      → P (obeyed t command next)
  obeyed_cases P refused accepted = go (command_refusal (held_of t.session) t.buffer command) refl
    where
      go : (o : Option Refusal) → command_refusal (held_of t.session) t.buffer command ≡ o → P (obeyed t command next)
      go (Some r) e = rw (obeyed-refused r e) (refused r e)
      go None e = rw (obeyed-accepted e) (accepted e)
