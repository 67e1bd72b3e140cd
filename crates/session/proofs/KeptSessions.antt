-- A call that is not answered with Accepted leaves the session as it was (`call_keeps_session`): of all commands only an edit changes it, and an
-- edit that is obeyed is accepted. Assumes nothing.
use Prim.Native.Nat.{ℕ, ◌+◌}
use mathlib.Core.Path.{◌≡◌, refl}
use Rattle.std.specs.Prelude.{Ok}
use mathlib.Core.List.{List}
use Rattle.command.specs.Command.{Command, edit, solve, Parsed, complete, broken, unknown, parse}
use Rattle.session_commands.specs.Commands.{session_after}
use Rattle.session_commands.specs.Obeyed.{State, Result, reply_to, state_after, obeyed}
use Rattle.session.specs.Call.{read, call}
use Rattle.session_commands.proofs.Obeying.{obeyed_cases}
use Rattle.session.proofs.Calling.{call_cases}
use Rattle.session_commands.specs.declared.Done.TheVariants.{Accepted}

module _ (t : State) where
  abbrev KeptUnlessAccepted : Result → Type 0
  KeptUnlessAccepted r = (r.reply ≡ Ok Accepted → ⊥) → r.after.session ≡ t.session

  kept_by : (command : Command) → (reply_to command ≡ Ok Accepted → ⊥) → (state_after t command).session ≡ t.session
  unfolding reply_to state_after session_after
  kept_by (edit change) h = absurd (h refl)
  kept_by solve h = refl

  obeyed_keeps : (command : Command) (next : ℕ) → KeptUnlessAccepted (obeyed t command next)
  obeyed_keeps command next = obeyed_cases t command next KeptUnlessAccepted (λ _ _ _. refl) (λ _. kept_by command)

  read_keeps : (stream : List ℕ) (at : ℕ) (p : Parsed) → KeptUnlessAccepted (read t stream at p)
  unfolding read
  read_keeps stream at (complete command width) = obeyed_keeps command (at + width)
  read_keeps stream at broken = λ h. refl
  read_keeps stream at (unknown byte) = λ h. refl

pub call_keeps_session : (t : State) (stream : List ℕ) (at : ℕ) → ((call t stream at).reply ≡ Ok Accepted → ⊥) → (call t stream at).after.session ≡ t.session
call_keeps_session t stream at =
    call_cases t stream at (KeptUnlessAccepted t) (λ _ _ _. refl) (λ _ _ _. refl) (λ _ _. read_keeps t stream at (parse stream at))
