-- A call that answers Solved has passed its checks, and so a rig within the limits and both its answers stand after it (`call_solved`).
-- Assumes nothing.
use Prim.Native.Nat.{ℕ, ◌+◌, ◌≤◌}
use native.Mathlib.Omega.{arith}
use mathlib.Core.Path.{◌≡◌, sym, subst, ◌∙◌}
use Rattle.std.specs.Prelude.{Option, None, Some, Err, Ok}
use mathlib.Core.List.{List}
use lib.ListN.{length, length-append, length-drop}
use Rattle.refusal.specs.declared.Refusal.{Refusal}
use Rattle.refusal.specs.declared.Refusal.TheVariants.{NoSize}
use Rattle.limits.specs.Limits.{max_views, max_cameras}
use Rattle.placing.specs.Estimate.{transforms, chains}
use Rattle.extrinsics.specs.Outcome.{answered}
use Rattle.command.specs.Command.{Command, edit, solve, Parsed, complete, broken, unknown, parse}
use Rattle.session_record.specs.Session.{held_of, session_grid}
use Rattle.session_commands.specs.Commands.{command_refusal, session_after}
use Rattle.session_commands.specs.Obeyed.{first_length, second_length, State, Result, reply_to, first_after, second_after, state_after, obeyed}
use Rattle.session.specs.Call.{read, call}
use Rattle.session_commands.specs.Reply.{Reply}
use Rattle.session_commands.proofs.Obeying.{obeyed_cases}
use Rattle.session.proofs.Calling.{call_cases}
use Rattle.session.proofs.PassedCalls.{Ready, call_passed}
use Rattle.session_record.proofs.PossibleRecords.{possible-within, possible-held}
use Rattle.session_commands.proofs.SolveCommands.{solve_without_size}
use Rattle.session_commands.specs.declared.Done.TheVariants.{Accepted, End, Solved}

pub record HoldsRig (t : State) : Type 0 where
  pub views_fit : t.session.views ≤ max_views
  pub cameras_fit : t.session.cameras ≤ max_cameras
  pub first_fits : first_length ≤ length t.first
  pub second_fits : second_length ≤ length t.second

-- An answer written over the front of a list makes it no shorter.
answered_covers {ℓ} : {A : Type ℓ} (n : ℕ) (new old : List A) → n ≤ length old → n ≤ length (answered None new old)
unfolding answered
answered_covers n new old h = simp (length-append, length-drop) (omega arith)

-- Of a reply Solved, that fact; of any other, nothing.
abbrev IfSolved : Reply → Type 0 → Type 0
IfSolved (Ok End) fact = Unit {0}
IfSolved (Ok Accepted) fact = Unit {0}
IfSolved (Ok Solved) fact = fact
IfSolved (Err r) fact = Unit {0}

abbrev HeldIfSolved : Result → Type 0
HeldIfSolved r = IfSolved r.reply (HoldsRig r.after)

module _ (t : State) (stream : List ℕ) (at : ℕ) (ready : Ready t stream at) where
  some_views : command_refusal (held_of t.session) t.buffer solve ≡ None → t.session.views ≡ 0 → ⊥
  some_views e h = let clash : ◌≡◌ {A = Option Refusal} None (Some NoSize) = sym e ∙ solve_without_size (held_of t.session) t.buffer h in cc

  accepted-held : (command : Command) → command_refusal (held_of t.session) t.buffer command ≡ None
      → IfSolved (reply_to command) (HoldsRig (state_after t command))
  unfolding reply_to state_after session_after first_after second_after
  accepted-held (edit change) e = tt
  accepted-held solve e =
      let within = possible-within (held_of t.session) (possible-held t.session ready.record_possible) (some_views e) in
      record {
        views_fit = within.views_fit;
        cameras_fit = within.cameras_fit;
        first_fits = answered_covers first_length (transforms (session_grid (held_of t.session) t.buffer)) t.first ready.first_fits;
        second_fits = answered_covers second_length (chains (session_grid (held_of t.session) t.buffer)) t.second ready.second_fits;
      }

  obeyed-held : (command : Command) (next : ℕ) → HeldIfSolved (obeyed t command next)
  obeyed-held command next = obeyed_cases t command next HeldIfSolved (λ _ _. tt) (accepted-held command)

  read_held : (p : Parsed) → HeldIfSolved (read t stream at p)
  unfolding read
  read_held (complete command width) = obeyed-held command (at + width)
  read_held broken = tt
  read_held (unknown byte) = tt

call-held : (t : State) (stream : List ℕ) (at : ℕ) → HeldIfSolved (call t stream at)
call-held t stream at =
    call_cases t stream at HeldIfSolved (λ _ _. tt) (λ _ _. tt) (λ e _. read_held t stream at (call_passed t stream at e) (parse stream at))

pub call_solved : (t : State) (stream : List ℕ) (at : ℕ) → (call t stream at).reply ≡ Ok Solved → HoldsRig (call t stream at).after
call_solved t stream at e = subst (λ r. IfSolved r (HoldsRig (call t stream at).after)) e (call-held t stream at)
