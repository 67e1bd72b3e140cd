-- Checks that find nothing, and when a session accepts Solve, as plain facts; when it accepts an edit is told where its law is, in `Edits`. Assumes nothing.
use Prim.Native.Nat.{◌<◌}
use native.Mathlib.Omega.{arith}
use mathlib.Core.Path.{◌≡◌, refl, sym, ◌∙◌}
use mathlib.Core.Bool.{Bool, false, not}
use Rattle.std.specs.Prelude.{Option, None}
use mathlib.Core.List.{List, [], ◌∷◌}
use lib.Ieee.{Float}
use borrow.Author.Tests.{eqb-false, not-true, not-false}
use Rattle.refusal.specs.Table.{refuse_if, first_of}
use Rattle.refusal.specs.declared.Refusal.{Refusal}
use Rattle.refusal.specs.declared.Refusal.TheVariants.{NoSize}
use Rattle.extrinsics.specs.Outcome.{grid_refusal}
use Rattle.inputs.proofs.Answering.{refuse_if-none, AllNone, first_of_none_all}
use Rattle.command.specs.Command.{solve}
use Rattle.session_record.specs.Session.{held_of, has_size, session_grid}
use Rattle.session_commands.specs.Commands.{command_refusal}
use Rattle.session_record.specs.declared.Session.{Session}

-- ---- checks that pass

pub refuse_if_false : (b : Bool) (r : Refusal) → b ≡ false → refuse_if b r ≡ None
unfolding refuse_if
refuse_if_false b r e = rw e

pub first_of_all_none : (checks : List (Option Refusal)) → AllNone checks → first_of checks ≡ None
unfolding first_of
first_of_all_none [] h = refl
first_of_all_none (check ∷ later) (e, h) = rw e (first_of_all_none later h)

-- ---- Solve

module _ (s : Session) (buffer : List Float) where
  pub solve_checks : command_refusal (held_of s) buffer solve ≡ first_of (refuse_if (not (has_size (held_of s))) NoSize ∷ grid_refusal (session_grid (held_of s) buffer) ∷ [])
  unfolding command_refusal
  solve_checks = refl

  pub solve-accepted : command_refusal (held_of s) buffer solve ≡ None → (0 < s.views) × (grid_refusal (session_grid (held_of s) buffer) ≡ None)
  solve-accepted e =
      let (no_size, (refusal, _)) = first_of_none_all _ (sym solve_checks ∙ e) in
      let different = eqb-false s.views 0 (not-true _ (not-false _ (refuse_if-none _ _ no_size))) in
      (omega arith, refusal)
