-- Solve: 21 refuses it where there are no sizes, and a session with sizes is a rig that fits. Assumes nothing.
use native.Mathlib.Omega.{arith}
use mathlib.Core.Path.{◌≡◌}
use Rattle.std.specs.Prelude.{Some}
use mathlib.Core.List.{List}
use mathlib.Core.Bool.{true}
use lib.ListN.{length}
use lib.Ieee.{Float}
use borrow.Author.Tests.{eq-eqb}
use Rattle.refusal.specs.Table.{refuse_if, or_else, first_of}
use Rattle.refusal.specs.declared.Refusal.TheVariants.{NoSize}
use Rattle.placing.specs.Inner.Fitting.{Fitting}
use Rattle.command.specs.Command.{solve}
use Rattle.session_record.specs.Session.{buffer_length, rig_of, possible_held}
use Rattle.session_commands.specs.Commands.{command_refusal}
use Rattle.session_record.specs.declared.Held.{Held}
use Rattle.session_record.proofs.PossibleRecords.{possible-within, possible_mask}

pub solve_without_size : (s : Held) (buffer : List Float) → s.views ≡ 0 → command_refusal s buffer solve ≡ Some NoSize
unfolding command_refusal refuse_if or_else first_of
solve_without_size s buffer h = simp (eq-eqb s.views 0 h)

pub session_fits : (s : Held) (buffer : List Float) → possible_held s ≡ true → (s.views ≡ 0 → ⊥) → length buffer ≡ buffer_length → Fitting (rig_of s) buffer
session_fits s buffer h sized e =
    let within = possible-within s h sized in
    record {
      views_fit = within.views_fit;
      cameras_fit = within.cameras_fit;
      reference_inside = within.reference_inside;
      stride_covers = within.cameras_fit;
      stride_fits = omega arith;
      floats_fit = omega arith;
      masks_fit = possible_mask s h sized;
    }
