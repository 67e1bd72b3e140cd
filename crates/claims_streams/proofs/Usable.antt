-- States that pass the check for 5, and that every command leaves such a state: the record stays one that accepted commands could
-- leave, and the buffer and both answers keep their lengths.
-- Assumes nothing.
use Prim.Native.Nat.{◌+◌, ◌*◌, ◌≤◌}
use native.Mathlib.Omega.{arith}
use mathlib.Core.Path.{◌≡◌, refl, ◌∙◌}
use mathlib.Core.Bool.{false}
use Rattle.std.specs.Prelude.{Option, None, Some}
use mathlib.Core.List.{List, [], ◌∷◌}
use lib.ListN.{length, length-append, length-drop}
use borrow.Author.Tests.{eqb-true, ltb-false, not-false, eq-eqb, le-ltb}
use Rattle.arithmetic.specs.Pose.{flat}
use Rattle.refusal.specs.declared.Refusal.{Refusal}
use Rattle.limits.specs.Limits.{second_needs}
use Rattle.placing.specs.Grid.{Grid}
use Rattle.placing.specs.Estimate.{transforms, chains, rig_se3_cam, rig_se3_target}
use Rattle.extrinsics.specs.Outcome.{answered}
use Rattle.placing.specs.Rig.{rig_grid}
use Rattle.lists.proofs.Tests.{or-false}
use Rattle.lists.proofs.Blocks.{length-gather}
use Rattle.command.specs.Command.{Command, edit, solve}
use Rattle.session_record.specs.Session.{held_of, buffer_length, session_grid, possible}
use Rattle.session_commands.specs.Commands.{command_refusal, buffer_after}
use Rattle.session_commands.specs.Obeyed.{first_length, second_length, State, reply_to, first_after, second_after, state_after}
use Rattle.session.specs.Call.{unusable}
use Rattle.claims_streams.specs.Stream.{answer, answer_to, state_after_all, Usable}
use Rattle.claims_streams.proofs.Accepting.{solve-accepted}
use Rattle.claims_streams.proofs.Sound.{T_true, true_T, Sound, sound_of_possible, possible_of_sound, has_sizes}
use Rattle.claims_streams.proofs.Edits.All.{edit_law}
use Rattle.claims_streams.proofs.Records.{sound_after}
use Rattle.std.specs.Prelude.{Err}

pub usable_of_check : (t : State) → unusable t ≡ false → Usable t
usable_of_check t e =
    let (e₃, d) = or-false _ _ e in
    let (e₂, c) = or-false _ _ e₃ in
    let (a, b) = or-false _ _ e₂ in
    record {
      buffer_fits = eqb-true _ _ (not-false _ a);
      first_fits = ltb-false _ _ b;
      second_fits = ltb-false _ _ c;
      record_possible = true_T (possible t.session) (not-false (possible t.session) d);
    }

pub check_of_usable : (t : State) → Usable t → unusable t ≡ false
check_of_usable t u =
    rw (
      eq-eqb (length t.buffer) buffer_length u.buffer_fits,
      le-ltb (length t.first) first_length u.first_fits,
      le-ltb (length t.second) second_length u.second_fits,
      T_true (possible t.session) u.record_possible,
    )

-- ---- lengths

-- An answer written over the front of a list.
length-answered {ℓ} : {A : Type ℓ} (new old : List A) → length new ≤ length old → length (answered None new old) ≡ length old
unfolding answered
length-answered new old h = simp (length-append, length-drop) (omega arith)

pub length-transforms : (g : Grid) → length (transforms g) ≡ 7 * g.cameras + 7 * g.views
unfolding transforms
length-transforms g =
    simp (length-append, length-gather (λ c. flat (rig_se3_cam g c)) 7 (λ c. refl), length-gather (λ v. flat (rig_se3_target g v)) 7 (λ v. refl))

pub length-chains : (g : Grid) → length (chains g) ≡ second_needs g.cameras
unfolding chains
length-chains g = length-gather _ 2 (λ c. refl) g.cameras

-- ---- one command

pub answer_to-accepted : (t : State) (command : Command) → command_refusal (held_of t.session) t.buffer command ≡ None
    → answer_to t command ≡ answer (reply_to command) (state_after t command)
unfolding answer_to
answer_to-accepted t command e = rw (e, answer_to)

pub answer_to-refused : (t : State) (command : Command) (r : Refusal) → command_refusal (held_of t.session) t.buffer command ≡ Some r
    → answer_to t command ≡ answer (Err r) t
unfolding answer_to
answer_to-refused t command r e = rw (e, answer_to)

module _ (t : State) (u : Usable t) where
  sound : Sound t.session
  sound = sound_of_possible t.session u.record_possible

  pub buffer_kept : (command : Command) → command_refusal (held_of t.session) t.buffer command ≡ None
      → length (buffer_after t.buffer command) ≡ length t.buffer
  unfolding command_refusal buffer_after
  buffer_kept (edit change) e = (edit_law change).length_kept t.session t.buffer e sound u.buffer_fits
  buffer_kept solve e = refl

  pub first-kept : (command : Command) → command_refusal (held_of t.session) t.buffer command ≡ None → length (first_after t command) ≡ length t.first
  unfolding first_after rig_grid
  first-kept (edit change) e = refl
  first-kept solve e =
      let sizes = has_sizes t.session sound (solve-accepted t.session t.buffer e).0 in
      length-answered (transforms (session_grid (held_of t.session) t.buffer)) t.first
      (omega (arith, length-transforms (session_grid (held_of t.session) t.buffer), u.first_fits, sizes.views_fit, sizes.cameras_fit))

  pub second_kept : (command : Command) → command_refusal (held_of t.session) t.buffer command ≡ None → length (second_after t command) ≡ length t.second
  unfolding second_after rig_grid
  second_kept (edit change) e = refl
  second_kept solve e =
      let sizes = has_sizes t.session sound (solve-accepted t.session t.buffer e).0 in
      length-answered (chains (session_grid (held_of t.session) t.buffer)) t.second
      (omega (arith, length-chains (session_grid (held_of t.session) t.buffer), u.second_fits, sizes.cameras_fit))

  pub usable_after : (command : Command) → command_refusal (held_of t.session) t.buffer command ≡ None → Usable (state_after t command)
  unfolding state_after
  usable_after command e =
      record {
        buffer_fits = buffer_kept command e ∙ u.buffer_fits;
        first_fits = rw (first-kept command e) u.first_fits;
        second_fits = rw (second_kept command e) u.second_fits;
        record_possible = possible_of_sound _ (sound_after t.session sound t.buffer command e);
      }

  -- Every command, refused or not, leaves a state that passes the check for 5.
  pub usable_answer : (command : Command) → Usable (answer_to t command).after
  usable_answer command = go (command_refusal (held_of t.session) t.buffer command) refl
    where
      go : (o : Option Refusal) → command_refusal (held_of t.session) t.buffer command ≡ o → Usable (answer_to t command).after
      go None e = rw (answer_to-accepted t command e) (usable_after command e)
      go (Some r) e = rw (answer_to-refused t command r e) u

-- So do any commands one after the other.
pub usable_after_all : (commands : List Command) (t : State) → Usable t → Usable (state_after_all t commands)
unfolding state_after_all
usable_after_all [] t u = u
usable_after_all (command ∷ later) t u = usable_after_all later (answer_to t command).after (usable_answer t u command)
