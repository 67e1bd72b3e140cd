-- What an accepted Size, Pose or Withdraw and a solved call leave, by the bytes of the command (`size-leaves`, `pose-leaves`, `withdraw-leaves`,
-- `solve-leaves`). Assumes nothing.
use Prim.Native.Nat.{ℕ, ◌+◌, ◌≤◌, ◌<◌}
use native.Mathlib.Omega.{arith}
use mathlib.Core.Path.{◌≡◌, refl, ◌∙◌}
use mathlib.Core.Logic.{⊎_elim}
use Rattle.std.specs.Prelude.{None}
use mathlib.Core.List.{List}
use lib.ListN.{length, length-set}
use Rattle.placing.specs.Rig.{rig_grid}
use Rattle.command.specs.Command.{size, place, withdraw, edit, solve, offered_pose}
use Rattle.session_record.specs.Session.{held_of, session_grid}
use Rattle.session_commands.specs.Size.{held_after_size}
use Rattle.session_commands.specs.Pose.{held_after_pose, buffer_after_pose}
use Rattle.session_commands.specs.Withdraw.{held_after_withdraw}
use Rattle.session_commands.specs.Solve.{first_after_solve, second_after_solve}
use Rattle.session_commands.specs.Commands.{edit_session, edit_buffer, command_refusal, session_after, buffer_after}
use Rattle.session_commands.specs.Obeyed.{State, first_after, second_after, state_after}
use Rattle.claims_direct.proofs.Beyond.{beyond_unchanged-answered}
use Rattle.claims_streams.specs.Stream.{Usable}
use Rattle.claims_streams.specs.CallDemand1.{operand, named_start, SizeLeaves, PoseLeaves, WithdrawLeaves, SolveLeaves}
use Rattle.claims_streams.proofs.TrueEntries.{true_entries_is}
use Rattle.claims_streams.proofs.Accepting.{solve-accepted}
use Rattle.claims_streams.proofs.Sound.{has_sizes, sound_of_possible}
use Rattle.claims_streams.proofs.Edits.Pose.{Placeable, place-accepted, camera_fits, cell_fits, bit_here, bit_elsewhere}
use Rattle.claims_streams.proofs.Edits.Withdraw.{withdraw-accepted, camera_fits as camera-fits-withdrawn, clear_here, clear_elsewhere}
use Rattle.claims_streams.proofs.Cells.{get_or_put_within, get_or_put_before, get_or_put_after}
use Rattle.claims_streams.proofs.CallWords.{number_offered}
use Rattle.claims_streams.proofs.Usable.{buffer_kept}

-- ---- the commands

module _ (t : State) (stream : List ℕ) (at : ℕ) where
  pub size-leaves : SizeLeaves t stream at (state_after t (edit (size (operand stream at 1) (operand stream at 2) (operand stream at 3))))
  unfolding state_after session_after buffer_after first_after second_after edit_session edit_buffer held_after_size held_after_pose buffer_after_pose
  size-leaves =
      record {
        views_named = refl;
        cameras_named = refl;
        reference_named = refl;
        same_masks = refl;
        true_entries_is = true_entries_is _ refl;
        same_buffer = refl;
        same_first = refl;
        same_second = refl;
      }

  module _ (u : Usable t) where
    pub pose-leaves : length t.session.masks ≡ 16
        → command_refusal (held_of t.session) t.buffer (edit (place (operand stream at 1) (operand stream at 2) (offered_pose stream (at + 3)))) ≡ None
        → PoseLeaves t stream at (state_after t (edit (place (operand stream at 1) (operand stream at 2) (offered_pose stream (at + 3)))))
    unfolding command_refusal state_after session_after buffer_after first_after second_after edit_session edit_buffer held_after_size held_after_pose buffer_after_pose
    pose-leaves sixteen e =
        let view = operand stream at 1 in
        let camera = operand stream at 2 in
        let p = offered_pose stream (at + 3) in
        let here : Placeable t.session view camera p = place-accepted t.session view camera p e in
        let sound = sound_of_possible t.session u.record_possible in
        let inside : named_start stream at + 7 ≤ length t.buffer = cell_fits t.session view camera p sound e t.buffer u.buffer_fits in
        let known : camera < length t.session.masks = omega (arith, camera_fits t.session view camera p sound e, sixteen) in
        record {
          bit_set = rw (bit_here t.session.masks view camera known here.not_held) tt;
          other_bits = bit_elsewhere t.session.masks view camera known here.not_held;
          mask_count = length-set t.session.masks camera _;
          true_entries_is = true_entries_is _ refl;
          seven_written_is = λ k h. get_or_put_within t.buffer (named_start stream at) p inside k h ∙ number_offered stream at k h;
          others_kept = λ i outside.
              ⊎_elim (get_or_put_before t.buffer (named_start stream at) p inside i) (get_or_put_after t.buffer (named_start stream at) p inside i) outside;
          buffer_length_is = buffer_kept t u (edit (place view camera p)) e;
          same_views = refl;
          same_cameras = refl;
          same_reference = refl;
          same_first = refl;
          same_second = refl;
        }

    pub withdraw-leaves : length t.session.masks ≡ 16
        → command_refusal (held_of t.session) t.buffer (edit (withdraw (operand stream at 1) (operand stream at 2))) ≡ None
        → WithdrawLeaves t stream at (state_after t (edit (withdraw (operand stream at 1) (operand stream at 2))))
    unfolding command_refusal state_after session_after buffer_after first_after second_after edit_session edit_buffer held_after_withdraw
    withdraw-leaves sixteen e =
        let view = operand stream at 1 in
        let camera = operand stream at 2 in
        let sound = sound_of_possible t.session u.record_possible in
        let held = (withdraw-accepted t.session view camera e).held in
        let known : camera < length t.session.masks = omega (arith, camera-fits-withdrawn t.session view camera sound e, sixteen) in
        record {
          bit_clear = clear_here t.session.masks view camera known held;
          other_bits = clear_elsewhere t.session.masks view camera known held;
          mask_count = length-set t.session.masks camera _;
          true_entries_is = true_entries_is _ refl;
          same_buffer = refl;
          same_views = refl;
          same_cameras = refl;
          same_reference = refl;
          same_first = refl;
          same_second = refl;
        }

pub solve-leaves : (t : State) → Usable t → command_refusal (held_of t.session) t.buffer solve ≡ None → SolveLeaves t (state_after t solve)
unfolding state_after session_after buffer_after first_after second_after first_after_solve second_after_solve rig_grid
solve-leaves t u e =
    let limits = has_sizes t.session (sound_of_possible t.session u.record_possible) (solve-accepted t.session t.buffer e).0 in
    record {
      same_session = refl;
      true_entries_is = true_entries_is t.session (sound_of_possible t.session u.record_possible).true_summary;
      same_buffer = refl;
      beyond_unchanged =
          beyond_unchanged-answered (session_grid (held_of t.session) t.buffer) t.first t.second
          (omega (arith, u.first_fits, limits.views_fit, limits.cameras_fit)) (omega (arith, u.second_fits, limits.cameras_fit));
    }
