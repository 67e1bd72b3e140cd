-- A Pose and its withdrawal: the record is what it was, and nothing later tells the two states apart. First as commands (`withdrawn_alike`), then as two
-- calls in words over the bytes (`taken_back`). Assumes nothing.
use Prim.Native.Nat.{ℕ, ◌+◌, ◌-◌, ◌^◌, ◌≤◌, ◌<◌}
use native.Mathlib.Omega.{arith}
use mathlib.Core.Path.{◌≡◌, refl, sym, ap, subst, ◌∙◌}
use mathlib.Core.Logic.{◌⊎◌, ⊎_elim}
use mathlib.Core.Bool.{Bool, true, false, true≢false}
use Rattle.std.specs.Prelude.{None}
use mathlib.Core.List.{List}
use lib.ListN.{length, get_or, set}
use lib.Seq.{get_or-set_same, set-get_or, set-set}
use lib.Ieee.{nan}
use Rattle.arithmetic.specs.declared.pose.Pose.{Pose}
use Rattle.refusal.specs.declared.Refusal.{Refusal}
use Rattle.refusal.specs.declared.Refusal.TheVariants.{Truncated}
use Rattle.limits.specs.Limits.{max_cameras}
use Rattle.lists.specs.Masks.{in_mask}
use Rattle.command.specs.Command.{Edit, place, withdraw, Command, edit, complete, broken, size_byte, pose_byte, solve_byte, withdraw_byte, pose_width, withdraw_width, offered_pose, parse}
use Rattle.command.proofs.Decoding.{parse-withdraw}
use Rattle.session_record.specs.Session.{held_of, summed, with_masks, cell_start}
use Rattle.session_commands.specs.Pose.{buffer_after_pose}
use Rattle.session_commands.specs.Commands.{edit_refusal, edit_session, edit_buffer, command_refusal, session_after, buffer_after}
use Rattle.session_record.specs.declared.Session.{Session}
use Rattle.session_commands.specs.Obeyed.{State, Result, result, reply_to, state_after, first_after, second_after, obeyed}
use Rattle.session.specs.Call.{call_refusal, read, call}
use Rattle.session_commands.proofs.Obeying.{obeyed-accepted, obeyed_cases}
use Rattle.session.proofs.Calling.{call-read, call_cases}
use Rattle.claims_streams.specs.Stream.{Usable}
use Rattle.claims_streams.specs.CallDemand1.{Begins, operand}
use Rattle.claims_streams.specs.Alike.{Alike}
use Rattle.claims_streams.specs.TakenBack.{PoseThenWithdrawal, TakenBack}
use Rattle.claims_streams.specs.Held.{writes}
use Rattle.claims_streams.proofs.Sound.{Sound, summed-held, sound_of_possible}
use Rattle.claims_streams.proofs.Cells.{get_or_put_before, get_or_put_after}
use Rattle.claims_streams.proofs.Usable.{usable_after}
use Rattle.claims_streams.proofs.Streams.{call_refusal_passes, passes_of_usable}
use Rattle.claims_streams.proofs.CallWords.{usable_of_call, Reading, no_command, cut_short, whole-size, whole-pose, whole-withdraw, whole-solve, reading}
use Rattle.claims_streams.proofs.Alike.{meaning-alike, each-alike}
use Rattle.claims_streams.proofs.Edits.Pose.{place-accepted, camera_fits, cell_fits, bit_here}
use Rattle.claims_streams.proofs.Edits.Withdraw.{accepts_withdraw}
use Rattle.claims_streams.proofs.Edits.All.{edit_law}
use Rattle.std.specs.Prelude.{Err, Ok}
use Rattle.session_commands.specs.declared.Done.TheVariants.{Accepted}

-- ---- commands

module _ (s : Session) (view camera : ℕ) (p : Pose) (inside : camera < length s.masks) (e : edit_refusal (held_of s) (place view camera p) ≡ None) where
  -- Its withdrawal is accepted as the next command.
  pub withdrawal_accepted : edit_refusal (held_of (edit_session s (place view camera p))) (withdraw view camera) ≡ None
  unfolding edit_session
  withdrawal_accepted =
      let here = place-accepted s view camera p e in
      accepts_withdraw (edit_session s (place view camera p)) view camera (record {
        view_inside = here.view_inside;
        camera_inside = here.camera_inside;
        held = bit_here s.masks view camera inside here.not_held;
      })

  -- And the record is the one that was there before the two.
  pub record_back : Sound s → edit_session (edit_session s (place view camera p)) (withdraw view camera) ≡ s
  unfolding edit_session
  record_back sound = ap (λ (masks : List ℕ). summed (with_masks (held_of s) masks)) masks_back ∙ summed-held s sound
    where
      m : ℕ
      m = get_or s.masks camera 0

      masks_back : set (set s.masks camera (m + 2 ^ view)) camera (get_or (set s.masks camera (m + 2 ^ view)) camera 0 - 2 ^ view) ≡ s.masks
      masks_back =
          set-set s.masks camera (m + 2 ^ view) _
          ∙ ap (set s.masks camera) (ap (λ (x : ℕ). x - 2 ^ view) (get_or-set_same s.masks camera (m + 2 ^ view) 0 inside) ∙ omega arith)
          ∙ set-get_or s.masks camera 0

-- In a state that can be used.
module _ (t : State) (u : Usable t) (sixteen : length t.session.masks ≡ max_cameras) (view camera : ℕ) (p : Pose)
    (e : command_refusal (held_of t.session) t.buffer (edit (place view camera p)) ≡ None) where
  abbrev held : State
  held = state_after t (edit (place view camera p))

  abbrev back : State
  back = state_after held (edit (withdraw view camera))

  known : camera < length t.session.masks
  unfolding command_refusal
  known = omega (arith, camera_fits t.session view camera p (sound_of_possible t.session u.record_possible) e, sixteen)

  pub withdrawal_passes : command_refusal (held_of held.session) held.buffer (edit (withdraw view camera)) ≡ None
  unfolding command_refusal state_after session_after
  withdrawal_passes = withdrawal_accepted t.session view camera p known e

  -- Of the buffer the Pose wrote its own seven floats, and its withdrawal none.
  pub floats_back : (i : ℕ) → (i < cell_start view camera) ⊎ (cell_start view camera + 7 ≤ i) → get_or back.buffer i nan ≡ get_or t.buffer i nan
  unfolding command_refusal state_after buffer_after edit_buffer buffer_after_pose
  floats_back i outside =
      let room = cell_fits t.session view camera p (sound_of_possible t.session u.record_possible) e t.buffer u.buffer_fits in
      ⊎_elim (get_or_put_before t.buffer (cell_start view camera) p room i) (get_or_put_after t.buffer (cell_start view camera) p room i) outside

  pub withdrawn_alike : Alike t back
  unfolding command_refusal state_after session_after buffer_after first_after second_after
  withdrawn_alike =
      record {
        sixteen = sixteen;
        same_session = sym (record_back t.session view camera p known e (sound_of_possible t.session u.record_possible));
        same_first = refl;
        same_second = refl;
        same_length = sym lengths_back;
        same_held = λ v c h bit k l. sym (go v c h bit k l (writes change v c) refl);
      }
    where
      change : Edit
      change = place view camera p

      sound : Sound t.session
      sound = sound_of_possible t.session u.record_possible

      lengths_back : length back.buffer ≡ length t.buffer
      lengths_back = (edit_law change).length_kept t.session t.buffer e sound u.buffer_fits

      -- A cell that was held is not the one that the Pose wrote to.
      go : (v c : ℕ) → c < max_cameras → in_mask (get_or t.session.masks c 0) v ≡ true → (k : ℕ) → k < 7 → (w : Bool) → writes change v c ≡ w
          → get_or back.buffer (cell_start v c + k) nan ≡ get_or t.buffer (cell_start v c + k) nan
      go v c h bit k l true names = absurd (true≢false (sym bit ∙ (edit_law change).into_empty t.session e v c names))
      go v c h bit k l false names = (edit_law change).others_kept t.session t.buffer e sound u.buffer_fits v c h names k l

-- ---- calls

refused-not-accepted : (q : Refusal) → Err q ≡ Ok Accepted → ⊥
refused-not-accepted q e = let z : ◌≡◌ {A = ℕ} 0 1 = cc in omega arith

-- A command that the stream ends within is refused.
cut_not-accepted : (t : State) (stream : List ℕ) (at : ℕ) → at < length stream → parse stream at ≡ broken → (call t stream at).reply ≡ Ok Accepted → ⊥
unfolding read
cut_not-accepted t stream at before-end cut =
    call_cases t stream at (λ (r : Result). r.reply ≡ Ok Accepted → ⊥) (λ q _. refused-not-accepted q) (λ _ e. absurd (omega arith))
    (λ _ _. rw cut (refused-not-accepted (Truncated at)))

module _ (t : State) (stream : List ℕ) (at : ℕ) (before-end : at < length stream) (command : Command) (width : ℕ)
    (parsed : parse stream at ≡ complete command width) where
  reads : call_refusal t stream at ≡ None → call t stream at ≡ obeyed t command (at + width)
  unfolding read
  reads e = call-read t stream at e (omega (arith, before-end)) ∙ ap (read t stream at) parsed

  abbrev PassesIfAccepted : Result → Type 0
  PassesIfAccepted r = r.reply ≡ Ok Accepted → (call_refusal t stream at ≡ None) × (command_refusal (held_of t.session) t.buffer command ≡ None)

  -- A call that is accepted has passed the checks before all else, and its command's own.
  accepted_passes : PassesIfAccepted (call t stream at)
  unfolding read
  accepted_passes =
      call_cases t stream at PassesIfAccepted (λ q _ accepted. absurd (refused-not-accepted q accepted)) (λ _ e. absurd (omega arith))
      (λ e _. rw parsed (obeyed_cases t command (at + width) PassesIfAccepted (λ q _ accepted. absurd (refused-not-accepted q accepted)) (λ f _. (e, f))))

  obeys : call_refusal t stream at ≡ None → command_refusal (held_of t.session) t.buffer command ≡ None
      → call t stream at ≡ result (reply_to command) (state_after t command) (at + width)
  obeys e f = reads e ∙ obeyed-accepted t command (at + width) f

module _ (t : State) (stream : List ℕ) (at : ℕ) (sixteen : length t.session.masks ≡ max_cameras) (accepted : (call t stream at).reply ≡ Ok Accepted)
    (stream' : List ℕ) (at' : ℕ) (both : PoseThenWithdrawal stream at stream' at') where
  abbrev view : ℕ
  view = operand stream at 1

  abbrev camera : ℕ
  camera = operand stream at 2

  abbrev p : Pose
  p = offered_pose stream (at + 3)

  -- An accepted call has read a whole command.
  pose_parsed : parse stream at ≡ complete (edit (place view camera p)) pose_width
  pose_parsed = go (reading stream at both.pose_here.0)
    where
      other : (byte : ℕ) → (byte ≡ pose_byte → ⊥) → Begins stream at byte → ⊥
      other byte differ (_, here) = differ (sym here ∙ both.pose_here.1)

      go : Reading stream at → parse stream at ≡ complete (edit (place view camera p)) pose_width
      go (whole-pose parsed _ _) = parsed
      go (no_command byte _ begins (_, not-pose, _, _)) = absurd (other byte not-pose begins)
      go (cut_short width parsed _ _) = absurd (cut_not-accepted t stream at both.pose_here.0 parsed accepted)
      go (whole-size _ begins _) = absurd (other size_byte (omega arith) begins)
      go (whole-withdraw _ begins _) = absurd (other withdraw_byte (omega arith) begins)
      go (whole-solve _ begins _) = absurd (other solve_byte (omega arith) begins)

  withdrawal_parsed : parse stream' at' ≡ complete (edit (withdraw view camera)) withdraw_width
  withdrawal_parsed =
      parse-withdraw stream' at' both.withdrawal_there.1 both.whole
      ∙ (λ i. complete (edit (withdraw (both.same_view i) (both.same_camera i))) withdraw_width)

  passes : (call_refusal t stream at ≡ None) × (command_refusal (held_of t.session) t.buffer (edit (place view camera p)) ≡ None)
  passes = accepted_passes t stream at both.pose_here.0 (edit (place view camera p)) pose_width pose_parsed accepted

  usable : Usable t
  usable = (usable_of_call t stream at passes.0).0

  abbrev held-state : State
  held-state = state_after t (edit (place view camera p))

  obeyed-pose : call t stream at ≡ result (Ok Accepted) held-state (at + pose_width)
  unfolding reply_to
  obeyed-pose = obeys t stream at both.pose_here.0 (edit (place view camera p)) pose_width pose_parsed passes.0 passes.1

  -- The state after it passes the same checks.
  passes_again : call_refusal held-state stream' at' ≡ None
  passes_again =
      call_refusal_passes held-state stream' at'
      (passes_of_usable held-state stream' both.not_too_long (usable_after t usable (edit (place view camera p)) passes.1))
      (omega (arith, both.whole))

  abbrev back_state : State
  back_state = state_after held-state (edit (withdraw view camera))

  obeyed_both : call (call t stream at).after stream' at' ≡ result (Ok Accepted) back_state (at' + withdraw_width)
  unfolding reply_to
  obeyed_both =
      ap (λ (r : Result). call r.after stream' at') obeyed-pose
      ∙ obeys held-state stream' at' both.withdrawal_there.0 (edit (withdraw view camera)) withdraw_width withdrawal_parsed passes_again
      (withdrawal_passes t usable sixteen view camera p passes.1)

  pub taken_back : TakenBack t stream at at' (call (call t stream at).after stream' at')
  taken_back =
      subst (TakenBack t stream at at') (sym obeyed_both) (
      record {
        accepted = refl;
        reads_on = refl;
        same_record = sym same.same_session;
        other_floats = floats_back t usable sixteen view camera p passes.1;
        alike = same;
        calls_alike = each-alike t back_state same;
        streams_alike = meaning-alike t back_state same;
      }
      )
    where
      same : Alike t back_state
      same = withdrawn_alike t usable sixteen view camera p passes.1
