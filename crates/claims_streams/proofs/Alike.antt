-- States that differ in nothing but floats of cells that are not held stay such, and answer the same, without a new difference in the buffers: one grid
-- (`grid_alike`), one call (`call-alike`), commands (`answers-alike`, `state-alike`), and whole streams (`meaning-alike`, `calls_alike`). Assumes nothing.
use Prim.Native.Nat.{ℕ, ◌+◌, ◌*◌, ◌/◌, ◌%◌, ◌<◌}
use native.Mathlib.Decide.{dec_lt}
use native.Mathlib.Omega.{arith}
use mathlib.Core.Path.{◌≡◌, refl, sym, ap, ap₂, ◌∙◌}
use mathlib.Core.Bool.{Bool, true, false, not, cond, true≢false}
use Rattle.std.specs.Prelude.{Option, None, Some}
use mathlib.Core.List.{List, [], ◌∷◌, ◌++◌}
use lib.ListN.{length, get_or, get_or-eq_default}
use lib.Dec.{ltb}
use lib.Ieee.{Float}
use Rattle.arithmetic.specs.Pose.{pose_at}
use Rattle.arithmetic.specs.declared.pose.Pose.{Pose}
use Rattle.refusal.specs.Table.{refuse_if, first_of}
use Rattle.refusal.specs.declared.Refusal.{Refusal}
use Rattle.refusal.specs.declared.Refusal.TheVariants.{NoSize, WrongLength, UnknownCommand, Truncated, TooLong}
use Rattle.limits.specs.Limits.{max_cameras}
use Rattle.lists.specs.Masks.{in_mask}
use Rattle.lists.proofs.Tabulated.{tabulate_agree}
use Rattle.placing.specs.Grid.{Grid}
use Rattle.placing.specs.Estimate.{transforms, chains}
use Rattle.placing.specs.Rig.{masked_cell, rig_cell, rig_grid}
use Rattle.placing.specs.Grid.{Cell}
use Rattle.extrinsics.specs.Outcome.{answered, grid_refusal}
use Rattle.extrinsics.proofs.MaskUnion.{in_mask-zero}
use Rattle.command.specs.Command.{Command, edit, solve, Parsed, complete, broken, unknown, parse}
use Rattle.session_record.specs.Session.{held_of, cell_start, has_size, rig_of, session_grid}
use Rattle.session_commands.specs.Commands.{edit_refusal, edit_session, command_refusal, session_after, buffer_after}
use Rattle.session_commands.specs.Solve.{first_after_solve, second_after_solve}
use Rattle.session_commands.specs.Obeyed.{State, Result, result, first_after, second_after, state_after}
use Rattle.session.specs.Call.{max_stream, unusable, call_refusal, read, call}
use Rattle.session_commands.specs.Reply.{Reply}
use Rattle.session.proofs.Calling.{call-refused, call_end, call-read, call_cases}
use Rattle.session_record.specs.declared.Session.{Session}
use Rattle.claims_streams.specs.Stream.{Contents, contents_of, Answer, answer_to, answers, state_after_all, stream_refusal, answers_of, meaning, calls, Usable}
use Rattle.claims_streams.specs.Alike.{SameHeld, Alike, NoNewDifference, AlikeSince, AnswersAlike, no_answers, one_answer, CallsAlike, Asked, EachAlike}
use Rattle.claims_streams.proofs.Accepting.{solve_checks}
use Rattle.claims_streams.proofs.Cells.{pose_at_agree}
use Rattle.claims_streams.proofs.Sound.{sound_of_possible}
use Rattle.claims_streams.proofs.Edits.All.{edit_law}
use Rattle.claims_streams.proofs.AlikeEdits.{held-alike, differences_old}
use Rattle.claims_streams.proofs.Usable.{answer_to-accepted, answer_to-refused, buffer_kept, usable_answer}
use Rattle.claims_streams.proofs.Streams.{usable_of_passes, obeyed-answer_to, meaning-refused, meaning_passes, calls_give_meaning}
use Rattle.claims_streams.proofs.CallWords.{usable_of_call}
use Rattle.std.specs.Prelude.{Err, Ok}
use Rattle.session_commands.specs.declared.Done.TheVariants.{End}

-- ---- the grid

held-or-empty : (bit : Bool) (p q : Pose) → (bit ≡ true → p ≡ q) → cond bit (Some p) None ≡ cond bit (Some q) None
held-or-empty true p q same = ap Some (same refl)
held-or-empty false p q same = refl

module _ (s : Session) (sixteen : length s.masks ≡ max_cameras) (b b' : List Float) (same : SameHeld s.masks b b') where
  -- No mask past the sixteenth has a bit.
  bit_inside : (v c : ℕ) → in_mask (get_or s.masks c 0) v ≡ true → c < max_cameras
  bit_inside v c bit = go (dec_lt c max_cameras)
    where
      go : Dec (c < max_cameras) → c < max_cameras
      go (yes h) = h
      go (no h) =
          absurd (true≢false (sym bit ∙ ap (λ (m : ℕ). in_mask m v) (get_or-eq_default s.masks 0 (omega (arith, sixteen))) ∙ in_mask-zero v))

  cell_alike : (v c : ℕ) → rig_cell (rig_of (held_of s)) b v c ≡ rig_cell (rig_of (held_of s)) b' v c
  unfolding rig_cell masked_cell
  cell_alike v c =
      held-or-empty (in_mask (get_or s.masks c 0) v) (pose_at b (cell_start v c)) (pose_at b' (cell_start v c))
      (λ bit. pose_at_agree b b' (cell_start v c) (same v c (bit_inside v c bit) bit))

  pub grid_alike : session_grid (held_of s) b ≡ session_grid (held_of s) b'
  unfolding rig_grid
  grid_alike =
      let grid : List Cell → Grid = λ l. record { views = s.views; cameras = s.cameras; reference = s.reference; cells = l } in
      ap grid
      (tabulate_agree (s.views * s.cameras) (λ i. rig_cell (rig_of (held_of s)) b (i / s.cameras) (i % s.cameras))
      (λ i. rig_cell (rig_of (held_of s)) b' (i / s.cameras) (i % s.cameras)) (λ i h. cell_alike (i / s.cameras) (i % s.cameras)))

-- ---- one command

-- Nothing has changed yet.
pub since_now : {t t' : State} → Alike t t' → AlikeSince t.buffer t'.buffer t t'
since_now same = record { alike = same; no_new_difference = λ i e. e }

module _ (t t' : State) (same : Alike t t') where
  same_grid : session_grid (held_of t.session) t.buffer ≡ session_grid (held_of t'.session) t'.buffer
  same_grid =
      grid_alike t.session same.sixteen t.buffer t'.buffer same.same_held
      ∙ ap (λ (s : Session). session_grid (held_of s) t'.buffer) same.same_session

  same_refusal : (command : Command) → command_refusal (held_of t.session) t.buffer command ≡ command_refusal (held_of t'.session) t'.buffer command
  unfolding command_refusal
  same_refusal (edit change) = ap (λ (s : Session). edit_refusal (held_of s) change) same.same_session
  same_refusal solve =
      solve_checks t.session t.buffer
      ∙ ap₂ (λ (s : Session) (g : Grid). first_of (refuse_if (not (has_size (held_of s))) NoSize ∷ grid_refusal g ∷ [])) same.same_session same_grid
      ∙ sym (solve_checks t'.session t'.buffer)

  also : {o : Option Refusal} (command : Command) → command_refusal (held_of t.session) t.buffer command ≡ o
      → command_refusal (held_of t'.session) t'.buffer command ≡ o
  also command e = sym (same_refusal command) ∙ e

  usable_alike : Usable t → Usable t'
  usable_alike u =
      record {
        buffer_fits = sym same.same_length ∙ u.buffer_fits;
        first_fits = rw (← same.same_first) u.first_fits;
        second_fits = rw (← same.same_second) u.second_fits;
        record_possible = rw (← same.same_session) u.record_possible;
      }

  module _ (u : Usable t) where
    -- What an accepted command leaves of both.
    accepted-alike : (command : Command) → command_refusal (held_of t.session) t.buffer command ≡ None
        → AlikeSince t.buffer t'.buffer (state_after t command) (state_after t' command)
    unfolding command_refusal state_after session_after buffer_after first_after second_after first_after_solve second_after_solve
    accepted-alike (edit change) e =
        let sound = sound_of_possible t.session u.record_possible in
        let fits' = (usable_alike u).buffer_fits in
        let length-after = buffer_kept t u (edit change) e in
        let length_after' = buffer_kept t' (usable_alike u) (edit change) (also (edit change) e) in
        record {
          alike = record {
            sixteen = (edit_law change).masks_kept t.session ∙ same.sixteen;
            same_session = ap (λ (s : Session). edit_session s change) same.same_session;
            same_first = same.same_first;
            same_second = same.same_second;
            same_length = length-after ∙ same.same_length ∙ sym length_after';
            same_held = held-alike change t.session e sound same.sixteen t.buffer t'.buffer u.buffer_fits fits' same.same_held;
          };
          no_new_difference = differences_old change t.session e sound same.sixteen t.buffer t'.buffer u.buffer_fits fits';
        }
    accepted-alike solve e =
        record {
          alike = record {
            sixteen = same.sixteen;
            same_session = same.same_session;
            same_first = ap₂ (λ (g : Grid) (l : List Float). answered None (transforms g) l) same_grid same.same_first;
            same_second = ap₂ (λ (g : Grid) (l : List ℕ). answered None (chains g) l) same_grid same.same_second;
            same_length = same.same_length;
            same_held = same.same_held;
          };
          no_new_difference = λ i h. h;
        }

    same_reply : (command : Command) → (answer_to t command).reply ≡ (answer_to t' command).reply
    same_reply command = go (command_refusal (held_of t.session) t.buffer command) refl
      where
        go : (o : Option Refusal) → command_refusal (held_of t.session) t.buffer command ≡ o → (answer_to t command).reply ≡ (answer_to t' command).reply
        go None e = cc (answer_to-accepted t command e, answer_to-accepted t' command (also command e))
        go (Some r) e = cc (answer_to-refused t command r e, answer_to-refused t' command r (also command e))

    after-alike : (command : Command) → AlikeSince t.buffer t'.buffer (answer_to t command).after (answer_to t' command).after
    after-alike command = go (command_refusal (held_of t.session) t.buffer command) refl
      where
        go : (o : Option Refusal) → command_refusal (held_of t.session) t.buffer command ≡ o
            → AlikeSince t.buffer t'.buffer (answer_to t command).after (answer_to t' command).after
        go None e = rw (answer_to-accepted t command e, answer_to-accepted t' command (also command e)) (accepted-alike command e)
        go (Some r) e = rw (answer_to-refused t command r e, answer_to-refused t' command r (also command e)) (since_now same)

-- ---- commands one after the other

-- What was alike since a later time, without a new difference until then, is so since the earlier one.
pub since_then : {b b' a a' : List Float} {t t' : State} → NoNewDifference b b' a a' → AlikeSince a a' t t' → AlikeSince b b' t t'
since_then old h = record { alike = h.alike; no_new_difference = λ i e. h.no_new_difference i (old i e) }

-- States that have come to be alike since the buffers were b and b'.
module _ (b b' : List Float) where
  next-alike : (t t' : State) → Usable t → AlikeSince b b' t t' → (command : Command)
      → AlikeSince b b' (answer_to t command).after (answer_to t' command).after
  next-alike t t' u h command = since_then h.no_new_difference (after-alike t t' h.alike u command)

  answers_since : (commands : List Command) (t t' : State) → Usable t → AlikeSince b b' t t'
      → AnswersAlike b b' (answers t commands) (answers t' commands)
  unfolding answers
  answers_since [] t t' u h = no_answers
  answers_since (command ∷ later) t t' u h =
      let next = next-alike t t' u h command in
      one_answer (same_reply t t' h.alike u command) next
      (answers_since later (answer_to t command).after (answer_to t' command).after (usable_answer t u command) next)

  state_since : (commands : List Command) (t t' : State) → Usable t → AlikeSince b b' t t'
      → AlikeSince b b' (state_after_all t commands) (state_after_all t' commands)
  unfolding state_after_all
  state_since [] t t' u h = h
  state_since (command ∷ later) t t' u h =
      state_since later (answer_to t command).after (answer_to t' command).after (usable_answer t u command)
      (next-alike t t' u h command)

  last_answer : {l l' : List Answer} {a a' : Answer} → AnswersAlike b b' l l' → a.reply ≡ a'.reply → AlikeSince b b' a.after a'.after
      → AnswersAlike b b' (l ++ (a ∷ [])) (l' ++ (a' ∷ []))
  last_answer no_answers e h = one_answer e h no_answers
  last_answer (one_answer f g later) e h = one_answer f g (last_answer later e h)

-- ---- the theorems

module _ (t t' : State) (same : Alike t t') where
  -- Of states that pass the check for 5, which `answers` does not make.
  module _ (u : Usable t) where
    pub answers-alike : (commands : List Command) → AnswersAlike t.buffer t'.buffer (answers t commands) (answers t' commands)
    answers-alike commands = answers_since t.buffer t'.buffer commands t t' u (since_now same)

    pub state-alike : (commands : List Command) → AlikeSince t.buffer t'.buffer (state_after_all t commands) (state_after_all t' commands)
    state-alike commands = state_since t.buffer t'.buffer commands t t' u (since_now same)

    pub answers_of-alike : (held : Contents) → AnswersAlike t.buffer t'.buffer (answers_of t held) (answers_of t' held)
    unfolding answers_of
    answers_of-alike held = last_answer t.buffer t'.buffer (answers-alike held.commands) refl (state-alike held.commands)

  same_unusable : unusable t ≡ unusable t'
  same_unusable = cc (same.same_session, same.same_first, same.same_second, same.same_length)

  pub call_refusal-alike : (stream : List ℕ) (at : ℕ) → call_refusal t stream at ≡ call_refusal t' stream at
  unfolding call_refusal
  call_refusal-alike stream at =
      ap (λ (wrong : Bool).
      first_of
      (refuse_if (ltb max_stream (length stream)) TooLong
      ∷ refuse_if wrong WrongLength
      ∷ refuse_if (ltb (length stream) at) (Truncated (length stream))
      ∷ [])) same_unusable

  stream_refusal-alike : (stream : List ℕ) → stream_refusal t stream ≡ stream_refusal t' stream
  unfolding stream_refusal
  stream_refusal-alike stream =
      ap (λ (wrong : Bool). first_of (refuse_if (ltb max_stream (length stream)) TooLong ∷ refuse_if wrong WrongLength ∷ [])) same_unusable

  -- One call, whatever the states are: where one is refused, the other is, with the same number and detail.
  pub call-alike : (stream : List ℕ) (at : ℕ) → CallsAlike t.buffer t'.buffer (call t stream at) (call t' stream at)
  unfolding read
  call-alike stream at =
      call_cases t stream at (λ (r : Result). CallsAlike t.buffer t'.buffer r (call t' stream at))
      (λ r e. rw (call-refused t' stream at r (too e)) (unchanged (Err r) (length stream)))
      (λ e h. rw (call_end t' stream at (too e) h) (unchanged (Ok End) at))
      (λ e h. rw (call-read t' stream at (too e) h) (reads (usable_of_call t stream at e).0 (parse stream at)))
    where
      too : {o : Option Refusal} → call_refusal t stream at ≡ o → call_refusal t' stream at ≡ o
      too e = sym (call_refusal-alike stream at) ∙ e

      unchanged : (r : Reply) (next : ℕ) → CallsAlike t.buffer t'.buffer (result r t next) (result r t' next)
      unchanged r next = record { same_reply = refl; same_next = refl; alike_after = since_now same }

      -- Both calls read the same.
      reads : Usable t → (p : Parsed) → CallsAlike t.buffer t'.buffer (read t stream at p) (read t' stream at p)
      reads u (complete command width) =
          rw (obeyed-answer_to t command (at + width), obeyed-answer_to t' command (at + width))
          (record {
            same_reply = same_reply t t' same u command;
            same_next = refl;
            alike_after = after-alike t t' same u command;
          })
      reads u broken = unchanged (Err (Truncated at)) (length stream)
      reads u (unknown byte) = unchanged (Err (UnknownCommand byte)) (length stream)

  -- A whole stream, whatever the states are.
  pub meaning-alike : (stream : List ℕ) → AnswersAlike t.buffer t'.buffer (meaning t stream) (meaning t' stream)
  meaning-alike stream = go (stream_refusal t stream) refl
    where
      go : (o : Option Refusal) → stream_refusal t stream ≡ o → AnswersAlike t.buffer t'.buffer (meaning t stream) (meaning t' stream)
      go (Some r) e =
          rw (meaning-refused t stream r e, meaning-refused t' stream r (sym (stream_refusal-alike stream) ∙ e))
          (one_answer refl (since_now same) no_answers)
      go None e =
          rw (meaning_passes t stream e, meaning_passes t' stream (sym (stream_refusal-alike stream) ∙ e))
          (answers_of-alike (usable_of_passes t stream e).1 (contents_of stream))

  pub calls_alike : (stream : List ℕ) → AnswersAlike t.buffer t'.buffer (calls t stream) (calls t' stream)
  calls_alike stream = rw (calls_give_meaning t stream, calls_give_meaning t' stream) (meaning-alike stream)

-- Calls for ever after, each on any stream and at any offset.
each_since : (b b' : List Float) (all : List Asked) (t t' : State) → AlikeSince b b' t t' → EachAlike b b' t t' all
each_since b b' [] t t' h = tt
each_since b b' (asked ∷ later) t t' h =
    let r = call-alike t t' h.alike asked.stream asked.offset in
    let after = since_then h.no_new_difference r.alike_after in (
      record { same_reply = r.same_reply; same_next = r.same_next; alike_after = after },
      each_since b b' later (call t asked.stream asked.offset).after (call t' asked.stream asked.offset).after after,
    )

pub each-alike : (t t' : State) → Alike t t' → (all : List Asked) → EachAlike t.buffer t'.buffer t t' all
each-alike t t' same all = each_since t.buffer t'.buffer all t t' (since_now same)
