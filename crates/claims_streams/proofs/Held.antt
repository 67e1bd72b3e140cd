-- After any commands from a fresh session, masks and buffer hold exactly what the fold over the accepted edits gives: `held_exactly`, and after any
-- stream `held-after-stream`. By induction on the commands, one step of it being the law of an edit. Nothing is written where a pose is held:
-- `written_into_empty`. Assumes nothing.
use Prim.Native.Nat.{ℕ, ◌+◌, ◌≤◌, ◌<◌}
use mathlib.Core.Path.{◌≡◌, refl, sym, ap, subst, ◌∙◌}
use mathlib.Core.Bool.{Bool, true, false, ◌||◌, true≢false}
use Rattle.std.specs.Prelude.{Option, None, Some}
use mathlib.Core.List.{List, [], ◌∷◌, ◌++◌}
use lib.ListN.{length, get_or, get_or-replicate}
use lib.Ieee.{Float, nan}
use Rattle.arithmetic.specs.declared.pose.Pose.{Pose}
use Rattle.refusal.specs.declared.Refusal.{Refusal}
use Rattle.limits.specs.Limits.{max_cameras}
use Rattle.lists.specs.Masks.{in_mask}
use Rattle.extrinsics.proofs.MaskUnion.{in_mask-zero}
use Rattle.lists.proofs.Tests.{or-false}
use Rattle.command.specs.Command.{Edit, Command, edit, solve}
use Rattle.session_record.specs.Session.{held_of, fresh, buffer_length, cell_start}
use Rattle.session_commands.specs.Commands.{edit_refusal, command_refusal, session_after, buffer_after}
use Rattle.session_commands.specs.Obeyed.{first_length, second_length, State, state, reply_to, state_after}
use Rattle.session.specs.Call.{max_stream}
use Rattle.claims_streams.specs.Stream.{contents_of, Answer, answer_to, state_after_all, last_state, calls, Usable}
use Rattle.claims_streams.specs.Held.{held_from, held_after, writes, written, edits_in, accepted_in, accepted_edits, HoldsCell, HoldsExactly}
use Rattle.claims_streams.proofs.Sound.{Sound, sound_fresh, sound_of_possible, possible_of_sound}
use Rattle.claims_streams.proofs.Edits.Law.{FiniteCell}
use Rattle.claims_streams.proofs.Edits.All.{edit_law}
use Rattle.claims_streams.proofs.Streams.{calls_leave}
use Rattle.claims_streams.proofs.Usable.{usable_answer, usable_after_all, answer_to-accepted, answer_to-refused}

-- ---- the accepted edits, command by command

accepted_in-reply : (command : Command) → accepted_in command (reply_to command) ≡ edits_in command
unfolding accepted_in edits_in reply_to
accepted_in-reply (edit change) = refl
accepted_in-reply solve = refl

module _ (t : State) (command : Command) (later : List Command) where
  accepted_edits-refused : (r : Refusal) → command_refusal (held_of t.session) t.buffer command ≡ Some r
      → accepted_edits t (command ∷ later) ≡ accepted_edits (answer_to t command).after later
  unfolding accepted_edits accepted_in
  accepted_edits-refused r e =
      ap (λ (a : Answer). accepted_in command a.reply ++ accepted_edits (answer_to t command).after later) (answer_to-refused t command r e)

  accepted_edits-accepted : command_refusal (held_of t.session) t.buffer command ≡ None
      → accepted_edits t (command ∷ later) ≡ edits_in command ++ accepted_edits (answer_to t command).after later
  unfolding accepted_edits
  accepted_edits-accepted e =
      ap (λ (a : Answer). accepted_in command a.reply ++ accepted_edits (answer_to t command).after later) (answer_to-accepted t command e)
      ∙ ap (λ (l : List Edit). l ++ accepted_edits (answer_to t command).after later) (accepted_in-reply command)

held_from_edits : (o : Option Pose) (command : Command) (later : List Edit) (v c : ℕ)
    → held_from o (edits_in command ++ later) v c ≡ held_from (held_from o (edits_in command) v c) later v c
unfolding held_from edits_in
held_from_edits o (edit change) later v c = refl
held_from_edits o solve later v c = refl

held_from-none : (t : State) (v c : ℕ) (o : Option Pose) → held_from o (accepted_edits t []) v c ≡ o
unfolding held_from accepted_edits
held_from-none t v c o = refl

written_edits : (command : Command) (later : List Edit) (v c : ℕ) → written (edits_in command ++ later) v c ≡ written (edits_in command) v c || written later v c
unfolding written edits_in
written_edits (edit change) later v c = go (writes change v c)
  where
    go : (b : Bool) → b || written later v c ≡ (b || false) || written later v c
    go true = refl
    go false = refl
written_edits solve later v c = refl

-- ---- one accepted command

module _ (t : State) (u : Usable t) where
  sound : Sound t.session
  sound = sound_of_possible t.session u.record_possible

  masks_accepted : (command : Command) → length (state_after t command).session.masks ≡ length t.session.masks
  unfolding state_after session_after
  masks_accepted (edit change) = (edit_law change).masks_kept t.session
  masks_accepted solve = refl

  cells-accepted : length t.session.masks ≡ max_cameras → (command : Command) → command_refusal (held_of t.session) t.buffer command ≡ None
      → (v c : ℕ) (o : Option Pose) → c < max_cameras → HoldsCell t.session.masks t.buffer v c o
      → HoldsCell (state_after t command).session.masks (state_after t command).buffer v c (held_from o (edits_in command) v c)
  unfolding command_refusal state_after session_after buffer_after held_from edits_in
  cells-accepted sixteen (edit change) e v c o h before =
      (edit_law change).cells_after t.session t.buffer e sound sixteen u.buffer_fits v c o h before
  cells-accepted sixteen solve e v c o h before = before

  floats-accepted : (command : Command) → command_refusal (held_of t.session) t.buffer command ≡ None → (v c : ℕ) → c < max_cameras
      → written (edits_in command) v c ≡ false
      → (k : ℕ) → k < 7 → get_or (state_after t command).buffer (cell_start v c + k) nan ≡ get_or t.buffer (cell_start v c + k) nan
  unfolding command_refusal state_after buffer_after written edits_in
  floats-accepted (edit change) e v c h names =
      (edit_law change).others_kept t.session t.buffer e sound u.buffer_fits v c h (or-false _ _ names).0
  floats-accepted solve e v c h names = λ k l. refl

  finite_accepted : (command : Command) → command_refusal (held_of t.session) t.buffer command ≡ None → (v c : ℕ) (o : Option Pose)
      → FiniteCell o → FiniteCell (held_from o (edits_in command) v c)
  unfolding command_refusal held_from edits_in
  finite_accepted (edit change) e v c o before = (edit_law change).finite_after t.session e v c o before
  finite_accepted solve e v c o before = before

  -- A command, refused or not, leaves as many masks.
  pub masks_after : length t.session.masks ≡ max_cameras → (command : Command) → length (answer_to t command).after.session.masks ≡ max_cameras
  masks_after sixteen command = go (command_refusal (held_of t.session) t.buffer command) refl
    where
      go : (o : Option Refusal) → command_refusal (held_of t.session) t.buffer command ≡ o → length (answer_to t command).after.session.masks ≡ max_cameras
      go None e = ap (λ (a : Answer). length a.after.session.masks) (answer_to-accepted t command e) ∙ masks_accepted command ∙ sixteen
      go (Some r) e = ap (λ (a : Answer). length a.after.session.masks) (answer_to-refused t command r e) ∙ sixteen

-- ---- all commands

cells_all : (commands : List Command) (t : State) → Usable t → length t.session.masks ≡ max_cameras → (v c : ℕ) (o : Option Pose) → c < max_cameras
    → HoldsCell t.session.masks t.buffer v c o
    → HoldsCell (state_after_all t commands).session.masks (state_after_all t commands).buffer v c (held_from o (accepted_edits t commands) v c)
unfolding state_after_all
cells_all [] t u s v c o h before = subst (HoldsCell t.session.masks t.buffer v c) (sym (held_from-none t v c o)) before
cells_all (command ∷ later) t u s v c o h before = go (command_refusal (held_of t.session) t.buffer command) refl (cells_all later after (usable_answer t u command) (masks_after t u s command) v c)
  where
    after : State
    after = (answer_to t command).after

    Leaves : Option Pose → Answer → Type 0
    Leaves x a = HoldsCell a.after.session.masks a.after.buffer v c x

    go : (r : Option Refusal) → command_refusal (held_of t.session) t.buffer command ≡ r
        → ((x : Option Pose) → c < max_cameras → HoldsCell after.session.masks after.buffer v c x
        → HoldsCell (state_after_all after later).session.masks (state_after_all after later).buffer v c (held_from x (accepted_edits after later) v c))
        → HoldsCell (state_after_all after later).session.masks (state_after_all after later).buffer v c (held_from o (accepted_edits t (command ∷ later)) v c)
    go None e rest =
        rw (accepted_edits-accepted t command later e, held_from_edits o command (accepted_edits after later) v c)
        (rest (held_from o (edits_in command) v c) h
        (subst (Leaves (held_from o (edits_in command) v c)) (sym (answer_to-accepted t command e)) (cells-accepted t u s command e v c o h before)))
    go (Some r) e rest =
        rw (accepted_edits-refused t command later r e)
        (rest o h (subst (Leaves o) (sym (answer_to-refused t command r e)) before))

floats_all : (commands : List Command) (t : State) → Usable t → (v c : ℕ) → c < max_cameras → written (accepted_edits t commands) v c ≡ false
    → (k : ℕ) → k < 7 → get_or (state_after_all t commands).buffer (cell_start v c + k) nan ≡ get_or t.buffer (cell_start v c + k) nan
unfolding state_after_all
floats_all [] t u v c h names k l = refl
floats_all (command ∷ later) t u v c h names k l = go (command_refusal (held_of t.session) t.buffer command) refl (floats_all later after (usable_answer t u command) v c h)
  where
    after : State
    after = (answer_to t command).after

    float : Answer → Float
    float a = get_or a.after.buffer (cell_start v c + k) nan

    go : (r : Option Refusal) → command_refusal (held_of t.session) t.buffer command ≡ r
        → (written (accepted_edits after later) v c ≡ false
        → (k : ℕ) → k < 7 → get_or (state_after_all after later).buffer (cell_start v c + k) nan ≡ get_or after.buffer (cell_start v c + k) nan)
        → get_or (state_after_all after later).buffer (cell_start v c + k) nan ≡ get_or t.buffer (cell_start v c + k) nan
    go None e rest =
        let neither =
        or-false (written (edits_in command) v c) (written (accepted_edits after later) v c)
        (sym (ap (λ (l : List Edit). written l v c) (accepted_edits-accepted t command later e) ∙ written_edits command (accepted_edits after later) v c) ∙ names) in
        rest neither.1 k l
        ∙ ap float (answer_to-accepted t command e)
        ∙ floats-accepted t u command e v c h neither.0 k l
    go (Some r) e rest =
        rest (sym (ap (λ (l : List Edit). written l v c) (accepted_edits-refused t command later r e)) ∙ names) k l
        ∙ ap float (answer_to-refused t command r e)

-- An accepted Pose was checked for 7, and nothing else is held.
finite_all : (commands : List Command) (t : State) → Usable t → (v c : ℕ) (o : Option Pose) → FiniteCell o → FiniteCell (held_from o (accepted_edits t commands) v c)
finite_all [] t u v c o before = subst FiniteCell (sym (held_from-none t v c o)) before
finite_all (command ∷ later) t u v c o before = go (command_refusal (held_of t.session) t.buffer command) refl (finite_all later after (usable_answer t u command) v c)
  where
    after : State
    after = (answer_to t command).after

    go : (r : Option Refusal) → command_refusal (held_of t.session) t.buffer command ≡ r
        → ((x : Option Pose) → FiniteCell x → FiniteCell (held_from x (accepted_edits after later) v c))
        → FiniteCell (held_from o (accepted_edits t (command ∷ later)) v c)
    go None e rest =
        rw (accepted_edits-accepted t command later e, held_from_edits o command (accepted_edits after later) v c)
        (rest (held_from o (edits_in command) v c) (finite_accepted t u command e v c o before))
    go (Some r) e rest = rw (accepted_edits-refused t command later r e) (rest o before)

-- ---- the theorems

-- From a fresh session, whatever the buffer held.
module _ (buffer first : List Float) (second : List ℕ) (buffer_fits : length buffer ≡ buffer_length)
    (first_fits : first_length ≤ length first) (second_fits : second_length ≤ length second) where
  abbrev start : State
  start = state fresh buffer first second

  pub usable_start : Usable start
  usable_start =
      record { buffer_fits = buffer_fits; first_fits = first_fits; second_fits = second_fits; record_possible = possible_of_sound fresh sound_fresh }

  -- A cell is held exactly if the fold over the accepted edits gives it a pose, with that pose's numbers.
  pub held_exactly : (commands : List Command) → HoldsExactly (accepted_edits start commands) buffer (state_after_all start commands)
  held_exactly commands =
      record {
        cells = λ v c h.
            cells_all commands start usable_start refl v c None h (ap (λ (m : ℕ). in_mask m v) (get_or-replicate {A = ℕ} 16 c 0 0 h) ∙ in_mask-zero v);
        others_kept = floats_all commands start usable_start;
        same_length = (usable_after_all commands start usable_start).buffer_fits ∙ sym buffer_fits;
      }

  -- After a stream of at most 65,536 bytes, called through to its end, they are those of its accepted commands.
  pub held-after-stream : (stream : List ℕ) → length stream ≤ max_stream
      → HoldsExactly (accepted_edits start (contents_of stream).commands) buffer (last_state start (calls start stream))
  held-after-stream stream short = rw (calls_leave start stream short usable_start) (held_exactly (contents_of stream).commands)

  pub finite_held : (commands : List Command) (v c : ℕ) → FiniteCell (held_after (accepted_edits start commands) v c)
  finite_held commands v c = finite_all commands start usable_start v c None tt

  -- An edit that is accepted after commands writes to no cell that then holds a pose: no pose is written over.
  pub written_into_empty : (commands : List Command) (change : Edit) → edit_refusal (held_of (state_after_all start commands).session) change ≡ None
      → (v c : ℕ) → c < max_cameras → writes change v c ≡ true → held_after (accepted_edits start commands) v c ≡ None
  written_into_empty commands change e v c h names =
      go (held_after (accepted_edits start commands) v c) ((held_exactly commands).cells v c h)
      ((edit_law change).into_empty (state_after_all start commands).session e v c names)
    where
      go : (o : Option Pose) → HoldsCell (state_after_all start commands).session.masks (state_after_all start commands).buffer v c o
          → in_mask (get_or (state_after_all start commands).session.masks c 0) v ≡ false → o ≡ None
      go None held clear = refl
      go (Some p) (bit, _) clear = absurd (true≢false (sym bit ∙ clear))
