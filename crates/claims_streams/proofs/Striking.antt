-- Striking a refused command out of a stream changes no other answer: document 01, "A refused command changes neither session nor
-- buffer, and reading goes on at the next command". First on commands, then on the bytes of a stream (`meaning_with`,
-- `meaning_without`), where the offset that 11 names counts the bytes struck out. Assumes nothing.
use Prim.Native.Nat.{ℕ, zero, suc, ◌+◌, ◌-◌, ◌≤◌, ◌<◌}
use native.Mathlib.Decide.{ℕ_discrete}
use native.Mathlib.Omega.{arith}
use mathlib.Core.Path.{◌≡◌, refl, sym, ap, ap₂, ◌∙◌}
use Rattle.std.specs.Prelude.{Some}
use mathlib.Core.List.{List, [], ◌∷◌, ◌++◌, append_assoc}
use lib.ListN.{length, take, drop, get_or, length-append, length-drop, get_or-append}
use lib.Seq.{get_or-take, length-take-le, take_at, drop_at}
use Rattle.refusal.specs.declared.Refusal.{Refusal}
use Rattle.command.specs.Command.{Command, Parsed, complete, broken, unknown, parse}
use Rattle.command.specs.Framing.{broken_at}
use Rattle.session_record.specs.Session.{held_of}
use Rattle.session_commands.specs.Commands.{command_refusal}
use Rattle.session_commands.specs.Obeyed.{State}
use Rattle.session.specs.Call.{max_stream}
use Rattle.claims_streams.specs.Stream.{Contents, contents, contents_from, rest_of, contents_of, Reads, nothing, one_more, struck, earlier, Answer, answer, answer_to, answers, state_after_all, answers_of, ending_reply, meaning, Usable}
use Rattle.command.proofs.Decoding.{parse-complete, parse-drop, parse_own}
use Rattle.claims_streams.proofs.Contents.{contents_from-none, contents_from_end, contents_from-complete, contents_from-broken, contents_from-unknown, contents_from_enough, rest_of_command, rest_of_reads, reads_le}
use Rattle.claims_streams.proofs.Streams.{passes_of_usable, answers_of-command, meaning_passes}
use Rattle.claims_streams.proofs.Usable.{answer_to-refused}
use Rattle.std.specs.Prelude.{Err}

-- ---- commands

pub answers-append : (t : State) (before after : List Command) → answers t (before ++ after) ≡ answers t before ++ answers (state_after_all t before) after
unfolding answers state_after_all
answers-append t [] after = refl
answers-append t (command ∷ before) after = ap (λ (l : List Answer). answer_to t command ∷ l) (answers-append (answer_to t command).after before after)

pub state_after_all-append : (t : State) (before after : List Command) → state_after_all t (before ++ after) ≡ state_after_all (state_after_all t before) after
unfolding state_after_all
state_after_all-append t [] after = refl
state_after_all-append t (command ∷ before) after = state_after_all-append (answer_to t command).after before after

pub length-answers : (commands : List Command) (t : State) → length (answers t commands) ≡ length commands
unfolding answers
length-answers [] t = refl
length-answers (command ∷ later) t = ap suc (length-answers later (answer_to t command).after)

-- The command is refused with r after the commands before it.
module _ (t : State) (before after : List Command) (command : Command) (r : Refusal)
    (refused : command_refusal (held_of (state_after_all t before).session) (state_after_all t before).buffer command ≡ Some r) where
  -- Its answer stands between the answers to the commands before it and those after it.
  pub answers_with_refused : answers t (before ++ (command ∷ after))
      ≡ answers t before ++ (answer (Err r) (state_after_all t before) ∷ answers (state_after_all t before) after)
  unfolding answers
  answers_with_refused =
      answers-append t before (command ∷ after)
      ∙ ap (λ (a : Answer). answers t before ++ (a ∷ answers a.after after)) (answer_to-refused (state_after_all t before) command r refused)

  -- Without it, the same answers but its own: those before its place, and those after.
  pub answers_without_refused : answers t (before ++ after)
      ≡ take (length before) (answers t (before ++ (command ∷ after))) ++ drop (suc (length before)) (answers t (before ++ (command ∷ after)))
  answers_without_refused =
      let own = answer (Err r) (state_after_all t before) in
      let later = answers (state_after_all t before) after in
      answers-append t before after
      ∙ ap₂ ◌++◌ (sym (take_at (answers t before) (own ∷ later) (length before) (length-answers before t)))
      (sym (drop_at (answers t before ++ (own ∷ [])) later (suc (length before)) (simp length-append (omega (arith, length-answers before t))))
      ∙ ap (drop (suc (length before))) (append_assoc (answers t before) (own ∷ []) later))
      ∙ ap (λ (l : List Answer). take (length before) l ++ drop (suc (length before)) l) (sym answers_with_refused)

  -- And in the end the same stands in the record, the buffer and both answers.
  pub state_without_refused : state_after_all t (before ++ (command ∷ after)) ≡ state_after_all t (before ++ after)
  unfolding state_after_all
  state_without_refused =
      state_after_all-append t before (command ∷ after)
      ∙ ap (λ (a : Answer). state_after_all a.after after) (answer_to-refused (state_after_all t before) command r refused)
      ∙ sym (state_after_all-append t before after)

-- ---- a stream with a part struck out

module _ (stream : List ℕ) (at width : ℕ) (inside : at + width ≤ length stream) where
  abbrev left : List ℕ
  left = struck stream at width

  length_front : length (take at stream) ≡ at
  length_front = length-take-le at stream (omega arith)

  pub length-struck : length left ≡ length stream - width
  length-struck = simp (length-append, length-drop) (omega (arith, length_front))

  get_or-struck : (i : ℕ) → i < at → get_or left i 0 ≡ get_or stream i 0
  get_or-struck i h = get_or-append (take at stream) (drop (at + width) stream) 0 i (omega (arith, length_front)) ∙ get_or-take at stream i 0 h

  parse-struck : (k : ℕ) → parse left (at + k) ≡ parse stream (at + width + k)
  parse-struck k =
      sym (parse-drop at left k (omega (arith, length-struck)))
      ∙ ap (λ (l : List ℕ). parse l k) (drop_at (take at stream) (drop (at + width) stream) at length_front)
      ∙ parse-drop (at + width) stream k inside

  -- The commands before it stand as they stood.
  reads_struck : {from to : ℕ} {commands : List Command} → Reads stream from commands to → to ≤ at → Reads left from commands to
  reads_struck nothing h = nothing
  reads_struck (one_more {at = i} {width = w} {command = command} e later) h =
      one_more
      (parse_own stream left i command w e (λ j l. get_or-struck j (omega (arith, reads_le stream later))) (omega (arith, reads_le stream later, length-struck)))
      (reads_struck later h)

  abbrev earlier_by : Contents → Contents
  earlier_by held = contents held.commands (earlier width held.ending)

  -- What stands after it stands so many bytes earlier.
  contents-struck : (most k : ℕ) → at + width + k ≤ length stream → contents_from most left (at + k) ≡ earlier_by (contents_from most stream (at + width + k))
  unfolding earlier
  contents-struck zero k h = contents_from-none left (at + k) ∙ sym (ap earlier_by (contents_from-none stream (at + width + k)))
  contents-struck (suc most) k h = go (ℕ_discrete (at + width + k) (length stream)) (parse stream (at + width + k)) refl (λ j. contents-struck most j)
    where
      go : Dec (at + width + k ≡ length stream) → (p : Parsed) → parse stream (at + width + k) ≡ p
          → ((j : ℕ) → at + width + j ≤ length stream → contents_from most left (at + j) ≡ earlier_by (contents_from most stream (at + width + j)))
          → contents_from (suc most) left (at + k) ≡ earlier_by (contents_from (suc most) stream (at + width + k))
      go (yes q) p _ later =
          contents_from_end most left (at + k) (omega (arith, length-struck))
          ∙ sym (ap earlier_by (contents_from_end most stream (at + width + k) q))
      go (no q) (complete command w) p later =
          let (some_byte, whole) = parse-complete stream (at + width + k) command w p in
          contents_from-complete most left (at + k) (omega (arith, length-struck)) command w (parse-struck k ∙ p)
          ∙ ap (λ (c : Contents). contents (command ∷ c.commands) c.ending)
          (ap (contents_from most left) (omega arith) ∙ later (k + w) (omega arith) ∙ ap (λ (i : ℕ). earlier_by (contents_from most stream i)) (omega arith))
          ∙ sym (ap earlier_by (contents_from-complete most stream (at + width + k) (omega arith) command w p))
      go (no q) broken p later =
          contents_from-broken most left (at + k) (omega (arith, length-struck)) (parse-struck k ∙ p)
          ∙ ap (λ (i : ℕ). contents [] (broken_at i)) (omega arith)
          ∙ sym (ap earlier_by (contents_from-broken most stream (at + width + k) (omega arith) p))
      go (no q) (unknown byte) p later =
          contents_from-unknown most left (at + k) (omega (arith, length-struck)) byte (parse-struck k ∙ p)
          ∙ sym (ap earlier_by (contents_from-unknown most stream (at + width + k) (omega arith) byte p))

-- ---- the theorem on bytes

answers_of-append : (t : State) (before : List Command) (held : Contents)
    → answers_of t (contents (before ++ held.commands) held.ending) ≡ answers t before ++ answers_of (state_after_all t before) held
unfolding answers_of
answers_of-append t before held =
    ap₂ (λ (l : List Answer) (s : State). l ++ (answer (ending_reply held.ending) s ∷ []))
    (answers-append t before held.commands)
    (state_after_all-append t before held.commands)
    ∙ append_assoc (answers t before) (answers (state_after_all t before) held.commands) _

-- The stream begins with the commands `before`; at the offset `at` follows the command.
module _ (stream : List ℕ) (before : List Command) (at : ℕ) (command : Command) (width : ℕ)
    (begins : Reads stream 0 before at) (follows : parse stream at ≡ complete command width) where
  inside : at + width ≤ length stream
  inside = (parse-complete stream at command width follows).1

  pub contents_with : contents_of stream ≡ contents (before ++ (command ∷ (rest_of stream (at + width)).commands)) (rest_of stream (at + width)).ending
  unfolding contents_of
  contents_with =
      rest_of_reads stream begins
      ∙ ap (λ (k : Contents). contents (before ++ k.commands) k.ending) (rest_of_command stream at command width follows)

  -- Without its bytes the stream holds the same other commands, and ends the same way so many bytes earlier.
  pub contents_without : contents_of (struck stream at width)
      ≡ contents (before ++ (rest_of stream (at + width)).commands) (earlier width (rest_of stream (at + width)).ending)
  unfolding contents_of
  contents_without =
      rest_of_reads (struck stream at width) (reads_struck stream at width inside begins (omega arith))
      ∙ ap (λ (k : Contents). contents (before ++ k.commands) k.ending) after
    where
      after : rest_of (struck stream at width) at ≡ earlier_by stream at width inside (rest_of stream (at + width))
      after =
          contents_from_enough (struck stream at width) (length (struck stream at width)) (length stream) at
          (omega (arith, inside, length-struck stream at width inside))
          (omega arith)
          (omega (arith, length-struck stream at width inside))
          ∙ ap (contents_from (length stream) (struck stream at width)) (omega arith)
          ∙ contents-struck stream at width inside (length stream) 0 (omega (arith, inside))
          ∙ ap (λ (i : ℕ). earlier_by stream at width inside (contents_from (length stream) stream i)) (omega arith)

  -- In a state that passes the checks, and where the command is refused with r.
  module _ (t : State) (r : Refusal) (short : length stream ≤ max_stream) (usable : Usable t)
      (refused : command_refusal (held_of (state_after_all t before).session) (state_after_all t before).buffer command ≡ Some r) where
    -- The answers to the commands before it, its own refusal, and the answers to all that follows.
    pub meaning_with : meaning t stream
        ≡ answers t before ++ (answer (Err r) (state_after_all t before) ∷ answers_of (state_after_all t before) (rest_of stream (at + width)))
    meaning_with =
        let later = rest_of stream (at + width) in
        meaning_passes t stream (passes_of_usable t stream short usable)
        ∙ ap (answers_of t) contents_with
        ∙ answers_of-append t before (contents (command ∷ later.commands) later.ending)
        ∙ ap (λ (l : List Answer). answers t before ++ l)
        (answers_of-command (state_after_all t before) command later
        ∙ ap (λ (a : Answer). a ∷ answers_of a.after later) (answer_to-refused (state_after_all t before) command r refused))

    -- Without its bytes the same answers but its own: only the offset that 11 names, should the stream end within a command, is so many
    -- bytes less.
    pub meaning_without : meaning t (struck stream at width)
        ≡ answers t before
        ++ answers_of (state_after_all t before) (contents (rest_of stream (at + width)).commands (earlier width (rest_of stream (at + width)).ending))
    meaning_without =
        let later = rest_of stream (at + width) in
        meaning_passes t (struck stream at width)
        (passes_of_usable t (struck stream at width) (omega (arith, short, length-struck stream at width inside)) usable)
        ∙ ap (answers_of t) contents_without
        ∙ answers_of-append t before (contents later.commands (earlier width later.ending))
