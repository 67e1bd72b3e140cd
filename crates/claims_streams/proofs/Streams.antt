-- The calls, one after the other, give a stream's meaning: `calls_give_meaning`. Document 01: "The library obeys one command per call,
-- at an offset the caller names, and tells where the next begins". By induction on the bytes left: every command leaves a state that
-- passes the checks again, its refusal does not end the stream, and the next call reads where the next command begins. Assumes nothing.
use Prim.Native.Nat.{ℕ, zero, suc, ◌+◌, ◌≤◌, ◌<◌}
use native.Mathlib.Decide.{ℕ_discrete}
use native.Mathlib.Omega.{arith}
use mathlib.Core.Path.{◌≡◌, refl, sym, ap, subst, ◌∙◌}
use mathlib.Core.Bool.{Bool, true, false, not}
use Rattle.std.specs.Prelude.{Option, None, Some}
use mathlib.Core.List.{List, [], ◌∷◌, ◌++◌}
use lib.ListN.{length}
use lib.Dec.{eqb, ltb}
use lib.Ieee.{Float}
use borrow.Author.Tests.{ltb-false, lt-ltb, le-ltb, eq-eqb, ne_eqb}
use Rattle.refusal.specs.Table.{refuse_if, first_of}
use Rattle.refusal.specs.declared.Refusal.{Refusal}
use Rattle.refusal.specs.declared.Refusal.TheVariants.{NoSize, WrongLength, NotFinite, Unreached, EmptyView, Truncated, TooLong}
use Rattle.placing.specs.Grid.{Grid}
use Rattle.extrinsics.specs.Outcome.{lowest_not_finite, not_finite, unreached_set, unreached, lowest_empty_view, empty_view, grid_refusal}
use Rattle.inputs.proofs.Answering.{refuse_if-none, first_of_none_all}
use Rattle.inputs.proofs.InTurn.{If, if_first_of, if_refuse_if, if_refuse_at}
use Rattle.command.specs.Command.{Command, edit, solve, Parsed, complete, broken, unknown, parse}
use Rattle.command.specs.Framing.{Ending, clean, unknown_byte, broken_at}
use Rattle.session_record.specs.Session.{held_of, has_size, session_grid}
use Rattle.session_commands.specs.Commands.{command_refusal}
use Rattle.session_commands.specs.Obeyed.{State, Result, result, reply_to, obeyed}
use Rattle.session.specs.Call.{max_stream, call_refusal, stopped, read, call, unusable}
use Rattle.session_commands.proofs.Obeying.{obeyed_cases}
use Rattle.claims_streams.specs.Stream.{Contents, contents, contents_from, rest_of, contents_of, Answer, answer, answer_to, answers, state_after_all, last_state, stream_refusal, ending_reply, answers_of, meaning, ends_stream, calls_from, calls, Usable}
use Rattle.session_record.specs.declared.Session.{Session}
use Rattle.command.proofs.Decoding.{parse-complete}
use Rattle.claims_streams.proofs.Accepting.{first_of_all_none, refuse_if_false, solve_checks}
use Rattle.claims_streams.proofs.Edits.Law.{GoesOn}
use Rattle.claims_streams.proofs.Edits.All.{edit_law}
use Rattle.claims_streams.proofs.Contents.{contents_from-none, contents_from_end, contents_from-complete, contents_from-broken, contents_from-unknown}
use Rattle.claims_streams.proofs.Usable.{usable_of_check, check_of_usable, usable_answer, answer_to-accepted, answer_to-refused}
use Rattle.std.specs.Prelude.{Err, Ok}
use Rattle.session_commands.specs.declared.Done.TheVariants.{End}

-- ---- a command's refusal does not end the stream

goes_on_grid : (g : Grid) → If GoesOn (grid_refusal g)
unfolding ends_stream grid_refusal not_finite unreached empty_view
goes_on_grid g =
    if_first_of GoesOn (not_finite g ∷ unreached g ∷ empty_view g ∷ []) (
      if_refuse_at GoesOn (lowest_not_finite g) NotFinite (λ n e. refl),
      λ e. (
        if_refuse_if GoesOn (not (eqb (unreached_set g) 0)) (Unreached (unreached_set g)) refl,
        λ e. (if_refuse_at GoesOn (lowest_empty_view g) EmptyView (λ n e. refl), λ e. tt),
      ),
    )

goes_on_command : (s : Session) (buffer : List Float) (command : Command) → If GoesOn (command_refusal (held_of s) buffer command)
unfolding command_refusal ends_stream
goes_on_command s buffer (edit change) = (edit_law change).goes_on s
goes_on_command s buffer solve =
    subst (If GoesOn) (sym (solve_checks s buffer))
    (if_first_of GoesOn (refuse_if (not (has_size (held_of s))) NoSize ∷ grid_refusal (session_grid (held_of s) buffer) ∷ [])
    (if_refuse_if GoesOn (not (has_size (held_of s))) NoSize refl, λ e. (goes_on_grid (session_grid (held_of s) buffer), λ e. tt)))

obeyed_goes_on : (command : Command) → ends_stream (reply_to command) ≡ false
unfolding ends_stream reply_to
obeyed_goes_on (edit change) = refl
obeyed_goes_on solve = refl

-- Neither a command's refusal nor its acceptance ends the stream.
pub command_goes_on : (t : State) (command : Command) → ends_stream (answer_to t command).reply ≡ false
command_goes_on t command = go (command_refusal (held_of t.session) t.buffer command) refl (goes_on_command t.session t.buffer command)
  where
    go : (o : Option Refusal) → command_refusal (held_of t.session) t.buffer command ≡ o → If GoesOn (command_refusal (held_of t.session) t.buffer command)
        → ends_stream (answer_to t command).reply ≡ false
    go None e g = rw (answer_to-accepted t command e) (obeyed_goes_on command)
    go (Some r) e g = rw (answer_to-refused t command r e) (subst (If GoesOn) e g)

-- ---- one call

-- 13, then 5, and an offset past the end.
module _ (t : State) (stream : List ℕ) (at : ℕ) where
  abbrev call_checks : List (Option Refusal)
  call_checks =
      refuse_if (ltb max_stream (length stream)) TooLong
      ∷ refuse_if (unusable t) WrongLength
      ∷ refuse_if (ltb (length stream) at) (Truncated (length stream))
      ∷ []

  call_refusal_checks : call_refusal t stream at ≡ first_of call_checks
  unfolding call_refusal
  call_refusal_checks = refl

  stream_refusal_checks : stream_refusal t stream ≡ first_of (refuse_if (ltb max_stream (length stream)) TooLong ∷ refuse_if (unusable t) WrongLength ∷ [])
  unfolding stream_refusal
  stream_refusal_checks = refl

  pub call_refusal_passes : stream_refusal t stream ≡ None → at ≤ length stream → call_refusal t stream at ≡ None
  call_refusal_passes e h =
      let (long, (wrong, _)) = first_of_none_all _ (sym stream_refusal_checks ∙ e) in
      call_refusal_checks ∙ first_of_all_none call_checks (long, (wrong, (refuse_if_false _ _ (le-ltb (length stream) at h), tt)))

  pub call_refusal_refuses : (r : Refusal) → stream_refusal t stream ≡ Some r → call_refusal t stream at ≡ Some r
  unfolding first_of
  call_refusal_refuses r e =
      call_refusal_checks
      ∙ go (refuse_if (ltb max_stream (length stream)) TooLong) (refuse_if (unusable t) WrongLength) (refuse_if (ltb (length stream) at) (Truncated (length stream)))
      (sym stream_refusal_checks ∙ e)
    where
      go : (a b c : Option Refusal) → first_of (a ∷ b ∷ []) ≡ Some r → first_of (a ∷ b ∷ c ∷ []) ≡ Some r
      go None None c f = cc
      go None (Some q) c f = f
      go (Some q) b c f = f

  -- "5, 10, 11 and 13 end the stream: the next offset is then its length", whatever the offset of the call.
  pub call-refused : (r : Refusal) → stream_refusal t stream ≡ Some r → call t stream at ≡ stopped t stream r
  unfolding call
  call-refused r e = rw (call_refusal_refuses r e, call)

  module _ (passes : stream_refusal t stream ≡ None) where
    pub call_end : at ≡ length stream → call t stream at ≡ result (Ok End) t at
    unfolding call
    call_end e = rw (call_refusal_passes passes (omega arith), call, eq-eqb at (length stream) e)

    pub call_reads : at < length stream → call t stream at ≡ read t stream at (parse stream at)
    unfolding call
    call_reads h = rw (call_refusal_passes passes (omega arith), call, ne_eqb at (length stream) (omega arith))

pub passes_of_usable : (t : State) (stream : List ℕ) → length stream ≤ max_stream → Usable t → stream_refusal t stream ≡ None
passes_of_usable t stream short u =
    stream_refusal_checks t stream 0
    ∙ first_of_all_none _
    (refuse_if_false (ltb max_stream (length stream)) TooLong (le-ltb max_stream (length stream) short), (refuse_if_false _ _ (check_of_usable t u), tt))

pub usable_of_passes : (t : State) (stream : List ℕ) → stream_refusal t stream ≡ None → (length stream ≤ max_stream) × Usable t
usable_of_passes t stream e =
    let (long, (wrong, _)) = first_of_none_all _ (sym (stream_refusal_checks t stream 0) ∙ e) in
    (ltb-false _ _ (refuse_if-none _ _ long), usable_of_check t (refuse_if-none _ _ wrong))

-- A command is obeyed or refused as its answer says.
pub obeyed-answer_to : (t : State) (command : Command) (next : ℕ) → obeyed t command next ≡ result (answer_to t command).reply (answer_to t command).after next
obeyed-answer_to t command next =
    obeyed_cases t command next (λ (r : Result). r ≡ result (answer_to t command).reply (answer_to t command).after next)
    (λ r e. rw (answer_to-refused t command r e) refl) (λ e. rw (answer_to-accepted t command e) refl)

-- ---- calls in a row

module _ (most : ℕ) (t : State) (stream : List ℕ) (at : ℕ) (r : Result) (called : call t stream at ≡ r) where
  pub calls_from-ends : ends_stream r.reply ≡ true → calls_from (suc most) t stream at ≡ answer r.reply r.after ∷ []
  unfolding calls_from
  calls_from-ends e = cc

  pub calls_from_goes_on : ends_stream r.reply ≡ false → calls_from (suc most) t stream at ≡ answer r.reply r.after ∷ calls_from most r.after stream r.next
  unfolding calls_from
  calls_from_goes_on e = cc

-- ---- the theorem

pub answers_of-command : (t : State) (command : Command) (later : Contents)
    → answers_of t (contents (command ∷ later.commands) later.ending) ≡ answer_to t command ∷ answers_of (answer_to t command).after later
unfolding answers_of answers state_after_all
answers_of-command t command later = refl

answers_of_end : (t : State) (ending : Ending) → answers_of t (contents [] ending) ≡ answer (ending_reply ending) t ∷ []
unfolding answers_of answers state_after_all
answers_of_end t ending = refl

ending-ends : (ending : Ending) → ends_stream (ending_reply ending) ≡ true
unfolding ends_stream ending_reply
ending-ends clean = refl
ending-ends (unknown_byte byte) = refl
ending-ends (broken_at at) = refl

module _ (stream : List ℕ) (short : length stream ≤ max_stream) where
  -- A call that reads an ending is the last.
  calls_from-ending : (most : ℕ) (t : State) (at next : ℕ) (ending : Ending) → call t stream at ≡ result (ending_reply ending) t next
      → calls_from (suc most) t stream at ≡ answers_of t (contents [] ending)
  calls_from-ending most t at next ending called =
      calls_from-ends most t stream at (result (ending_reply ending) t next) called (ending-ends ending) ∙ sym (answers_of_end t ending)

  -- What calls from an offset on give, where the offset is no further from the end than there are calls left.
  abbrev GiveContents : ℕ → Type 0
  GiveContents most =
      (t : State) (at : ℕ) → Usable t → at ≤ length stream → length stream ≤ most + at
      → calls_from (suc most) t stream at ≡ answers_of t (contents_from most stream at)

  module _ (most : ℕ) (later : GiveContents most) (t : State) (at : ℕ) (u : Usable t) (h : at < length stream) (enough : length stream ≤ suc most + at) where
    reads : call t stream at ≡ read t stream at (parse stream at)
    reads = call_reads t stream at (passes_of_usable t stream short u) h

    calls_from_command : (command : Command) (width : ℕ) → parse stream at ≡ complete command width
        → calls_from (suc (suc most)) t stream at ≡ answers_of t (contents_from (suc most) stream at)
    unfolding read
    calls_from_command command width e =
        let (some_byte, whole) = parse-complete stream at command width e in
        calls_from_goes_on (suc most) t stream at (result (answer_to t command).reply (answer_to t command).after (at + width))
        (reads ∙ ap (read t stream at) e ∙ obeyed-answer_to t command (at + width)) (command_goes_on t command)
        ∙ ap (λ (l : List Answer). answer_to t command ∷ l) (later (answer_to t command).after (at + width) (usable_answer t u command) whole (omega arith))
        ∙ sym (answers_of-command t command (contents_from most stream (at + width)))
        ∙ ap (answers_of t) (sym (contents_from-complete most stream at h command width e))

    calls_from_unknown : (byte : ℕ) → parse stream at ≡ unknown byte
        → calls_from (suc (suc most)) t stream at ≡ answers_of t (contents_from (suc most) stream at)
    unfolding read ending_reply
    calls_from_unknown byte e =
        calls_from-ending (suc most) t at (length stream) (unknown_byte byte) (reads ∙ ap (read t stream at) e)
        ∙ ap (answers_of t) (sym (contents_from-unknown most stream at h byte e))

    calls_from_broken : parse stream at ≡ broken → calls_from (suc (suc most)) t stream at ≡ answers_of t (contents_from (suc most) stream at)
    unfolding read ending_reply
    calls_from_broken e =
        calls_from-ending (suc most) t at (length stream) (broken_at at) (reads ∙ ap (read t stream at) e)
        ∙ ap (answers_of t) (sym (contents_from-broken most stream at h e))

    calls_from_parsed : (p : Parsed) → parse stream at ≡ p → calls_from (suc (suc most)) t stream at ≡ answers_of t (contents_from (suc most) stream at)
    calls_from_parsed (complete command width) e = calls_from_command command width e
    calls_from_parsed broken e = calls_from_broken e
    calls_from_parsed (unknown byte) e = calls_from_unknown byte e

  calls_from_length : (most : ℕ) (t : State) (at : ℕ) → Usable t → at ≡ length stream → calls_from (suc most) t stream at ≡ answers_of t (contents [] clean)
  unfolding ending_reply
  calls_from_length most t at u e =
      calls_from-ending most t at at clean (call_end t stream at (passes_of_usable t stream short u) e)

  calls_from_is : (most : ℕ) → GiveContents most
  calls_from_is zero t at u h enough = calls_from_length zero t at u (omega arith) ∙ ap (answers_of t) (sym (contents_from-none stream at))
  calls_from_is (suc most) t at u h enough = go (ℕ_discrete at (length stream)) (calls_from_is most)
    where
      go : Dec (at ≡ length stream) → GiveContents most → calls_from (suc (suc most)) t stream at ≡ answers_of t (contents_from (suc most) stream at)
      go (yes e) later = calls_from_length (suc most) t at u e ∙ ap (answers_of t) (sym (contents_from_end most stream at e))
      go (no n) later = calls_from_parsed most later t at u (omega arith) enough (parse stream at) refl

-- ---- 13 and 5

pub meaning-refused : (t : State) (stream : List ℕ) (r : Refusal) → stream_refusal t stream ≡ Some r → meaning t stream ≡ answer (Err r) t ∷ []
unfolding meaning
meaning-refused t stream r e = rw (e, meaning)

pub meaning_passes : (t : State) (stream : List ℕ) → stream_refusal t stream ≡ None → meaning t stream ≡ answers_of t (contents_of stream)
unfolding meaning
meaning_passes t stream e = rw (e, meaning)

-- 13 or 5 ends the stream.
refusal-ends : (t : State) (stream : List ℕ) (r : Refusal) → stream_refusal t stream ≡ Some r → ends_stream (Err r) ≡ true
unfolding ends_stream first_of refuse_if
refusal-ends t stream r e = go (ltb max_stream (length stream)) (unusable t) (sym (stream_refusal_checks t stream 0) ∙ e)
  where
    go : (a b : Bool) → first_of (refuse_if a TooLong ∷ refuse_if b WrongLength ∷ []) ≡ Some r → ends_stream (Err r) ≡ true
    go true b f = let same : TooLong ≡ r = cc in rw (← same)
    go false true f = let same : WrongLength ≡ r = cc in rw (← same)
    go false false f = cc

calls-refused : (t : State) (stream : List ℕ) (r : Refusal) → stream_refusal t stream ≡ Some r → calls t stream ≡ answer (Err r) t ∷ []
unfolding calls
calls-refused t stream r e =
    calls_from-ends (length stream) t stream 0 (stopped t stream r) (call-refused t stream 0 r e) (refusal-ends t stream r e)

-- The calls on a stream of at most 65,536 bytes in a state that passes the check for 5: from an offset that is not past the end, and from the beginning.
pub calls_give_rest : (t : State) (stream : List ℕ) (at : ℕ) → length stream ≤ max_stream → Usable t → at ≤ length stream
    → calls_from (suc (length stream)) t stream at ≡ answers_of t (rest_of stream at)
calls_give_rest t stream at short u h = calls_from_is stream short (length stream) t at u h (omega arith)

pub calls_give_answers : (t : State) (stream : List ℕ) → length stream ≤ max_stream → Usable t → calls t stream ≡ answers_of t (contents_of stream)
unfolding calls contents_of
calls_give_answers t stream short u = calls_give_rest t stream 0 short u (omega arith)

-- For every state and every stream, the calls one after the other from offset 0 give what the stream means.
pub calls_give_meaning : (t : State) (stream : List ℕ) → calls t stream ≡ meaning t stream
calls_give_meaning t stream = go (stream_refusal t stream) refl
  where
    go : (o : Option Refusal) → stream_refusal t stream ≡ o → calls t stream ≡ meaning t stream
    go None e =
        let (short, u) = usable_of_passes t stream e in
        calls_give_answers t stream short u ∙ sym (meaning_passes t stream e)
    go (Some r) e = calls-refused t stream r e ∙ sym (meaning-refused t stream r e)

-- 13: every call on a stream of more than 65,536 bytes, whatever the state and the offset, changes nothing and tells the length as the
-- next offset; and that is the stream's one answer.
module _ (t : State) (stream : List ℕ) (long : max_stream < length stream) where
  refused_too_long : stream_refusal t stream ≡ Some TooLong
  unfolding stream_refusal first_of refuse_if
  refused_too_long = rw (lt-ltb max_stream (length stream) long)

  pub call_too_long : (at : ℕ) → call t stream at ≡ stopped t stream TooLong
  call_too_long at = call-refused t stream at TooLong refused_too_long

  pub meaning_too_long : meaning t stream ≡ answer (Err TooLong) t ∷ []
  meaning_too_long = meaning-refused t stream TooLong refused_too_long

second_refuses : (a b : Bool) → a ≡ false → b ≡ true → first_of (refuse_if a TooLong ∷ refuse_if b WrongLength ∷ []) ≡ Some WrongLength
unfolding first_of refuse_if
second_refuses a b e f = rw (e, f)

-- 5: so does every call in a state that does not pass, on any other stream.
module _ (t : State) (stream : List ℕ) (short : length stream ≤ max_stream) (wrong : Usable t → ⊥) where
  refused_wrong_length : stream_refusal t stream ≡ Some WrongLength
  refused_wrong_length = go (unusable t) refl
    where
      go : (b : Bool) → unusable t ≡ b → stream_refusal t stream ≡ Some WrongLength
      go true e = stream_refusal_checks t stream 0 ∙ second_refuses _ _ (le-ltb max_stream (length stream) short) e
      go false e = absurd (wrong (usable_of_check t e))

  pub call_wrong_length : (at : ℕ) → call t stream at ≡ stopped t stream WrongLength
  call_wrong_length at = call-refused t stream at WrongLength refused_wrong_length

  pub meaning_wrong_length : meaning t stream ≡ answer (Err WrongLength) t ∷ []
  meaning_wrong_length = meaning-refused t stream WrongLength refused_wrong_length

-- ---- after the last call

last_state-append : (t : State) (l : List Answer) (a : Answer) → last_state t (l ++ (a ∷ [])) ≡ a.after
unfolding last_state
last_state-append t [] a = refl
last_state-append t (b ∷ l) a = last_state-append b.after l a

-- After the calls on a stream that passes the checks stands what its commands leave.
pub calls_leave : (t : State) (stream : List ℕ) → length stream ≤ max_stream → Usable t
    → last_state t (calls t stream) ≡ state_after_all t (contents_of stream).commands
unfolding answers_of
calls_leave t stream short u =
    ap (last_state t) (calls_give_answers t stream short u)
    ∙ last_state-append t (answers t (contents_of stream).commands) (answer (ending_reply (contents_of stream).ending) (state_after_all t (contents_of stream).commands))
