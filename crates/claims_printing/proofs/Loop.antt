-- However the text is cut, calls of the whole-stream entry, one after the other, leave and print what the stream's meaning does: from every offset on
-- (`rounds_give_rest`), and so for the whole stream (`rounds_give_whole`).
-- First for a loop over single calls with all the room there is (`loop_from`): it stops where the next offset is the stream's end, and the calls of
-- `claims_streams` where a reply ends the stream. Such a reply names the stream's length as the next offset. Any other leaves a state that passes the checks
-- again, and where its command is the last, one call more answers End, which prints nothing. Then a part is cut off that loop. Assumes nothing.
use Prim.Native.Nat.{ℕ, zero, suc, ◌+◌, ◌-◌, ◌≤◌, ◌<◌}
use native.Mathlib.Decide.{dec_le, ℕ_discrete}
use native.Mathlib.Omega.{arith}
use mathlib.Core.Path.{◌≡◌, refl, sym, ap, ◌∙◌, subst}
use mathlib.Core.Logic.{inl, inr}
use mathlib.Core.Bool.{Bool, true, false, cond}
use Rattle.std.specs.Prelude.{Option, None, Some}
use mathlib.Core.List.{List, [], ◌∷◌, ◌++◌, append-nil, append_assoc}
use lib.ListN.{length, take}
use lib.Dec.{ltb}
use lib.Seq.{take_all, length-take-le}
use lib.Ieee.{Float}
use borrow.Author.Tests.{lt-ltb, le-ltb}
use Rattle.refusal.specs.Table.{refuse_if, first_of}
use Rattle.refusal.specs.declared.Refusal.{Refusal}
use Rattle.refusal.specs.declared.Refusal.TheVariants.{Truncated}
use Rattle.command.specs.Command.{Parsed, complete, broken, unknown, parse}
use Rattle.session_commands.specs.Obeyed.{State, state, Result, result}
use Rattle.session.specs.Call.{max_stream, call_refusal, read, call}
use Rattle.command.proofs.Decoding.{parse-complete}
use Rattle.session.proofs.Advancing.{call_advances}
use Rattle.session.proofs.Calling.{call-read, call_cases}
use Rattle.session.proofs.PassedCalls.{call_passed}
use Rattle.listing.specs.Listing.{refusal_line, reply_text, listing_bytes, printed_by}
use Rattle.claims_streams.specs.Stream.{rest_of, contents_of, Answer, answer, stream_refusal, last_state, answers_of, meaning, ends_stream, calls_from, Usable}
use Rattle.claims_streams.proofs.Sound.{possible-fresh}
use Rattle.claims_streams.proofs.Streams.{command_goes_on, call_refusal_passes, call_refusal_refuses, call_end, call_reads, passes_of_usable, obeyed-answer_to, calls_from-ends, calls_from_goes_on, calls_give_rest, meaning-refused, meaning_passes, meaning_too_long}
use Rattle.claims_streams.proofs.CallWords.{usable_of_call}
use Rattle.claims_streams.proofs.Usable.{usable_of_check, check_of_usable, usable_answer}
use Rattle.stream_text.specs.StreamText.{Part, part, behind, part_within, part_in, ObeyedInto}
use Rattle.stream_text.specs.declared.StreamText.{StreamText}
use Rattle.stream_text.proofs.Parts.{part_within-nothing, part_within-turn, part_within-ends, part_within_enough, part_within-next, part_within_advances, call_keeps_passing, part_within_keeps_passing, part_in-refused, part_in_passes}
use Rattle.claims_printing.specs.Printed.{printed, whole_of, meaning_from, whole_from, rounds_from, fresh_state, input_bytes}
use Rattle.std.specs.Prelude.{Err, Ok}
use Rattle.session_commands.specs.declared.Done.TheVariants.{End}

-- ---- a loop over single calls

-- While the offset is before the stream's end: what the call there prints, and then the same from the state that it leaves and the offset that it names.
-- At most so many turns.
unfoldable pub loop_from : ℕ → State → List ℕ → ℕ → Part
loop_from zero t stream at = part t at []
loop_from (suc most) t stream at =
    let r = call t stream at in
    cond (ltb at (length stream)) (behind (printed_by r) (loop_from most r.after stream r.next)) (part t at [])

module _ (stream : List ℕ) where
  loop-end : (most : ℕ) (t : State) (at : ℕ) → length stream ≤ at → loop_from most t stream at ≡ part t at []
  unfolding loop_from
  loop-end zero t at h = refl
  loop-end (suc most) t at h = rw (le-ltb at (length stream) h)

  loop-turn : (most : ℕ) (t : State) (at : ℕ) → at < length stream
      → loop_from (suc most) t stream at ≡ behind (printed_by (call t stream at)) (loop_from most (call t stream at).after stream (call t stream at).next)
  unfolding loop_from
  loop-turn most t at h = rw (lt-ltb at (length stream) h)

  -- Each turn goes on by a byte or more, so that any number of turns that is enough gives the same.
  loop_enough : (m n : ℕ) (t : State) (at : ℕ) → length stream ≤ m + at → length stream ≤ n + at → loop_from m t stream at ≡ loop_from n t stream at
  loop_enough zero n t at em en = loop-end zero t at (omega arith) ∙ sym (loop-end n t at (omega arith))
  loop_enough (suc m) zero t at em en = loop-end (suc m) t at (omega arith) ∙ sym (loop-end zero t at (omega arith))
  loop_enough (suc m) (suc n) t at em en =
      go (dec_le (length stream) at) (loop_enough m n (call t stream at).after (call t stream at).next)
    where
      go : Dec (length stream ≤ at)
          → (length stream ≤ m + (call t stream at).next → length stream ≤ n + (call t stream at).next
          → loop_from m (call t stream at).after stream (call t stream at).next ≡ loop_from n (call t stream at).after stream (call t stream at).next)
          → loop_from (suc m) t stream at ≡ loop_from (suc n) t stream at
      go (yes h) later = loop-end (suc m) t at h ∙ sym (loop-end (suc n) t at h)
      go (no h) later =
          let on = call_advances t stream at (omega arith) in
          loop-turn m t at (omega arith)
          ∙ ap (behind (printed_by (call t stream at))) (later (omega (arith, on)) (omega (arith, on)))
          ∙ sym (loop-turn n t at (omega arith))

-- ---- the loop and the calls

-- The reply ends the stream, and the next offset is its end; or the commands go on in a state that passes the checks, at an offset inside.
data Turn (stream : List ℕ) (r : Result) : Type 0 where
  last : ends_stream r.reply ≡ true → r.next ≡ length stream → Turn stream r
  more : ends_stream r.reply ≡ false → Usable r.after → r.next ≤ length stream → Turn stream r

-- What answers leave and print, once the stream is at its end.
abbrev left_by : State → List ℕ → List Answer → Part
left_by t stream l = part (last_state t l) (length stream) (printed l)

module _ (stream : List ℕ) (short : length stream ≤ max_stream) where
  call-turn : (t : State) (at : ℕ) → Usable t → at < length stream → Turn stream (call t stream at)
  unfolding read ends_stream
  call-turn t at u h = go (parse stream at) refl
    where
      reads : call t stream at ≡ read t stream at (parse stream at)
      reads = call_reads t stream at (passes_of_usable t stream short u) h

      go : (p : Parsed) → parse stream at ≡ p → Turn stream (call t stream at)
      go (complete command width) e =
          rw (reads ∙ ap (read t stream at) e ∙ obeyed-answer_to t command (at + width))
          (more (command_goes_on t command) (usable_answer t u command) (parse-complete stream at command width e).1)
      go broken e = rw (reads ∙ ap (read t stream at) e) (last refl refl)
      go (unknown byte) e = rw (reads ∙ ap (read t stream at) e) (last refl refl)

  -- From an offset that is no further from the end than there are turns left, the loop leaves and prints what the calls do.
  abbrev LoopCalls : ℕ → Type 0
  LoopCalls most =
      (t : State) (at : ℕ) → Usable t → at ≤ length stream → length stream ≤ most + at
      → loop_from most t stream at ≡ left_by t stream (calls_from (suc most) t stream at)

  -- At the stream's end the loop prints nothing, and neither does End.
  loop_calls_end : (most : ℕ) (t : State) (at : ℕ) → Usable t → at ≡ length stream → loop_from most t stream at ≡ left_by t stream (calls_from (suc most) t stream at)
  unfolding printed last_state reply_text ends_stream
  loop_calls_end most t at u e =
      loop-end stream most t at (omega arith)
      ∙ ap (λ (n : ℕ). part t n []) e
      ∙ sym (ap (left_by t stream) (calls_from-ends most t stream at (result (Ok End) t at) (call_end t stream at (passes_of_usable t stream short u) e) refl))

  loop_calls-turn : (most : ℕ) → LoopCalls most → (t : State) (at : ℕ) → Usable t → at < length stream → length stream ≤ suc most + at
      → loop_from (suc most) t stream at ≡ left_by t stream (calls_from (suc (suc most)) t stream at)
  unfolding printed last_state
  loop_calls-turn most later t at u h enough = loop-turn stream most t at h ∙ go (call-turn t at u h)
    where
      r : Result
      r = call t stream at

      go : Turn stream r
          → behind (printed_by r) (loop_from most r.after stream r.next) ≡ left_by t stream (calls_from (suc (suc most)) t stream at)
      go (last ends next) =
          ap (behind (printed_by r)) (loop-end stream most r.after r.next (omega (arith, next)))
          ∙ ap (λ (n : ℕ). part r.after n (printed_by r ++ [])) next
          ∙ sym (ap (left_by t stream) (calls_from-ends (suc most) t stream at r refl ends))
      go (more on passes inside) =
          ap (behind (printed_by r)) (later r.after r.next passes inside (omega (arith, call_advances t stream at h)))
          ∙ sym (ap (left_by t stream) (calls_from_goes_on (suc most) t stream at r refl on))

  loop_calls : (most : ℕ) → LoopCalls most
  loop_calls zero t at u h enough = loop_calls_end zero t at u (omega arith)
  loop_calls (suc most) t at u h enough = go (ℕ_discrete at (length stream)) (loop_calls most)
    where
      go : Dec (at ≡ length stream) → LoopCalls most → loop_from (suc most) t stream at ≡ left_by t stream (calls_from (suc (suc most)) t stream at)
      go (yes e) later = loop_calls_end (suc most) t at u e
      go (no n) later = loop_calls-turn most later t at u (omega arith) enough

-- ---- the meaning from an offset on

pub meaning_from-refused : (t : State) (stream : List ℕ) (at : ℕ) (r : Refusal) → call_refusal t stream at ≡ Some r
    → meaning_from t stream at ≡ answer (Err r) t ∷ []
unfolding meaning_from
meaning_from-refused t stream at r e = rw (e, meaning_from)

pub meaning_from_passes : (t : State) (stream : List ℕ) (at : ℕ) → call_refusal t stream at ≡ None → meaning_from t stream at ≡ answers_of t (rest_of stream at)
unfolding meaning_from
meaning_from_passes t stream at e = rw (e, meaning_from)

-- From the beginning on it is the stream's meaning.
pub meaning_from_beginning : (t : State) (stream : List ℕ) → meaning_from t stream 0 ≡ meaning t stream
unfolding contents_of
meaning_from_beginning t stream = go (stream_refusal t stream) refl
  where
    go : (o : Option Refusal) → stream_refusal t stream ≡ o → meaning_from t stream 0 ≡ meaning t stream
    go None e = meaning_from_passes t stream 0 (call_refusal_passes t stream 0 e (omega arith)) ∙ sym (meaning_passes t stream e)
    go (Some r) e = meaning_from-refused t stream 0 r (call_refusal_refuses t stream 0 r e) ∙ sym (meaning-refused t stream r e)

pub whole_from_beginning : (t : State) (stream : List ℕ) → whole_from t stream 0 ≡ whole_of t stream
whole_from_beginning t stream = ap (left_by t stream) (meaning_from_beginning t stream)

whole_from-refused : (t : State) (stream : List ℕ) (at : ℕ) (r : Refusal) → call_refusal t stream at ≡ Some r
    → whole_from t stream at ≡ part t (length stream) (refusal_line r)
unfolding printed last_state reply_text
whole_from-refused t stream at r e = rw (meaning_from-refused t stream at r e) (ap (part t (length stream)) (append-nil (refusal_line r)))

-- Where nothing is refused before all else, the loop from an offset leaves and prints what the stream's meaning from there does.
pub loop_gives_rest : (t : State) (stream : List ℕ) (at : ℕ) → call_refusal t stream at ≡ None → loop_from (length stream) t stream at ≡ whole_from t stream at
loop_gives_rest t stream at e =
    let (u, inside) = usable_of_call t stream at e in
    let short : length stream ≤ max_stream = (call_passed t stream at e).stream_fits in
    loop_calls stream short (length stream) t at u inside (omega arith)
    ∙ ap (left_by t stream) (calls_give_rest t stream at short u inside ∙ sym (meaning_from_passes t stream at e))

-- ---- a part cut off the loop

module _ (stream : List ℕ) where
  -- What is left of the loop after a part, behind the part's text, is the loop.
  pub loop_cut : (most n : ℕ) (t : State) (at room : ℕ) → length stream ≤ n + at
      → let p = part_within most t stream at room in
      loop_from n t stream at ≡ behind p.text (loop_from n p.after stream p.next)
  loop_cut zero n t at room enough = ap (λ (p : Part). behind p.text (loop_from n p.after stream p.next)) (sym (part_within-nothing stream t at room))
  loop_cut (suc most) n t at room enough =
      go (dec_le (length stream) at) (dec_le listing_bytes room)
      (loop_cut most n (call t stream at).after (call t stream at).next (room - length (printed_by (call t stream at))))
    where
      r : Result
      r = call t stream at

      later : Part
      later = part_within most r.after stream r.next (room - length (printed_by r))

      go : Dec (length stream ≤ at) → Dec (listing_bytes ≤ room)
          → (length stream ≤ n + r.next → loop_from n r.after stream r.next ≡ behind later.text (loop_from n later.after stream later.next))
          → let p = part_within (suc most) t stream at room in
          loop_from n t stream at ≡ behind p.text (loop_from n p.after stream p.next)
      go (yes h) d cut = rw (part_within-ends stream (suc most) t at room (inl h)) refl
      go (no h) (no narrow) cut = rw (part_within-ends stream (suc most) t at room (inr (omega arith))) refl
      go (no h) (yes holds) cut =
          rw (part_within-turn stream most t at room (omega arith) holds)
          (loop_enough stream n (suc n) t at enough (omega arith)
          ∙ loop-turn stream n t at (omega arith)
          ∙ ap (behind (printed_by r)) (cut (omega (arith, call_advances t stream at (omega arith))))
          ∙ ap (λ (l : List ℕ). part (loop_from n later.after stream later.next).after (loop_from n later.after stream later.next).next l)
          (sym (append_assoc (printed_by r) later.text (loop_from n later.after stream later.next).text)))

-- ---- calls of the entry, one after the other

module _ (stream : List ℕ) where
  abbrev RoundsLoop : ℕ → Type 0
  RoundsLoop most =
      (rooms : ℕ → ℕ) → ((i : ℕ) → listing_bytes ≤ rooms i)
      → (n : ℕ) (t : State) (at : ℕ) → call_refusal t stream at ≡ None → length stream ≤ most + at → length stream ≤ n + at
      → rounds_from most rooms t stream at ≡ loop_from n t stream at

  -- A part that comes to the stream's end is all of the loop.
  part-ends : (room n : ℕ) (t : State) (at : ℕ) → listing_bytes ≤ room → call_refusal t stream at ≡ None → length stream ≤ n + at
      → length stream ≤ (part_in t stream at room).next → part_in t stream at room ≡ loop_from n t stream at
  part-ends room n t at holds passes enough ends =
      let p = part_within (length stream) t stream at room in
      let is : part_in t stream at room ≡ p = part_in_passes t stream at room holds passes in
      is
      ∙ ap (part p.after p.next) (sym (append-nil p.text))
      ∙ ap (behind p.text) (sym (loop-end stream n p.after p.next (subst (λ (q : Part). length stream ≤ q.next) is ends)))
      ∙ sym (loop_cut stream (length stream) n t at room enough)

  part_goes_on : (room n : ℕ) (t : State) (at : ℕ) → listing_bytes ≤ room → call_refusal t stream at ≡ None → length stream ≤ n + at
      → let p = part_in t stream at room in
      (loop_from n t stream at ≡ behind p.text (loop_from n p.after stream p.next)) × (call_refusal p.after stream p.next ≡ None) × (at ≤ p.next) × (at < length stream → at < p.next)
  part_goes_on room n t at holds passes enough =
      rw (part_in_passes t stream at room holds passes) (
        loop_cut stream (length stream) n t at room enough,
        part_within_keeps_passing stream (length stream) t at room passes,
        part_within-next stream (length stream) t at room,
        λ h.
            subst (λ (p : Part). at < p.next) (part_within_enough stream (suc (length stream)) (length stream) t at room (omega arith) (omega arith))
            (part_within_advances stream (length stream) t at room h holds),
      )

  rounds_loop : (most : ℕ) → RoundsLoop most
  unfolding rounds_from
  rounds_loop zero rooms hold n t at passes enough again =
      part-ends (rooms 0) n t at (hold 0) passes again (omega (arith, (part_goes_on (rooms 0) n t at (hold 0) passes again).2))
  rounds_loop (suc most) rooms hold n t at passes enough again = go (dec_le (length stream) p.next) (rounds_loop most)
    where
      p : Part
      p = part_in t stream at (rooms 0)

      go : Dec (length stream ≤ p.next) → RoundsLoop most → rounds_from (suc most) rooms t stream at ≡ loop_from n t stream at
      go (yes h) later = rw (le-ltb p.next (length stream) h) (part-ends (rooms 0) n t at (hold 0) passes again h)
      go (no h) later =
          let (cut, on, forward, moved) = part_goes_on (rooms 0) n t at (hold 0) passes again in
          let further : at < p.next = moved (omega (arith, forward)) in
          rw (lt-ltb p.next (length stream) (omega arith))
          (ap (behind p.text) (later (λ i. rooms (suc i)) (λ i. hold (suc i)) n p.after p.next on (omega (arith, further)) (omega (arith, further))) ∙ sym cut)

-- ---- the rest of a stream, and whole streams

past_end : (t : State) (stream : List ℕ) (at : ℕ) → length stream ≤ max_stream → Usable t → length stream < at
    → call_refusal t stream at ≡ Some (Truncated (length stream))
unfolding call_refusal first_of refuse_if
past_end t stream at short u h = rw (le-ltb max_stream (length stream) short, check_of_usable t u, lt-ltb (length stream) at h) refl

-- 13, 5 or 11 is the answer to the first call, and there is no second.
rounds_refused : (t : State) (stream : List ℕ) (at : ℕ) (rooms : ℕ → ℕ) → ((i : ℕ) → listing_bytes ≤ rooms i) → (r : Refusal) → call_refusal t stream at ≡ Some r
    → (most : ℕ) → rounds_from most rooms t stream at ≡ part t (length stream) (refusal_line r)
unfolding rounds_from
rounds_refused t stream at rooms hold r e = once
  where
    refused : part_in t stream at (rooms 0) ≡ part t (length stream) (refusal_line r)
    refused = part_in-refused t stream at (rooms 0) (hold 0) r e

    once : (most : ℕ) → rounds_from most rooms t stream at ≡ part t (length stream) (refusal_line r)
    once zero = refused
    once (suc most) = rw (refused, le-ltb (length stream) (length stream) (omega arith)) refl

-- Whatever the state, the stream and the offset, and however the text is cut, if every piece holds any reply: the calls of the entry from that offset on, one
-- after the other, leave and print what the stream's meaning from there does.
pub rounds_give_rest : (t : State) (stream : List ℕ) (at : ℕ) (rooms : ℕ → ℕ) → ((i : ℕ) → listing_bytes ≤ rooms i)
    → rounds_from (length stream) rooms t stream at ≡ whole_from t stream at
rounds_give_rest t stream at rooms hold = go (call_refusal t stream at) refl
  where
    go : (o : Option Refusal) → call_refusal t stream at ≡ o → rounds_from (length stream) rooms t stream at ≡ whole_from t stream at
    go None e = rounds_loop stream (length stream) rooms hold (length stream) t at e (omega arith) (omega arith) ∙ loop_gives_rest t stream at e
    go (Some r) e = rounds_refused t stream at rooms hold r e (length stream) ∙ sym (whole_from-refused t stream at r e)

-- From the beginning on, what the whole stream's meaning does.
pub rounds_give_whole : (t : State) (stream : List ℕ) (rooms : ℕ → ℕ) → ((i : ℕ) → listing_bytes ≤ rooms i)
    → rounds_from (length stream) rooms t stream 0 ≡ whole_of t stream
rounds_give_whole t stream rooms hold = rounds_give_rest t stream 0 rooms hold ∙ whole_from_beginning t stream

-- An offset past the end: 11, detail the length, is printed, and nothing else changes.
pub rounds_past_end : (t : State) (stream : List ℕ) (at : ℕ) (rooms : ℕ → ℕ) → ((i : ℕ) → listing_bytes ≤ rooms i) → length stream ≤ max_stream → Usable t
    → length stream < at → rounds_from (length stream) rooms t stream at ≡ part t (length stream) (refusal_line (Truncated (length stream)))
rounds_past_end t stream at rooms hold short u past =
    rounds_refused t stream at rooms hold (Truncated (length stream)) (past_end t stream at short u past) (length stream)

-- ---- what is still to come, for loops over calls

-- What is left once the stream is at its end, and all that is printed until then.
unfoldable pub at_end : State → List ℕ → ℕ → Part
at_end t stream at = elim (call_refusal t stream at) [ Some r ↦ part t (length stream) (refusal_line r) | None ↦ loop_from (length stream) t stream at ]

-- It is what the stream's meaning from that offset leaves and prints.
pub at_end_from : (t : State) (stream : List ℕ) (at : ℕ) → at_end t stream at ≡ whole_from t stream at
unfolding at_end
at_end_from t stream at = go (call_refusal t stream at) refl
  where
    go : (o : Option Refusal) → call_refusal t stream at ≡ o → at_end t stream at ≡ whole_from t stream at
    go None e = rw (e, at_end) (loop_gives_rest t stream at e)
    go (Some r) e = rw (e, at_end) (sym (whole_from-refused t stream at r e))

pub at_end_whole : (t : State) (stream : List ℕ) → at_end t stream 0 ≡ whole_of t stream
at_end_whole t stream = at_end_from t stream 0 ∙ whole_from_beginning t stream

-- A turn from an offset leaves and prints a part: where commands are left, the same end is still to come behind it, the turn went on, and the stream is no
-- longer than one may be; where none is left, that end is there.
pub record OneRound (t : State) (stream : List ℕ) (at : ℕ) (p : Part) : Type 0 where
  pub goes_on : p.next < length stream → behind p.text (at_end p.after stream p.next) ≡ at_end t stream at
  pub advances : p.next < length stream → at < p.next
  pub stream_fits : p.next < length stream → length stream ≤ max_stream
  pub ends : length stream ≤ p.next → p ≡ at_end t stream at

module _ (t : State) (stream : List ℕ) (at : ℕ) where
  -- One call of the entry with room for any reply.
  pub one_round : (room : ℕ) → listing_bytes ≤ room → OneRound t stream at (part_in t stream at room)
  unfolding at_end
  one_round room holds = go (call_refusal t stream at) refl
    where
      go : (o : Option Refusal) → call_refusal t stream at ≡ o → OneRound t stream at (part_in t stream at room)
      go (Some r) e =
          rw (part_in-refused t stream at room holds r e)
          (record {
            goes_on = λ h. absurd (omega arith);
            advances = λ h. absurd (omega arith);
            stream_fits = λ h. absurd (omega arith);
            ends = λ h. rw (e, at_end) refl;
          })
      go None e =
          let (cut, on, forward, moved) = part_goes_on stream room (length stream) t at holds e (omega arith) in
          record {
            goes_on = λ h. rw (on, at_end) (rw (e, at_end) (sym cut));
            advances = λ h. moved (omega (arith, forward));
            stream_fits = λ h. (call_passed t stream at e).stream_fits;
            ends = λ h. rw (e, at_end) (part-ends stream room (length stream) t at holds e (omega arith) h);
          }

  -- One call of the session, for one command.
  pub one-call : let r = call t stream at in OneRound t stream at (part r.after r.next (printed_by r))
  unfolding at_end reply_text
  one-call =
      call_cases t stream at (λ (r : Result). OneRound t stream at (part r.after r.next (printed_by r)))
      (λ _ e.
      record {
        goes_on = λ h. absurd (omega arith);
        advances = λ h. absurd (omega arith);
        stream_fits = λ h. absurd (omega arith);
        ends = λ h. rw (e, at_end) refl;
      })
      (λ e here.
      record {
        goes_on = λ k. absurd (omega arith);
        advances = λ k. absurd (omega arith);
        stream_fits = λ k. absurd (omega arith);
        ends = λ k. rw (e, at_end) (sym (loop-end stream (length stream) t at (omega arith)));
      })
      (λ e before. rw (← call-read t stream at e before) (inside e (omega (arith, (call_passed t stream at e).at_inside))))
    where
      r : Result
      r = call t stream at

      alone : Part
      alone = part r.after r.next (printed_by r)

      turn : at < length stream → loop_from (length stream) t stream at ≡ behind (printed_by r) (loop_from (length stream) r.after stream r.next)
      turn h = loop_enough stream (length stream) (suc (length stream)) t at (omega arith) (omega arith) ∙ loop-turn stream (length stream) t at h

      inside : call_refusal t stream at ≡ None → at < length stream → OneRound t stream at alone
      inside e h =
          record {
            goes_on = λ _. rw (call_keeps_passing t stream at e h, at_end) (rw (e, at_end) (sym (turn h)));
            advances = λ _. call_advances t stream at h;
            stream_fits = λ _. (call_passed t stream at e).stream_fits;
            ends = λ k.
                rw (e, at_end)
                (ap (part r.after r.next) (sym (append-nil (printed_by r)))
                ∙ ap (behind (printed_by r)) (sym (loop-end stream (length stream) r.after r.next k))
                ∙ sym (turn h));
          }

-- The same from what the code's answer says.
pub round_of : {t : State} {stream : List ℕ} {at : ℕ} {answer : StreamText} {buffer first : List Float} {second old new : List ℕ} → listing_bytes ≤ length old
    → ObeyedInto t stream at answer buffer first second old new
    → OneRound t stream at (part (state answer.session buffer first second) answer.next (part_in t stream at (length old)).text)
round_of {t} {stream} {at} {old} holds o =
    let l = o.leaves in
    rw (l.session, l.buffer_after_is, l.first_after_is, l.second_after_is, l.next) (one_round t stream at (length old) holds)

-- How many turns are left at most.
abbrev pub turns_left : Bool → ℕ → ℕ → ℕ
turns_left going end at = cond going (suc (end - at)) 0

pub round_falls : {t : State} {stream : List ℕ} {at : ℕ} {p : Part} → OneRound t stream at p → {going : Bool} → going ≡ true
    → turns_left (ltb p.next (length stream)) (length stream) p.next < turns_left going (length stream) at
round_falls {stream} {at} {p} round {going} e = rw e (go (dec_le (length stream) p.next))
  where
    go : Dec (length stream ≤ p.next) → turns_left (ltb p.next (length stream)) (length stream) p.next < turns_left true (length stream) at
    go (yes h) = rw (le-ltb p.next (length stream) h) (omega arith)
    go (no h) = rw (lt-ltb p.next (length stream) (omega arith)) (omega (arith, round.advances (omega arith)))

-- ---- what `rig` prints

pub fresh_usable : Usable fresh_state
fresh_usable = usable_of_check fresh_state (rw possible-fresh refl)

-- A stream cut behind the first byte that is too many answers what the whole stream does.
pub meaning_cut : (t : State) (stream : List ℕ) → meaning t (take input_bytes stream) ≡ meaning t stream
meaning_cut t stream = go (dec_le (length stream) input_bytes)
  where
    go : Dec (length stream ≤ input_bytes) → meaning t (take input_bytes stream) ≡ meaning t stream
    go (yes h) = ap (meaning t) (take_all input_bytes stream h)
    go (no h) =
        meaning_too_long t (take input_bytes stream) (omega (arith, length-take-le input_bytes stream (omega arith)))
        ∙ sym (meaning_too_long t stream (omega arith))

-- For every input: the calls' text on what is read of it is what the whole input's meaning prints.
pub rig_prints : (input : List ℕ) (rooms : ℕ → ℕ) → ((i : ℕ) → listing_bytes ≤ rooms i) → let stream = take input_bytes input in
    (rounds_from (length stream) rooms fresh_state stream 0).text ≡ printed (meaning fresh_state input)
rig_prints input rooms hold =
    ap (λ (p : Part). p.text) (rounds_give_whole fresh_state (take input_bytes input) rooms hold) ∙ ap printed (meaning_cut fresh_state input)
