-- The session answers as it did without the summary: one call (`call_without`), call after call from any offset and whole streams (`calls_without`,
-- `stream_without`), and the lines that they print (`lines_without`), wherever no entry is false; and every session without a summary is met so (`every_plain`).
-- Assumes nothing.
use Prim.Native.Nat.{ℕ, zero, suc, ◌+◌}
use mathlib.Core.Path.{◌≡◌, refl, sym, ap, ◌∙◌}
use mathlib.Core.Bool.{Bool, true, false, not, ◌&&◌, ◌||◌}
use Rattle.std.specs.Prelude.{None, Some}
use mathlib.Core.List.{List, [], ◌∷◌, ◌++◌, map}
use lib.ListN.{length}
use lib.Dec.{eqb, ltb}
use borrow.Author.Tests.{eq-eqb, ne_eqb}
use Rattle.refusal.specs.Table.{refuse_if, first_of}
use Rattle.refusal.specs.declared.Refusal.{Refusal}
use Rattle.refusal.specs.declared.Refusal.TheVariants.{WrongLength, Truncated, TooLong}
use Rattle.command.specs.Command.{Command, edit, solve, Parsed, complete, broken, unknown, parse}
use Rattle.shared_counts.specs.Summary.{summary_of}
use Rattle.shared_counts.proofs.Summaries.{is_summary_of_summary, summary_of_nothing}
use Rattle.session_record.specs.Session.{fresh, held_of, summed as summedOf, buffer_length, possible, possible_held}
use Rattle.session_commands.specs.Commands.{session_after}
use Rattle.session_commands.specs.Obeyed.{State, state, Result, first_length, second_length, reply_to, first_after, second_after, state_after, obeyed}
use Rattle.session.specs.Call.{max_stream, call_refusal, read, call}
use Rattle.session_commands.proofs.Obeying.{obeyed_cases}
use Rattle.session.proofs.Calling.{call_cases}
use Rattle.listing.specs.Listing.{reply_text}
use Rattle.claims_streams.specs.Stream.{Answer, answer, ends_stream, meaning, calls_from, calls}
use Rattle.claims_streams.specs.CallDemand1.{TrueEntries}
use Rattle.claims_streams.proofs.TrueEntries.{true_entries_is, summary_of_true}
use Rattle.claims_streams.proofs.Streams.{calls_from-ends, calls_from_goes_on, calls_give_meaning}
use Rattle.claims_printing.specs.Printed.{printed, fresh_state}
use Rattle.claims_shared.specs.Plain.{PlainState, PlainResult, plain_result, plain_of, forgotten, plain_refusal, plain_after, plain_read, plain_call, PlainAnswer, plain_answer, plain_calls_from, plain_calls, plain_lines}
use Rattle.std.specs.Prelude.{Err, Ok}
use Rattle.session_commands.specs.declared.Done.TheVariants.{End}

-- ---- what one plain call comes to

module _ (t : PlainState) (stream : List ℕ) (at : ℕ) where
  plain-refused : (r : Refusal) → plain_refusal t stream at ≡ Some r → plain_call t stream at ≡ plain_result (Err r) t (length stream)
  unfolding plain_call
  plain-refused r e = rw (e, plain_call)

  plain_end : plain_refusal t stream at ≡ None → at ≡ length stream → plain_call t stream at ≡ plain_result (Ok End) t at
  unfolding plain_call
  plain_end e h = rw (e, plain_call) (rw (eq-eqb at (length stream) h))

  plain-read : plain_refusal t stream at ≡ None → (at ≡ length stream → ⊥) → plain_call t stream at ≡ plain_read t stream at (parse stream at)
  unfolding plain_call
  plain-read e h = rw (e, plain_call) (rw (ne_eqb at (length stream) h))

-- The summary of a state's record is that of its masks.
abbrev Summed : State → Type 0
Summed t = t.session.shared ≡ summary_of t.session.masks

and_right : (b : Bool) → b && true ≡ b
and_right true = refl
and_right false = refl

-- ---- one call

module _ (t : State) (holds : Summed t) where
  same_possible : possible t.session ≡ possible_held (held_of t.session)
  unfolding possible
  same_possible =
      ap (λ (b : Bool). possible_held (held_of t.session) && b) (is_summary_of_summary t.session.masks t.session.shared holds)
      ∙ and_right (possible_held (held_of t.session))

  same_refusal : (stream : List ℕ) (at : ℕ) → call_refusal t stream at ≡ plain_refusal (plain_of t) stream at
  unfolding call_refusal plain_refusal
  same_refusal stream at =
      ap
      (λ (b : Bool).
      first_of
      (refuse_if (ltb max_stream (length stream)) TooLong
      ∷ refuse_if (not (eqb (length t.buffer) buffer_length) || ltb (length t.first) first_length || ltb (length t.second) second_length || not b) WrongLength
      ∷ refuse_if (ltb (length stream) at) (Truncated (length stream))
      ∷ []))
      same_possible

  same_after : (command : Command) → plain_of (state_after t command) ≡ plain_after (plain_of t) command
  unfolding state_after session_after first_after second_after plain_after
  same_after (edit e) = refl
  same_after solve = refl

  same_obeyed : (stream : List ℕ) (at : ℕ) (command : Command) (width : ℕ)
      → forgotten (obeyed t command (at + width)) ≡ plain_read (plain_of t) stream at (complete command width)
  unfolding plain_read
  same_obeyed stream at command width =
      obeyed_cases t command (at + width) (λ (r : Result). forgotten r ≡ plain_read (plain_of t) stream at (complete command width))
      (λ r e. rw (e, plain_read) refl)
      (λ e. rw (e, plain_read) (ap (λ (u : PlainState). plain_result (reply_to command) u (at + width)) (same_after command)))

  same_read : (stream : List ℕ) (at : ℕ) (p : Parsed) → forgotten (read t stream at p) ≡ plain_read (plain_of t) stream at p
  unfolding read plain_read
  same_read stream at (complete command width) = same_obeyed stream at command width
  same_read stream at broken = refl
  same_read stream at (unknown byte) = refl

  -- Nothing but the summary tells the two calls apart.
  one-call : (stream : List ℕ) (at : ℕ) → forgotten (call t stream at) ≡ plain_call (plain_of t) stream at
  one-call stream at =
      call_cases t stream at (λ (r : Result). forgotten r ≡ plain_call (plain_of t) stream at)
      (λ r e. sym (plain-refused (plain_of t) stream at r (sym (same_refusal stream at) ∙ e)))
      (λ e h. sym (plain_end (plain_of t) stream at (sym (same_refusal stream at) ∙ e) h))
      (λ e h. same_read stream at (parse stream at) ∙ sym (plain-read (plain_of t) stream at (sym (same_refusal stream at) ∙ e) h))

  summed_edited : (command : Command) → Summed (state_after t command)
  unfolding state_after session_after
  summed_edited (edit e) = refl
  summed_edited solve = holds

  summed-obeyed : (command : Command) (next : ℕ) → Summed (obeyed t command next).after
  summed-obeyed command next = obeyed_cases t command next (λ (r : Result). Summed r.after) (λ _ _. holds) (λ _. summed_edited command)

  summed-read : (stream : List ℕ) (at : ℕ) (p : Parsed) → Summed (read t stream at p).after
  unfolding read
  summed-read stream at (complete command width) = summed-obeyed command (at + width)
  summed-read stream at broken = holds
  summed-read stream at (unknown byte) = holds

  -- And it is the masks' again after the call.
  summed-after : (stream : List ℕ) (at : ℕ) → Summed (call t stream at).after
  summed-after stream at =
      call_cases t stream at (λ (r : Result). Summed r.after) (λ _ _. holds) (λ _ _. holds) (λ _ _. summed-read stream at (parse stream at))

-- ---- whole streams

module _ (most : ℕ) (t : PlainState) (stream : List ℕ) (at : ℕ) (r : PlainResult) (called : plain_call t stream at ≡ r) where
  plain-calls_end : ends_stream r.reply ≡ true → plain_calls_from (suc most) t stream at ≡ record { reply = r.reply; after = r.after } ∷ []
  unfolding plain_calls_from
  plain-calls_end e = cc

  plain-calls_go_on : ends_stream r.reply ≡ false
      → plain_calls_from (suc most) t stream at ≡ record { reply = r.reply; after = r.after } ∷ plain_calls_from most r.after stream r.next
  unfolding plain_calls_from
  plain-calls_go_on e = cc

calls_from_is : (most : ℕ) (t : State) → Summed t → (stream : List ℕ) (at : ℕ)
    → map plain_answer (calls_from most t stream at) ≡ plain_calls_from most (plain_of t) stream at
unfolding calls_from plain_calls_from
calls_from_is zero t holds stream at = refl
calls_from_is (suc most) t holds stream at =
    go (ends_stream (call t stream at).reply) refl (calls_from_is most (call t stream at).after (summed-after t holds stream at) stream (call t stream at).next)
  where
    r : Result
    r = call t stream at

    same : plain_call (plain_of t) stream at ≡ forgotten r
    same = sym (one-call t holds stream at)

    go : (b : Bool) → ends_stream r.reply ≡ b → map plain_answer (calls_from most r.after stream r.next) ≡ plain_calls_from most (plain_of r.after) stream r.next
        → map plain_answer (calls_from (suc most) t stream at) ≡ plain_calls_from (suc most) (plain_of t) stream at
    go true e later = ap (map plain_answer) (calls_from-ends most t stream at r refl e) ∙ sym (plain-calls_end most (plain_of t) stream at (forgotten r) same e)
    go false e later =
        ap (map plain_answer) (calls_from_goes_on most t stream at r refl e)
        ∙ ap (λ (l : List PlainAnswer). plain_answer (answer r.reply r.after) ∷ l) later
        ∙ sym (plain-calls_go_on most (plain_of t) stream at (forgotten r) same e)

-- ---- lines

lines_of : (answers : List Answer) → printed answers ≡ plain_lines (map plain_answer answers)
unfolding printed plain_lines
lines_of [] = refl
lines_of (a ∷ later) = ap (λ (l : List ℕ). reply_text a.reply (held_of a.after.session) a.after.first a.after.second ++ l) (lines_of later)

-- ---- the theorems

module _ (t : State) (entries : TrueEntries t.session) where
  abbrev summed : Summed t
  summed = summary_of_true t.session entries

  pub call_without : (stream : List ℕ) (at : ℕ) → forgotten (call t stream at) ≡ plain_call (plain_of t) stream at
  call_without = one-call t summed

  -- Call after call, whatever the stream and the offset, and so what a stream means.
  pub calls_without : (most : ℕ) (stream : List ℕ) (at : ℕ) → map plain_answer (calls_from most t stream at) ≡ plain_calls_from most (plain_of t) stream at
  calls_without most stream at = calls_from_is most t summed stream at

  pub stream_without : (stream : List ℕ) → map plain_answer (meaning t stream) ≡ plain_calls (plain_of t) stream
  unfolding calls plain_calls
  stream_without stream = ap (map plain_answer) (sym (calls_give_meaning t stream)) ∙ calls_without (suc (length stream)) stream 0

  pub lines_without : (stream : List ℕ) → printed (meaning t stream) ≡ plain_lines (plain_calls (plain_of t) stream)
  lines_without stream = lines_of (meaning t stream) ∙ ap plain_lines (stream_without stream)

-- From a fresh session, as `rig` begins.
pub rig_without : (stream : List ℕ) → printed (meaning fresh_state stream) ≡ plain_lines (plain_calls (plain_of fresh_state) stream)
rig_without = lines_without fresh_state (true_entries_is fresh (sym summary_of_nothing))

-- Every session without the summary is one with it, forgotten.
abbrev pub full_of : PlainState → State
full_of p = state (summedOf p.held) p.buffer p.first p.second

pub every_plain : (p : PlainState) → (plain_of (full_of p) ≡ p) × TrueEntries (full_of p).session
every_plain p = (refl, true_entries_is (full_of p).session refl)
