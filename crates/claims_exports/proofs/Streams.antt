-- The calls of `placer_step` on a whole stream come to an end (`steps_end`) and give its meaning (`steps_give_meaning`), for any record that a
-- caller hands in, and so from a fresh session's zeros (`steps_from_fresh`). By induction on the calls: each is the session's call, and leaves
-- words that hold that call's session. Assumes nothing.
use Prim.Native.Nat.{ℕ, zero, suc, ◌+◌, ◌≤◌, ◌<◌}
use native.Mathlib.Decide.{dec_lt}
use native.Mathlib.Omega.{arith}
use mathlib.Core.Path.{◌≡◌, refl, sym, ap, ap₂, ◌∙◌}
use mathlib.Core.Bool.{Bool, true, false, true≢false}
use Rattle.std.specs.Prelude.{Some}
use mathlib.Core.List.{List, [], ◌∷◌}
use lib.ListN.{length}
use lib.Dec.{ltb}
use lib.Ieee.{Float}
use Rattle.refusal.specs.Table.{refuse_if, first_of}
use Rattle.refusal.specs.declared.Refusal.{Refusal}
use Rattle.refusal.specs.declared.Refusal.TheVariants.{WrongLength, Truncated, TooLong}
use Rattle.session_record.specs.Session.{fresh}
use Rattle.session_commands.specs.Obeyed.{State, state, Result}
use Rattle.session.specs.Call.{max_stream, call_refusal, call, unusable}
use Rattle.session.proofs.Advancing.{call_advances}
use Rattle.session.proofs.Calling.{call_cases}
use Rattle.claims_streams.specs.Stream.{Answer, meaning, ends_stream, calls_from, calls}
use Rattle.claims_streams.proofs.Streams.{calls_from-ends, calls_from_goes_on, calls_give_meaning}
use Rattle.record_words.specs.Words.{is_record}
use Rattle.placer.specs.Code.{code_of_reply}
use Rattle.placer.specs.Step.{stepped, words_after, Stepped}
use Rattle.placer.specs.Reading.{reply_in}
use Rattle.claims_exports.specs.InHand.{state_in, Bytes}
use Rattle.claims_exports.specs.Steps.{Steps, the_last, one_more, fresh_words}
use Rattle.claims_exports.proofs.Answers.{record_again, next_again, state_again, reply_again, step_answers}
use Rattle.claims_exports.proofs.Details.{call_checked, small_call}
use Rattle.std.specs.Prelude.{Err}

-- ---- a call at or past the stream's end is the last

module _ (t : State) (stream : List ℕ) (at : ℕ) where
  check_ends : (r : Refusal) → call_refusal t stream at ≡ Some r → ends_stream (Err r) ≡ true
  unfolding call_refusal ends_stream first_of refuse_if
  check_ends r e = go (ltb max_stream (length stream)) (unusable t) (ltb (length stream) at) e
    where
      go : (a b c : Bool) → first_of (refuse_if a TooLong ∷ refuse_if b WrongLength ∷ refuse_if c (Truncated (length stream)) ∷ []) ≡ Some r
          → ends_stream (Err r) ≡ true
      go true b c f = let same : TooLong ≡ r = cc in rw (← same)
      go false true c f = let same : WrongLength ≡ r = cc in rw (← same)
      go false false true f = let same : Truncated (length stream) ≡ r = cc in rw (← same)
      go false false false f = cc

  ends-outside : length stream ≤ at → ends_stream (call t stream at).reply ≡ true
  unfolding ends_stream
  ends-outside h =
      call_cases t stream at (λ (r : Result). ends_stream r.reply ≡ true) check_ends (λ _ _. refl)
      (λ e before. absurd (omega (arith, (call_checked t stream at e).2)))

  inside_goes_on : ends_stream (call t stream at).reply ≡ false → at < length stream
  inside_goes_on e = go (dec_lt at (length stream))
    where
      go : Dec (at < length stream) → at < length stream
      go (yes h) = h
      go (no h) = absurd (true≢false (sym (ends-outside (omega arith)) ∙ e))

-- ---- calls in a row

module _ (stream : List ℕ) (bytes : Bytes stream) where
  steps_from : {words : List ℕ} {at : ℕ} {buffer first : List Float} {second : List ℕ} {answers : List Answer}
      → Steps stream words at buffer first second answers → is_record words ≡ true → (most : ℕ) → length stream ≤ most + at
      → answers ≡ calls_from (suc most) (state_in words buffer first second) stream at
  steps_from (the_last {words} {at} {buffer} {first} {second} {r} {next} {words'} {buffer'} {first'} {second'} step ends) a-record most enough =
      let t = state_in words buffer first second in
      let same = reply_again words stream at buffer first second r next words' buffer' first' second' a-record step (small_call t stream at bytes) in
      ap (λ (a : Answer). a ∷ []) (step_answers words stream at buffer first second r next words' buffer' first' second' a-record step bytes)
      ∙ sym (calls_from-ends most t stream at (call t stream at) refl (sym (ap ends_stream same) ∙ ends))
  steps_from (one_more {words} {at} {buffer} {first} {second} {r} {next} {words'} {buffer'} {first'} {second'} {later} step goes_on steps) a-record zero enough =
      let t = state_in words buffer first second in
      let same = reply_again words stream at buffer first second r next words' buffer' first' second' a-record step (small_call t stream at bytes) in
      let inside = inside_goes_on t stream at (sym (ap ends_stream same) ∙ goes_on) in
      absurd (omega (arith, inside))
  steps_from (one_more {words} {at} {buffer} {first} {second} {r} {next} {words'} {buffer'} {first'} {second'} {later} step goes_on steps) a-record (suc most) enough =
      let t = state_in words buffer first second in
      let same = reply_again words stream at buffer first second r next words' buffer' first' second' a-record step (small_call t stream at bytes) in
      let calls_on = sym (ap ends_stream same) ∙ goes_on in
      let advances = call_advances t stream at (inside_goes_on t stream at calls_on) in
      let next-is = next_again words stream at buffer first second r next words' buffer' first' second' a-record step in
      let again = record_again words stream at buffer first second r next words' buffer' first' second' a-record step in
      ap₂ (λ (a : Answer) (l : List Answer). a ∷ l)
      (step_answers words stream at buffer first second r next words' buffer' first' second' a-record step bytes)
      (steps_from steps again most (omega (arith, enough, advances, next-is))
      ∙ ap₂ (λ (s : State) (n : ℕ). calls_from (suc most) s stream n)
      (state_again words stream at buffer first second r next words' buffer' first' second' a-record step) next-is)
      ∙ sym (calls_from_goes_on (suc most) t stream at (call t stream at) refl calls_on)

  -- From any record, at offset 0: what the caller has in hand after each call is what the stream means.
  pub steps_give_meaning : {words : List ℕ} {buffer first : List Float} {second : List ℕ} {answers : List Answer}
      → is_record words ≡ true → Steps stream words 0 buffer first second answers → answers ≡ meaning (state_in words buffer first second) stream
  unfolding calls
  steps_give_meaning {words} {buffer} {first} {second} a-record steps =
      steps_from steps a-record (length stream) (omega arith) ∙ calls_give_meaning (state_in words buffer first second) stream

  -- "A fresh session is all zeros".
  pub steps_from_fresh : {buffer first : List Float} {second : List ℕ} {answers : List Answer}
      → Steps stream fresh_words 0 buffer first second answers → answers ≡ meaning (state fresh buffer first second) stream
  unfolding is_record
  steps_from_fresh steps = steps_give_meaning refl steps

-- ---- the calls come to an end

-- What one call leaves.
module _ (words stream : List ℕ) (at : ℕ) (buffer first : List Float) (second : List ℕ) where
  abbrev left : Result
  left = stepped words stream at buffer first second

  abbrev code : ℕ
  code = code_of_reply left.reply

  abbrev words_left : List ℕ
  words_left = words_after words stream at buffer first second

  step_left : Stepped words stream at buffer first second code left.next words_left left.after.buffer left.after.first left.after.second
  step_left = record { reply = refl; next-is = refl; words_after_is = refl; buffer_after_is = refl; first_after_is = refl; second_after_is = refl }

module _ (stream : List ℕ) (bytes : Bytes stream) where
  abbrev SomeSteps : List ℕ → ℕ → List Float → List Float → List ℕ → Type 0
  SomeSteps words at buffer first second = (answers : List Answer) × Steps stream words at buffer first second answers

  module _ (words : List ℕ) (at : ℕ) (buffer first : List Float) (second : List ℕ) (a-record : is_record words ≡ true) where
    abbrev l : Result
    l = left words stream at buffer first second

    abbrev r : ℕ
    r = code words stream at buffer first second

    -- The call is the last, or others follow it.
    step_then : (ends_stream (reply_in r) ≡ false
        → SomeSteps (words_left words stream at buffer first second) l.next l.after.buffer l.after.first l.after.second)
        → SomeSteps words at buffer first second
    step_then follow = go (ends_stream (reply_in r)) refl
      where
        go : (b : Bool) → ends_stream (reply_in r) ≡ b → SomeSteps words at buffer first second
        go true e = (_, the_last (step_left words stream at buffer first second) e)
        go false e = (_, one_more (step_left words stream at buffer first second) e (follow e).1)

    again : is_record (words_left words stream at buffer first second) ≡ true
    again = record_again words stream at buffer first second r l.next _ _ _ _ a-record (step_left words stream at buffer first second)

    -- Where others follow, the offset was inside, and the next is further on.
    further : ends_stream (reply_in r) ≡ false → (at < length stream) × (at < l.next)
    further e =
        let t = state_in words buffer first second in
        let step = step_left words stream at buffer first second in
        let same = reply_again words stream at buffer first second r l.next _ _ _ _ a-record step (small_call t stream at bytes) in
        let inside = inside_goes_on t stream at (sym (ap ends_stream same) ∙ e) in
        (inside, omega (arith, call_advances t stream at inside, next_again words stream at buffer first second r l.next _ _ _ _ a-record step))

  steps_end_from : (most : ℕ) (words : List ℕ) (at : ℕ) (buffer first : List Float) (second : List ℕ) → is_record words ≡ true
      → length stream ≤ most + at → SomeSteps words at buffer first second
  steps_end_from zero words at buffer first second a-record enough =
      step_then words at buffer first second a-record
      (λ e. absurd (omega (arith, enough, (further words at buffer first second a-record e).0)))
  steps_end_from (suc most) words at buffer first second a-record enough =
      step_then words at buffer first second a-record
      (λ e.
      steps_end_from most _ _ _ _ _ (again words at buffer first second a-record)
      (omega (arith, enough, (further words at buffer first second a-record e).1)))

  pub steps_end : (words : List ℕ) (at : ℕ) (buffer first : List Float) (second : List ℕ) → is_record words ≡ true
      → (answers : List Answer) × Steps stream words at buffer first second answers
  steps_end words at buffer first second a-record = steps_end_from (length stream) words at buffer first second a-record (omega arith)
