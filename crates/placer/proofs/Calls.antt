-- What `placer_step` ensures, by whether the words that it is handed are a record: then it is what one call of the session leaves
-- (`stepped_as_call`), and otherwise a refusal that changes nothing (`stepped_no_record`). Unless it replies 1, for a command accepted, the words are left
-- as they were (`stepped_keeps_words`). Assumes nothing.
use Prim.Native.Nat.{ℕ}
use mathlib.Core.Path.{◌≡◌, refl, ap, ◌∙◌}
use mathlib.Core.Bool.{Bool, true, false, cond}
use mathlib.Core.List.{List}
use lib.ListN.{length}
use lib.Ieee.{Float}
use borrow.Author.Tests.{lt-ltb, le-ltb}
use Rattle.refusal.specs.declared.Refusal.TheVariants.{TooLong, WrongLength}
use Rattle.session_commands.specs.Obeyed.{Result, State, state}
use Rattle.session.specs.Call.{max_stream}
use Rattle.session.proofs.KeptSessions.{call_keeps_session}
use Rattle.record_words.specs.Words.{words_of, session_in, is_record}
use Rattle.record_words.proofs.Records.{is_record_words, words_of_session_in}
use Rattle.placer.specs.Code.{code_of, code_of_reply}
use Rattle.placer.specs.Step.{not_a_record, stepped, words_after, Stepped}
use Rattle.placer.specs.Reading.{CallReply, NoRecordReply}
use Rattle.placer.proofs.Steps.{stepped-not, stepped-call}

module _ (words stream : List ℕ) (at : ℕ) (buffer first : List Float) (second : List ℕ) (r next : ℕ) (words' : List ℕ) (buffer' first' : List Float)
    (second' : List ℕ) (step : Stepped words stream at buffer first second r next words' buffer' first' second') where
  words_when : (b : Bool) → is_record words ≡ b → words' ≡ cond b (words_of (stepped words stream at buffer first second).after.session) words
  unfolding words_after
  words_when b e = step.words_after_is ∙ ap (λ (b : Bool). cond b (words_of (stepped words stream at buffer first second).after.session) words) e

  -- "The library obeys one command per call, at an offset the caller names, and tells where the next begins".
  pub stepped_as_call : is_record words ≡ true
      → CallReply (state (session_in words) buffer first second) stream at r next words' buffer' first' second'
  stepped_as_call e =
      let same = stepped-call words stream at buffer first second e (session_in words) refl in
      record {
        reply = step.reply ∙ ap (λ (x : Result). code_of_reply x.reply) same;
        next-is = step.next-is ∙ ap (λ (x : Result). x.next) same;
        words_after_is = words_when true e ∙ ap (λ (x : Result). words_of x.after.session) same;
        buffer_after_is = step.buffer_after_is ∙ ap (λ (x : Result). x.after.buffer) same;
        first_after_is = step.first_after_is ∙ ap (λ (x : Result). x.after.first) same;
        second_after_is = step.second_after_is ∙ ap (λ (x : Result). x.after.second) same;
      }

  -- "13 comes before 5".
  pub stepped_no_record : is_record words ≡ false → NoRecordReply words stream buffer first second r next words' buffer' first' second'
  unfolding code_of_reply
  stepped_no_record e =
      let same = stepped-not words stream at buffer first second e in
      let code : r ≡ code_of (not_a_record (length stream)) = step.reply ∙ ap (λ (x : Result). code_of_reply x.reply) same in
      record {
        too_long = λ h. code ∙ ap (λ (b : Bool). code_of (cond b TooLong WrongLength)) (lt-ltb max_stream (length stream) h);
        any_other = λ h. code ∙ ap (λ (b : Bool). code_of (cond b TooLong WrongLength)) (le-ltb max_stream (length stream) h);
        next-is = step.next-is ∙ ap (λ (x : Result). x.next) same;
        same_words = words_when false e;
        same_buffer = step.buffer_after_is ∙ ap (λ (x : Result). x.after.buffer) same;
        same_first = step.first_after_is ∙ ap (λ (x : Result). x.after.first) same;
        same_second = step.second_after_is ∙ ap (λ (x : Result). x.after.second) same;
      }

  -- "A refused command changes neither session nor buffer"; nor does Solve, nor the end of the stream, change the session.
  pub stepped_keeps_words : (r ≡ 1 → ⊥) → words' ≡ words
  unfolding code_of_reply
  stepped_keeps_words other = go (is_record words) refl
    where
      go : (b : Bool) → is_record words ≡ b → words' ≡ words
      go false e = words_when false e
      go true e =
          let t : State = state (session_in words) buffer first second in
          let as_call = stepped_as_call e in
          as_call.words_after_is
          ∙ ap words_of (call_keeps_session t stream at (λ accepted. other (as_call.reply ∙ ap code_of_reply accepted)))
          ∙ words_of_session_in words (is_record_words words e).long
