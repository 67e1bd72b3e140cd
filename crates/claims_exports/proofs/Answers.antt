-- What a caller has in hand after `placer_step` is the answer of the session's call: the reply is read back from its number, and the session
-- from its words. Assumes nothing.
use Prim.Native.Nat.{ℕ}
use mathlib.Core.Path.{◌≡◌, ap, ◌∙◌}
use mathlib.Core.Bool.{true}
use mathlib.Core.List.{List}
use lib.Ieee.{Float}
use Rattle.session_commands.specs.Obeyed.{State}
use Rattle.session.specs.Call.{call}
use Rattle.claims_streams.specs.Stream.{answer}
use Rattle.record_words.specs.Words.{session_in, is_record}
use Rattle.placer.specs.Step.{Stepped}
use Rattle.placer.specs.Reading.{reply_in, CallReply}
use Rattle.placer.proofs.Reading.{SmallReply, reply_in-code_of_reply}
use Rattle.placer.proofs.Calls.{stepped_as_call}
use Rattle.claims_exports.specs.InHand.{state_in, answer_in, Bytes}
use Rattle.claims_exports.proofs.Records.{wordable_in, wordable_call, session_in_words_of, is_record_words_of}
use Rattle.claims_exports.proofs.Details.{small_call}

module _ (words stream : List ℕ) (at : ℕ) (buffer first : List Float) (second : List ℕ) (r next : ℕ) (words' : List ℕ) (buffer' first' : List Float)
    (second' : List ℕ) (a-record : is_record words ≡ true) (step : Stepped words stream at buffer first second r next words' buffer' first' second') where
  abbrev t : State
  t = state_in words buffer first second

  as_call : CallReply t stream at r next words' buffer' first' second'
  as_call = stepped_as_call words stream at buffer first second r next words' buffer' first' second' step a-record

  -- The words are a record again.
  pub record_again : is_record words' ≡ true
  record_again =
      ap is_record as_call.words_after_is ∙ is_record_words_of (call t stream at).after.session (wordable_call t stream at (wordable_in words a-record))

  pub session_again : session_in words' ≡ (call t stream at).after.session
  session_again =
      ap session_in as_call.words_after_is
      ∙ session_in_words_of (call t stream at).after.session (wordable_call t stream at (wordable_in words a-record))

  pub next_again : next ≡ (call t stream at).next
  next_again = as_call.next-is

  pub state_again : state_in words' buffer' first' second' ≡ (call t stream at).after
  state_again = λ i.
      record {
        session = session_again i;
        buffer = as_call.buffer_after_is i;
        first = as_call.first_after_is i;
        second = as_call.second_after_is i;
      }

  pub reply_again : SmallReply (call t stream at).reply → reply_in r ≡ (call t stream at).reply
  reply_again small = ap reply_in as_call.reply ∙ reply_in-code_of_reply (call t stream at).reply small

  pub answer_again : SmallReply (call t stream at).reply → answer_in r words' buffer' first' second' ≡ answer (call t stream at).reply (call t stream at).after
  answer_again small = λ i. answer (reply_again small i) (state_again i)

  -- For every stream of bytes.
  pub step_answers : Bytes stream → answer_in r words' buffer' first' second' ≡ answer (call t stream at).reply (call t stream at).after
  step_answers bytes = answer_again (small_call t stream at bytes)
