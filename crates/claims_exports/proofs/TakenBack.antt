-- A pose taken back through `placer_step`: a call that accepts a Pose, and the next call, which obeys its withdrawal. The words of the record are then the
-- words that they were (`words_back`), and later calls answer alike (`steps-take_back`). A caller's whole loops do so, too, on buffers that differ in cells
-- that are not held alone (`steps_alike`). Assumes nothing.
use Prim.Native.Nat.{ℕ}
use mathlib.Core.Path.{◌≡◌, refl, sym, ap, subst, ◌∙◌}
use mathlib.Core.Bool.{true}
use mathlib.Core.List.{List}
use lib.ListN.{length}
use lib.Ieee.{Float}
use Rattle.session_commands.specs.Obeyed.{State, Result, result}
use Rattle.session.specs.Call.{call}
use Rattle.claims_streams.specs.Stream.{Answer}
use Rattle.claims_streams.specs.Alike.{SameHeld, AnswersAlike}
use Rattle.claims_streams.specs.TakenBack.{PoseThenWithdrawal, TakenBack}
use Rattle.claims_streams.proofs.Alike.{meaning-alike}
use Rattle.claims_streams.proofs.TakenBack.{taken_back}
use Rattle.record_words.specs.Words.{words_of, session_in, is_record}
use Rattle.record_words.proofs.Records.{is_record_words, words_of_session_in}
use Rattle.placer.specs.Code.{code_of_reply}
use Rattle.placer.specs.Step.{Stepped}
use Rattle.placer.specs.Reading.{reply_in, CallReply}
use Rattle.placer.proofs.Calls.{stepped_as_call}
use Rattle.claims_exports.specs.InHand.{state_in, Bytes}
use Rattle.claims_exports.specs.Steps.{Steps}
use Rattle.claims_exports.proofs.Records.{wordable_in}
use Rattle.claims_exports.proofs.Answers.{record_again}
use Rattle.claims_exports.proofs.StepDemand1.{step_result}
use Rattle.claims_exports.proofs.Streams.{steps_give_meaning}
use Rattle.std.specs.Prelude.{Ok}
use Rattle.session_commands.specs.declared.Done.TheVariants.{Accepted}

-- The first call answers 1, which is Accepted, on a Pose; the second is made on its withdrawal, in the same stream or another.
module _ (words stream : List ℕ) (at : ℕ) (buffer first : List Float) (second : List ℕ) (next : ℕ) (words₁ : List ℕ) (buffer₁ first₁ : List Float)
    (second₁ : List ℕ) (stream' : List ℕ) (at' r next₂ : ℕ) (words₂ : List ℕ) (buffer₂ first₂ : List Float) (second₂ : List ℕ)
    (a-record : is_record words ≡ true) (bytes : Bytes stream) (bytes' : Bytes stream') (both : PoseThenWithdrawal stream at stream' at')
    (pose : Stepped words stream at buffer first second 1 next words₁ buffer₁ first₁ second₁)
    (withdrawal : Stepped words₁ stream' at' buffer₁ first₁ second₁ r next₂ words₂ buffer₂ first₂ second₂) where
  abbrev t : State
  t = state_in words buffer first second

  abbrev t₁ : State
  t₁ = state_in words₁ buffer₁ first₁ second₁

  first-call : result (reply_in 1) t₁ next ≡ call t stream at
  first-call = step_result words stream at buffer first second 1 next words₁ buffer₁ first₁ second₁ a-record bytes pose

  still_a_record : is_record words₁ ≡ true
  still_a_record = record_again words stream at buffer first second 1 next words₁ buffer₁ first₁ second₁ a-record pose

  second_call : result (reply_in r) (state_in words₂ buffer₂ first₂ second₂) next₂ ≡ call t₁ stream' at'
  second_call = step_result words₁ stream' at' buffer₁ first₁ second₁ r next₂ words₂ buffer₂ first₂ second₂ still_a_record bytes' withdrawal

  accepted : (call t stream at).reply ≡ Ok Accepted
  unfolding reply_in
  accepted = sym (ap (λ (x : Result). x.reply) first-call)

  -- The record as it was, no float but the cell's seven different, and nothing that later calls could tell apart.
  pub steps-take_back : TakenBack (state_in words buffer first second) stream at at' (result (reply_in r) (state_in words₂ buffer₂ first₂ second₂) next₂)
  steps-take_back =
      subst (TakenBack t stream at at') (ap (λ (x : Result). call x.after stream' at') (sym first-call) ∙ sym second_call)
      (taken_back t stream at (wordable_in words a-record).mask_each accepted stream' at' both)

  as_call : CallReply t₁ stream' at' r next₂ words₂ buffer₂ first₂ second₂
  as_call = stepped_as_call words₁ stream' at' buffer₁ first₁ second₁ r next₂ words₂ buffer₂ first₂ second₂ withdrawal still_a_record

  -- Word for word; and the withdrawal's reply is 1.
  pub words_back : (words₂ ≡ words) × (r ≡ 1)
  unfolding code_of_reply
  words_back = (
    as_call.words_after_is
        ∙ ap words_of (ap (λ (x : Result). x.after.session) (sym second_call) ∙ steps-take_back.same_record)
        ∙ words_of_session_in words (is_record_words words a-record).long,
    as_call.reply ∙ ap code_of_reply (ap (λ (x : Result). x.reply) (sym second_call) ∙ steps-take_back.accepted),
  )

-- The calls on a whole stream, from the same words and answers, over buffers that have the same floats in every cell that the words hold.
pub steps_alike : (stream : List ℕ) → Bytes stream → {words : List ℕ} {buffer buffer' first : List Float} {second : List ℕ} {answers answers' : List Answer}
    → is_record words ≡ true → length buffer ≡ length buffer' → SameHeld (session_in words).masks buffer buffer'
    → Steps stream words 0 buffer first second answers → Steps stream words 0 buffer' first second answers' → AnswersAlike buffer buffer' answers answers'
steps_alike stream bytes {words} {buffer} {buffer'} {first} {second} a-record lengths held steps steps' =
    rw (steps_give_meaning stream bytes a-record steps, steps_give_meaning stream bytes a-record steps')
    (meaning-alike (state_in words buffer first second) (state_in words buffer' first second) (
    record {
      sixteen = (wordable_in words a-record).mask_each;
      same_session = refl;
      same_first = refl;
      same_second = refl;
      same_length = lengths;
      same_held = held;
    }
    ) stream)
