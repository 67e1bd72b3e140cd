-- Demand 1 of `placer_step`, in words (`step_demand_1`): what a caller has in hand after it is what the session's call comes to, so the demand that is
-- met by the call is met by the export. A record in words has its mask for each camera. Assumes nothing.
use Prim.Native.Nat.{ℕ}
use mathlib.Core.Path.{sym, subst, ◌≡◌}
use mathlib.Core.Bool.{true}
use mathlib.Core.List.{List}
use lib.Ieee.{Float}
use Rattle.session_commands.specs.Obeyed.{State, result}
use Rattle.session.specs.Call.{call}
use Rattle.claims_streams.specs.CallDemand1.{CallDemand1}
use Rattle.claims_streams.proofs.CallDemand1.{call_demand_1}
use Rattle.record_words.specs.Words.{is_record}
use Rattle.placer.specs.Step.{Stepped}
use Rattle.placer.specs.Reading.{reply_in}
use Rattle.claims_exports.specs.InHand.{state_in, Bytes}
use Rattle.claims_exports.proofs.Records.{wordable_in}
use Rattle.claims_exports.proofs.Answers.{next_again, step_answers}

module _ (words stream : List ℕ) (at : ℕ) (buffer first : List Float) (second : List ℕ) (r next : ℕ) (words' : List ℕ) (buffer' first' : List Float)
    (second' : List ℕ) (a-record : is_record words ≡ true) (bytes : Bytes stream)
    (step : Stepped words stream at buffer first second r next words' buffer' first' second') where
  abbrev t : State
  t = state_in words buffer first second

  -- The reply that is read from the number, the state that the lent memory is, and the next offset.
  pub step_result : result (reply_in r) (state_in words' buffer' first' second') next ≡ call t stream at
  step_result = λ i.
      let a = step_answers words stream at buffer first second r next words' buffer' first' second' a-record step bytes i in
      result a.reply a.after (next_again words stream at buffer first second r next words' buffer' first' second' a-record step i)

  pub step_demand_1 : CallDemand1 (state_in words buffer first second) stream at (result (reply_in r) (state_in words' buffer' first' second') next)
  step_demand_1 = subst (CallDemand1 t stream at) (sym step_result) (call_demand_1 t stream at (wordable_in words a-record).mask_each)
