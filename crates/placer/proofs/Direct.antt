-- What `placer_estimate` ensures is what the direct call ensures: an outcome that its reply is the number of (`estimated_direct`), and that
-- is read back from the reply (`estimated_read`). So whatever is shown of the direct call holds of the export. Assumes nothing.
use Prim.Native.Nat.{ℕ}
use mathlib.Core.Path.{◌≡◌, refl, sym, subst, ap, ◌∙◌}
use Rattle.std.specs.Prelude.{Option, None, Some}
use mathlib.Core.List.{List}
use lib.ListN.{length}
use lib.Ieee.{Float}
use Rattle.refusal.specs.declared.Refusal.{Refusal}
use Rattle.extrinsics.specs.Outcome.{outcome_of, Outcome}
use Rattle.extrinsics.specs.Direct.{Direct, direct_refusal}
use Rattle.placer.specs.Code.{code_of_outcome}
use Rattle.placer.specs.Exports.{Estimated}
use Rattle.placer.specs.Reading.{outcome_in, DirectReply}
use Rattle.inputs.proofs.InTurn.{Small}
use Rattle.placer.proofs.Details.{small_direct}
use Rattle.placer.proofs.Reading.{SmallOutcome, outcome_in-code_of_outcome}
use Rattle.placer.proofs.Replies.{code_outcome_of}

small_outcome_of : (o : Option Refusal) → Small o → SmallOutcome (outcome_of o)
unfolding outcome_of
small_outcome_of None h = tt
small_outcome_of (Some q) h = h

module _ (counts marks : List ℕ) (floats : List Float) (reference : ℕ) (first : List Float) (second : List ℕ) (r : ℕ) (first' : List Float)
    (second' : List ℕ) (call : Estimated counts marks floats reference first second r first' second') where
  abbrev refusal : Option Refusal
  refusal = direct_refusal counts marks floats reference (length first) (length second)

  reply_is : r ≡ code_of_outcome (outcome_of refusal)
  reply_is = call.reply ∙ sym (code_outcome_of refusal)

  pub estimated_direct : DirectReply counts marks floats reference first second r first' second'
  estimated_direct =
      record {
        outcome = outcome_of refusal;
        direct = record { outcome = refl; first_answer = call.first_answer; second_answer = call.second_answer };
        reply = reply_is;
        read_back =
            ap outcome_in reply_is
            ∙ outcome_in-code_of_outcome (outcome_of refusal) (small_outcome_of refusal (small_direct counts marks floats reference (length first) (length second)));
      }

  -- The outcome that the reply tells is the direct call's.
  pub estimated_read : Direct counts marks floats reference first second (outcome_in r) first' second'
  estimated_read =
      let d = estimated_direct in
      subst (λ (o : Outcome). Direct counts marks floats reference first second o first' second') (sym d.read_back) d.direct
