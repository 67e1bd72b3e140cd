-- The reply of an export by what was refused: an outcome's code, of the direct call and of averaging, is the code of the refusal, or 0; and the query's by
-- whether words are a record. Assumes nothing.
use Prim.Native.Nat.{ℕ}
use mathlib.Core.Path.{◌≡◌, refl, sym, ap, ◌∙◌}
use mathlib.Core.Bool.{true, false}
use Rattle.std.specs.Prelude.{Option, None, Some}
use mathlib.Core.List.{List}
use lib.ListN.{length}
use lib.Ieee.{Float}
use Rattle.arithmetic.specs.declared.pose.Pose.{Pose}
use Rattle.refusal.specs.declared.Refusal.{Refusal}
use Rattle.refusal.specs.declared.Refusal.TheVariants.{WrongLength}
use Rattle.averaging.specs.Entry.{averaged_by}
use Rattle.extrinsics.specs.Outcome.{outcome_of, Outcome}
use Rattle.extrinsics.specs.Direct.{Direct, direct_refusal}
use Rattle.shared_query.specs.Query.{shared_answer}
use Rattle.session_record.specs.declared.Session.{Session}
use Rattle.record_words.specs.Words.{session_in, is_record, record_in}
use Rattle.placer.specs.Code.{code_of, code_of_outcome, code_of_averaged, code_of_refusal, code_of_shared}
use Rattle.placer.specs.Exports.{Estimated, shared_reply}
use Rattle.placer.proofs.Records.{no_record_read, record_read}

-- The code of an outcome is that of what was refused.
pub code_outcome_of : (refusal : Option Refusal) → code_of_outcome (outcome_of refusal) ≡ code_of_refusal refusal
unfolding code_of_outcome outcome_of code_of_refusal
code_outcome_of None = refl
code_outcome_of (Some r) = refl

pub code_averaged_by : (refusal : Option Refusal) (mean : Pose) → code_of_averaged (averaged_by refusal mean) ≡ code_of_refusal refusal
unfolding code_of_averaged averaged_by code_of_refusal
code_averaged_by None mean = refl
code_averaged_by (Some r) mean = refl

-- The answers as they are where the call's memory is given back.
module _ (counts marks : List ℕ) (floats : List Float) (reference : ℕ) (first : List Float) (second : List ℕ) where
  pub estimated : {o : Outcome} {first' : List Float} {second' : List ℕ} → Direct counts marks floats reference first second o first' second'
      → {code : ℕ} → code ≡ code_of_outcome o → {first'' : List Float} → first'' ≡ first' → {second'' : List ℕ} → second'' ≡ second'
      → Estimated counts marks floats reference first second code first'' second''
  estimated answers e f g =
      record {
        reply = e ∙ ap code_of_outcome answers.outcome ∙ code_outcome_of (direct_refusal counts marks floats reference (length first) (length second));
        first_answer = f ∙ answers.first_answer;
        second_answer = g ∙ answers.second_answer;
      }

module _ (words : List ℕ) (a b : ℕ) where
  pub shared_reply_no_record : is_record words ≡ false → shared_reply words a b ≡ code_of WrongLength
  unfolding shared_reply
  shared_reply_no_record e = rw e

  pub shared_reply_record : is_record words ≡ true → shared_reply words a b ≡ code_of_shared (shared_answer (session_in words) a b)
  unfolding shared_reply
  shared_reply_record e = rw e

  pub shared_reply_unread : record_in words ≡ None → code_of WrongLength ≡ shared_reply words a b
  shared_reply_unread read = sym (shared_reply_no_record (no_record_read words read))

  pub shared_reply_read : (s : Session) → record_in words ≡ Some s → code_of_shared (shared_answer s a b) ≡ shared_reply words a b
  shared_reply_read s read =
      let h = record_read words s read in
      ap (λ (t : Session). code_of_shared (shared_answer t a b)) h.1 ∙ sym (shared_reply_record h.0)
