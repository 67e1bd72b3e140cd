-- What a caller of `placer_estimate` and `rig_average_isometries` reads in a reply is what was refused: 0 exactly where nothing was, and otherwise
-- the number and the detail. Assumes nothing.
use Prim.Native.Nat.{ℕ}
use mathlib.Core.Path.{◌≡◌, sym, ap, subst, ◌∙◌}
use mathlib.Core.Logic.{◌↔◌}
use Rattle.std.specs.Prelude.{Option, None, Some}
use mathlib.Core.List.{List}
use lib.ListN.{length}
use lib.Ieee.{Float}
use Rattle.arithmetic.specs.declared.pose.Pose.{Pose}
use Rattle.refusal.specs.Table.{number_of, detail_of}
use Rattle.refusal.specs.declared.Refusal.{Refusal}
use Rattle.averaging.specs.Entry.{average_refusal, averaged_of}
use Rattle.extrinsics.specs.Direct.{direct_refusal}
use Rattle.placer.specs.Code.{code_of_refusal}
use Rattle.placer.specs.Exports.{AveragedInto, Estimated}
use Rattle.placer.specs.Reading.{number_in, detail_in}
use Rattle.inputs.proofs.InTurn.{Small}
use Rattle.placer.proofs.Details.{small_direct, small_average}
use Rattle.placer.proofs.Reading.{code_of_refusal_0, code_of_refusal_both}
use Rattle.placer.proofs.Replies.{code_averaged_by}

module _ (o : Option Refusal) (small : Small o) (r : ℕ) (reply : r ≡ code_of_refusal o) where
  reads_0 : (r ≡ 0) ↔ (o ≡ None)
  reads_0 = (λ e. (code_of_refusal_0 o).0 (sym reply ∙ e), λ e. reply ∙ (code_of_refusal_0 o).1 e)

  reads_both : (q : Refusal) → o ≡ Some q → (number_in r ≡ number_of q) × (detail_in r ≡ detail_of q)
  reads_both q e = let h = code_of_refusal_both o q e (subst Small e small) in (ap number_in reply ∙ h.0, ap detail_in reply ∙ h.1)

module _ (counts marks : List ℕ) (floats : List Float) (reference : ℕ) (first : List Float) (second : List ℕ) (r : ℕ) (first' : List Float)
    (second' : List ℕ) (call : Estimated counts marks floats reference first second r first' second') where
  abbrev refusal : Option Refusal
  refusal = direct_refusal counts marks floats reference (length first) (length second)

  pub estimate_reads_0 : (r ≡ 0) ↔ (direct_refusal counts marks floats reference (length first) (length second) ≡ None)
  estimate_reads_0 = reads_0 refusal (small_direct counts marks floats reference (length first) (length second)) r call.reply

  pub estimate_reads_both : (q : Refusal) → direct_refusal counts marks floats reference (length first) (length second) ≡ Some q
      → (number_in r ≡ number_of q) × (detail_in r ≡ detail_of q)
  estimate_reads_both = reads_both refusal (small_direct counts marks floats reference (length first) (length second)) r call.reply

module _ (poses : List Pose) (old : List Float) (r : ℕ) (after : List Float) (call : AveragedInto poses old r after) where
  reply_is : r ≡ code_of_refusal (average_refusal poses)
  unfolding averaged_of
  reply_is = call.reply ∙ code_averaged_by (average_refusal poses) _

  pub average_reads_0 : (r ≡ 0) ↔ (average_refusal poses ≡ None)
  average_reads_0 = reads_0 (average_refusal poses) (small_average poses) r reply_is

  pub average_reads_both : (q : Refusal) → average_refusal poses ≡ Some q → (number_in r ≡ number_of q) × (detail_in r ≡ detail_of q)
  average_reads_both = reads_both (average_refusal poses) (small_average poses) r reply_is
