-- Demand 2 of the call itself (`call_agrees_with_rust`): whatever a direct call on inputs that hold a grid answers and leaves in the lent
-- answers is what the Rust function comes to. It is `agrees_with_rust`, read through what the call ensures. Assumes nothing.
use Rattle.std.proofs.Common.{ℕ, List, length, ap, ◌∙◌, ap₂}
use Rattle.std.specs.Prelude.{Option}
use lib.Ieee.{Float}
use Rattle.arithmetic.specs.declared.pose.Pose.{Pose}
use Rattle.refusal.specs.declared.Refusal.{Refusal}
use Rattle.placing.specs.Grid.{Grid}
use Rattle.placing.specs.Estimate.{transforms, chains}
use Rattle.extrinsics.specs.Outcome.{outcome_of, answered, Answers, Outcome}
use Rattle.extrinsics.specs.Direct.{direct_grid, direct_refusal, Direct}
use Rattle.claims_direct.specs.RustStd.{Result, ok, err, neither}
use Rattle.claims_direct.specs.Rust.{Error, ExtrinsicPoses, estimate_extrinsics_from_cam_target_poses}
use Rattle.claims_direct.specs.Encoding.{Encodes, WithinLimits, RoomWhereSized, Agrees, CallAgrees}
use Rattle.claims_direct.proofs.Agreement.{agrees_with_rust}

module _ (refusal : Option Refusal) (g : Grid) (first : List Float) (second : List ℕ) (r : Outcome) (first' : List Float) (second' : List ℕ)
    (call : Answers refusal g first second r first' second') where
  agrees_call_agrees : (o : Result Error ExtrinsicPoses) → Agrees o refusal (transforms g) → CallAgrees o first second r first' second'
  unfolding outcome_of answered
  agrees_call_agrees (ok poses) (free, same) = (
    call.outcome ∙ ap outcome_of free,
    call.first_answer ∙ ap₂ (λ (o : Option Refusal) (new : List Float). answered o new first) free same,
  )
  agrees_call_agrees (err e) refused = (
    call.outcome ∙ ap outcome_of refused,
    call.first_answer ∙ ap (λ (o : Option Refusal). answered o (transforms g) first) refused,
    call.second_answer ∙ ap (λ (o : Option Refusal). answered o (chains g) second) refused,
  )
  agrees_call_agrees neither h = h

pub call_agrees_with_rust : (camSe3Target : List (List (Option Pose))) (refCamIdx : ℕ)
    → (counts marks : List ℕ) (floats : List Float) → Encodes camSe3Target counts marks floats
    → WithinLimits camSe3Target
    → (first : List Float) (second : List ℕ) → RoomWhereSized camSe3Target refCamIdx (length first) (length second)
    → (r : Outcome) (first' : List Float) (second' : List ℕ) → Direct counts marks floats refCamIdx first second r first' second'
    → CallAgrees (estimate_extrinsics_from_cam_target_poses camSe3Target refCamIdx) first second r first' second'
call_agrees_with_rust camSe3Target refCamIdx counts marks floats encoded limits first second room r first' second' call =
    agrees_call_agrees (direct_refusal counts marks floats refCamIdx (length first) (length second)) (direct_grid counts marks floats refCamIdx) first second r
    first' second' call (estimate_extrinsics_from_cam_target_poses camSe3Target refCamIdx)
    (agrees_with_rust camSe3Target refCamIdx counts marks floats encoded limits (length first) (length second) room)
