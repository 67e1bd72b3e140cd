-- The demands of `placer_estimate`: whatever it ensures is what the direct call ensures, of the outcome that its reply tells
-- (`estimated_read` of `placer`), so each demand that is met by the direct call is met by the export. Assumes nothing.
use Prim.Native.Nat.{ℕ}
use Rattle.std.specs.Prelude.{Option}
use mathlib.Core.List.{List}
use lib.ListN.{length}
use lib.Ieee.{Float}
use Rattle.arithmetic.specs.declared.pose.Pose.{Pose}
use Rattle.claims_direct.specs.Rust.{estimate_extrinsics_from_cam_target_poses}
use Rattle.claims_direct.specs.Encoding.{Encodes, WithinLimits, RoomWhereSized, CallAgrees}
use Rattle.claims_direct.specs.Demand3.{WellFormed, Demand3}
use Rattle.claims_direct.specs.Demand1.{Demand1}
use Rattle.claims_direct.proofs.CallAgrees.{call_agrees_with_rust}
use Rattle.claims_direct.proofs.Demand3.{demand_3}
use Rattle.claims_direct.proofs.Demand1.{demand_1}
use Rattle.placer.specs.Exports.{Estimated}
use Rattle.placer.specs.Reading.{outcome_in}
use Rattle.placer.proofs.Direct.{estimated_read}

module _ (counts marks : List ℕ) (floats : List Float) (reference : ℕ) (first : List Float) (second : List ℕ) (r : ℕ) (first' : List Float)
    (second' : List ℕ) (call : Estimated counts marks floats reference first second r first' second') where
  -- Demand 1: what refuses it, by number and detail, and when it is accepted.
  pub estimate_demand_1 : Demand1 counts marks floats reference first second (outcome_in r) first' second'
  estimate_demand_1 =
      demand_1 counts marks floats reference first second (outcome_in r) first' second'
      (estimated_read counts marks floats reference first second r first' second' call)

  -- Demand 2: "every grid of finite poses within document 01's limits".
  pub estimate_agrees_with_rust : (camSe3Target : List (List (Option Pose))) → Encodes camSe3Target counts marks floats → WithinLimits camSe3Target
      → RoomWhereSized camSe3Target reference (length first) (length second)
      → CallAgrees (estimate_extrinsics_from_cam_target_poses camSe3Target reference) first second (outcome_in r) first' second'
  estimate_agrees_with_rust camSe3Target encoded limits room =
      call_agrees_with_rust camSe3Target reference counts marks floats encoded limits first second room (outcome_in r) first' second'
      (estimated_read counts marks floats reference first second r first' second' call)

  -- Demand 3: "Every grid that passes all the checks document 01 puts before 8".
  pub estimate_demand_3 : WellFormed counts marks floats reference (length first) (length second)
      → Demand3 counts marks floats reference (outcome_in r) first' second'
  estimate_demand_3 formed =
      demand_3 counts marks floats reference first second (outcome_in r) first' second' formed
      (estimated_read counts marks floats reference first second r first' second' call)
