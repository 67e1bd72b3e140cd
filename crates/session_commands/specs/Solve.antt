-- The command Solve, by document 01: what refuses it, in order, and the two answers that it leaves; record and buffer stay. "Solve answers as the direct
-- call would on the grid that masks and buffer hold." Rests on the outcomes of `extrinsics`.
use Rattle.std.specs.Prelude.{ℕ, not, List, [], ◌∷◌, Float, Option, None}
use Rattle.refusal.specs.Table.{refuse_if, first_of}
use Rattle.refusal.specs.declared.Refusal.{Refusal}
use Rattle.refusal.specs.declared.Refusal.TheVariants.{NoSize}
use Rattle.placing.specs.Estimate.{transforms, chains}
use Rattle.extrinsics.specs.Outcome.{answered, grid_refusal}
use Rattle.placing.specs.Rig.{rig_grid}
use Rattle.session_record.specs.Session.{has_size, session_grid}
use Rattle.session_record.specs.declared.Held.{Held}

-- 21: "Pose or Solve before an accepted Size". "Solve checks 7, 8, 9."
unfoldable pub solve_command_refusal : Held → List Float → Option Refusal
unfolding refuse_if first_of grid_refusal rig_grid
solve_command_refusal h buffer = first_of (refuse_if (not (has_size h)) NoSize ∷ grid_refusal (session_grid h buffer) ∷ [])

unfoldable pub first_after_solve : Held → List Float → List Float → List Float
unfolding answered transforms
first_after_solve h buffer first = answered None (transforms (session_grid h buffer)) first

unfoldable pub second_after_solve : Held → List Float → List ℕ → List ℕ
unfolding answered chains
second_after_solve h buffer second = answered None (chains (session_grid h buffer)) second
