-- When an answer to Solve is what demands 2 and 3 ask of the call it stands for. Rests on the direct call of `DirectInputs`, the grid of
-- `RustGrids`, and both demands.
use Rattle.claims_direct.specs.Rust.{estimate_extrinsics_from_cam_target_poses}
use Rattle.claims_direct.specs.Encoding.{CallAgrees}
use Rattle.claims_direct.specs.Demand3.{Demand3}
use Rattle.session_commands.specs.Obeyed.{State}
use Rattle.claims_streams.specs.Stream.{Answer}
use Rattle.claims_streams.specs.DirectInputs.{counts_of, marks_of, floats_of, AsDirect}
use Rattle.claims_streams.specs.RustGrids.{rust_grid_of}

-- In a state, Solve "answers as the direct call would on the grid that masks and buffer hold", and so as both demands ask.
pub record AsDemanded (t : State) (a : Answer) : Type 0 where
  pub as_direct : AsDirect t a
  pub demand_2 :
      CallAgrees (estimate_extrinsics_from_cam_target_poses (rust_grid_of t.session t.buffer) t.session.reference) t.first t.second
      as_direct.outcome a.after.first a.after.second
  pub demand_3 :
      Demand3 (counts_of t.session) (marks_of t.session) (floats_of t.session t.buffer) t.session.reference
      as_direct.outcome a.after.first a.after.second
