-- Demands 2 and 3 through the stream: wherever a session's Solve finds every held number finite, its answer, and what stands in both lent
-- answers after it, are what demand 3 asks of the direct call that masks and buffer stand for, and what the Rust function comes to on the
-- grid that they hold. Assumes nothing.
use Prim.Native.Nat.{◌<◌}
use mathlib.Core.Path.{◌≡◌, sym, ap, ◌∙◌}
use Rattle.std.specs.Prelude.{None}
use lib.ListN.{length}
use Rattle.placing.specs.Grid.{Grid}
use Rattle.extrinsics.specs.Outcome.{not_finite}
use Rattle.claims_direct.specs.Rust.{estimate_extrinsics_from_cam_target_poses}
use Rattle.claims_direct.specs.Encoding.{CallAgrees}
use Rattle.claims_direct.specs.Demand3.{WellFormed, Demand3}
use Rattle.claims_direct.proofs.CallAgrees.{call_agrees_with_rust}
use Rattle.claims_direct.proofs.Demand3.{demand_3}
use Rattle.claims_direct.proofs.WellFormed.{PassesBefore8, passes_before_8}
use Rattle.command.specs.Command.{solve}
use Rattle.session_record.specs.Session.{held_of, session_grid}
use Rattle.session_commands.specs.Obeyed.{State}
use Rattle.claims_streams.specs.Stream.{Usable, answer_to}
use Rattle.claims_streams.specs.DirectInputs.{counts_of, marks_of, floats_of, AsDirect}
use Rattle.claims_streams.specs.RustGrids.{rust_grid_of}
use Rattle.claims_streams.proofs.RustGrids.{session_encodes, session-room, session-within_limits}
use Rattle.claims_streams.proofs.SolveDirect.{grid_is_direct, inputs_pass}

module _ (t : State) (u : Usable t) (some_view : 0 < t.session.views) where
  -- A session that accepted commands left passes 1 to 6; 7 is its own.
  pub solve_passes_before_8 : not_finite (session_grid (held_of t.session) t.buffer) ≡ None
      → PassesBefore8 (counts_of t.session) (marks_of t.session) (floats_of t.session t.buffer) t.session.reference (length t.first) (length t.second)
  solve_passes_before_8 finite =
      record {
        passes_1_to_6 =
            inputs_pass t.session t.buffer some_view u.record_possible (length t.first) (length t.second) u.first_fits u.second_fits;
        passes_7 = sym (ap (λ (g : Grid). not_finite g) (grid_is_direct t.session t.buffer some_view)) ∙ finite;
      }

  pub solve_well_formed : not_finite (session_grid (held_of t.session) t.buffer) ≡ None
      → WellFormed (counts_of t.session) (marks_of t.session) (floats_of t.session t.buffer) t.session.reference (length t.first) (length t.second)
  solve_well_formed finite =
      (passes_before_8 (counts_of t.session) (marks_of t.session) (floats_of t.session t.buffer) t.session.reference (length t.first)
      (length t.second)).0 (solve_passes_before_8 finite)

  pub solve_demand_3 : not_finite (session_grid (held_of t.session) t.buffer) ≡ None → (d : AsDirect t (answer_to t solve))
      → Demand3 (counts_of t.session) (marks_of t.session) (floats_of t.session t.buffer) t.session.reference d.outcome
      (answer_to t solve).after.first (answer_to t solve).after.second
  solve_demand_3 finite d =
      demand_3 (counts_of t.session) (marks_of t.session) (floats_of t.session t.buffer) t.session.reference t.first t.second
      d.outcome (answer_to t solve).after.first (answer_to t solve).after.second (solve_well_formed finite) d.direct

  -- Demand 2, "every grid of finite poses within document 01's limits": Solve answers on the grid that masks and buffer hold as the Rust
  -- function does.
  pub solve_demand_2 : not_finite (session_grid (held_of t.session) t.buffer) ≡ None → (d : AsDirect t (answer_to t solve))
      → CallAgrees (estimate_extrinsics_from_cam_target_poses (rust_grid_of t.session t.buffer) t.session.reference) t.first t.second
      d.outcome (answer_to t solve).after.first (answer_to t solve).after.second
  solve_demand_2 finite d =
      call_agrees_with_rust (rust_grid_of t.session t.buffer) t.session.reference
      (counts_of t.session) (marks_of t.session) (floats_of t.session t.buffer)
      (session_encodes t.session t.buffer some_view)
      (session-within_limits t.session t.buffer some_view u.record_possible finite)
      t.first t.second
      (λ inside equal.
      session-room t.session t.buffer some_view u.record_possible (length t.first) (length t.second) u.first_fits u.second_fits)
      d.outcome (answer_to t solve).after.first (answer_to t solve).after.second d.direct
