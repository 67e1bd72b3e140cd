-- `find_not_finite` meets its contract: nothing below the cell of this view and camera passes, and the cell that was read is the
-- grid's cell there. Assumes nothing.
use Prim.Native.Nat.{ℕ, ◌+◌, ◌*◌}
use mathlib.Core.Path.{◌≡◌}
use mathlib.Core.Bool.{Bool}
use Rattle.std.specs.Prelude.{None}
use lib.ListN.{get_or}
use Rattle.placing.specs.Rig.{rig_grid}
use Rattle.lists.specs.Finding.{lowest}
use Rattle.extrinsics.specs.Outcome.{is_not_finite}
use Rattle.placing.specs.declared.grid.Observations.{Observations}
use Rattle.extrinsics.proofs.checks.find_not_finite.Given as goal

-- Whether the cell at this place of the grid holds a number that is not finite.
abbrev pub not_finite_in : Observations → ℕ → Bool
not_finite_in seen i = is_not_finite (get_or (rig_grid seen.rig seen.floats.now).cells i None)

abbrev pub invariant-loop-camera : goal.invariant-loop-camera
invariant-loop-camera l = lowest (not_finite_in l.seen) (l.view * l.cameras + l.camera) ≡ None

abbrev pub invariant-loop-view : goal.invariant-loop-view
invariant-loop-view l = lowest (not_finite_in l.seen) (l.view * l.cameras) ≡ None
