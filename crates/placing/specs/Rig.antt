-- A rig as the estimate holds it: a mask of views for each camera, with the coordinates in floats beside it, and the grid that both make.
-- Rests on the masks of `Masks` and the grids of `Grid`.
use Rattle.std.specs.Prelude.{ℕ, ◌+◌, ◌*◌, ◌/◌, ◌%◌, cond, List, get_or, Float, None, Some}
use Rattle.arithmetic.specs.Pose.{pose_at}
use Rattle.lists.specs.Masks.{in_mask}
use Rattle.lists.specs.Lists.{tabulate}
use Rattle.placing.specs.Grid.{Grid, Cell}
use Rattle.placing.specs.declared.grid.Rig.{Rig}

-- The cell of a camera with that mask in view v, its pose being number i among the floats.
unfoldable pub masked_cell : ℕ → List Float → ℕ → ℕ → Cell
unfolding in_mask pose_at
masked_cell mask floats v i = cond (in_mask mask v) (Some (pose_at floats (7 * i))) None

module _ (r : Rig) (floats : List Float) where
  -- The poses of one view stand `stride` poses apart from those of the next.
  unfoldable pub rig_cell : ℕ → ℕ → Cell
  unfolding masked_cell
  rig_cell v c = masked_cell (get_or r.masks c 0) floats v (v * r.stride + c)

  unfoldable pub rig_grid : Grid
  unfolding tabulate rig_cell
  rig_grid =
      record {
        views = r.views;
        cameras = r.cameras;
        reference = r.reference;
        cells = tabulate (r.views * r.cameras) (λ i. rig_cell (i / r.cameras) (i % r.cameras));
      }
