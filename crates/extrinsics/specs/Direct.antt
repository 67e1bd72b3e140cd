-- The direct call, by document 01: the grid that its marks and floats make, and its whole outcome, 1 to 9 in their order.
-- Rests on the checks of `inputs` and the outcome of a grid in `Outcome`.
use Rattle.std.specs.Prelude.{ℕ, ◌*◌, cond, List, [], ◌∷◌, length, get_or, eqb, Float, Option, None, Some}
use Rattle.arithmetic.specs.Pose.{pose_at}
use Rattle.refusal.specs.Table.{first_of}
use Rattle.refusal.specs.declared.Refusal.{Refusal}
use Rattle.lists.specs.Lists.{tabulate}
use Rattle.placing.specs.Grid.{Grid, Cell}
use Rattle.inputs.specs.Inputs.{cell_count, input_refusal}
use Rattle.extrinsics.specs.Outcome.{Outcome, grid_refusal, Answers}

-- "As the Rust has it, a cell is either empty or holds one pose of seven numbers": 0 marks an empty cell.
unfoldable pub marked_cell : List ℕ → List Float → ℕ → Cell
unfolding pose_at
marked_cell marks floats i = cond (eqb (get_or marks i 0) 0) None (Some (pose_at floats (7 * i)))

-- A camera count for each view, a mark and seven floats for each cell, and the reference.
module _ (counts marks : List ℕ) (floats : List Float) (reference : ℕ) where
  unfoldable pub direct_grid : Grid
  unfolding tabulate marked_cell
  direct_grid =
      record {
        views = length counts;
        cameras = get_or counts 0 0;
        reference = reference;
        cells = tabulate (cell_count counts) (marked_cell marks floats);
      }

  -- 1 to 9 in their order, for answers of so many floats and bytes.
  unfoldable pub direct_refusal : ℕ → ℕ → Option Refusal
  unfolding input_refusal direct_grid grid_refusal first_of
  direct_refusal first_room second_room =
      first_of (input_refusal counts marks (length floats) reference first_room second_room ∷ grid_refusal direct_grid ∷ [])

  -- What the direct call answers, and what both lent answers, `first` and `second`, are after it, over their full length.
  abbrev pub Direct : List Float → List ℕ → Outcome → List Float → List ℕ → Type 0
  Direct first second = Answers (direct_refusal (length first) (length second)) direct_grid first second
