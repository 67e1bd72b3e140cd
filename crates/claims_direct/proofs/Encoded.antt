-- Every grid that the Rust function takes has counts, marks and floats that hold it; where no view has 2^32 cameras or more, the counts are those of 32 bits
-- that the direct call takes. So what is said of encoded grids is said of all such. Assumes nothing.
use Rattle.std.proofs.Common.{◌≡◌, ℕ, ◌+◌, ◌*◌, ◌/◌, ◌%◌, ◌<◌, List, map, length, get_or, refl, ap, ◌∙◌, ap₂, arith}
use Rattle.std.specs.Prelude.{Option, None, Some}
use lib.Ieee.{Float, nan}
use Rattle.arithmetic.specs.Pose.{flat}
use Rattle.arithmetic.specs.declared.pose.Pose.{Pose}
use Rattle.lists.specs.Lists.{tabulate}
use Rattle.claims_direct.specs.Rust.{num_views, num_cameras}
use Rattle.claims_direct.specs.Encoding.{mark_for, pose_of, EncodesCells, Encodes}
use Rattle.claims_direct.proofs.Blocks.{pose_at-flat}
use Rattle.lists.proofs.Tabulated.{length-tabulate, get_d_tabulate}
use Rattle.placing.proofs.ViewCells.{row_inside, row-quotient, row_remainder}

-- ---- one cell

float_for : Option Pose → ℕ → Float
float_for None k = nan
float_for (Some p) k = get_or (flat p) k nan

-- ---- all cells

module _ (camSe3Target : List (List (Option Pose))) where
  -- The pose of cell i.
  abbrev pose_in : ℕ → Option Pose
  pose_in i = pose_of camSe3Target (i / num_cameras camSe3Target) (i % num_cameras camSe3Target)

  abbrev cells : ℕ
  cells = num_views camSe3Target * num_cameras camSe3Target

  abbrev marks : List ℕ
  marks = tabulate cells (λ i. mark_for (pose_in i))

  abbrev floats : List Float
  floats = tabulate (7 * cells) (λ j. float_for (pose_in (j / 7)) (j % 7))

  get_or-floats : (i k : ℕ) → i < cells → k < 7 → get_or floats (7 * i + k) nan ≡ float_for (pose_in i) k
  get_or-floats i k h l =
      get_d_tabulate (7 * cells) (λ j. float_for (pose_in (j / 7)) (j % 7)) nan (7 * i + k) (omega arith)
      ∙ ap₂ (λ (a b : ℕ). float_for (pose_in a) b) (omega arith) (omega arith)

  get_or-marks : (i : ℕ) → i < cells → get_or marks i 0 ≡ mark_for (pose_in i)
  get_or-marks i h = get_d_tabulate cells (λ i. mark_for (pose_in i)) 0 i h

  pose_in_row : (v c : ℕ) → c < num_cameras camSe3Target → pose_in (v * num_cameras camSe3Target + c) ≡ pose_of camSe3Target v c
  pose_in_row v c k =
      ap₂ (pose_of camSe3Target) (row-quotient v (num_cameras camSe3Target) c k) (row_remainder v (num_cameras camSe3Target) c k)

  encodes_cells : EncodesCells camSe3Target marks floats
  unfolding float_for
  encodes_cells = record {
    mark_each = length-tabulate cells (λ i. mark_for (pose_in i));
    seven_each = length-tabulate (7 * cells) (λ j. float_for (pose_in (j / 7)) (j % 7));
    cell_mark = λ v c h k.
        get_or-marks (v * num_cameras camSe3Target + c) (row_inside v (num_views camSe3Target) (num_cameras camSe3Target) c h k) ∙ ap mark_for (pose_in_row v c k);
    cell_pose = λ v c h k p e.
        let i = v * num_cameras camSe3Target + c in
        pose_at-flat floats (7 * i) p
        (λ n m.
        get_or-floats i n (row_inside v (num_views camSe3Target) (num_cameras camSe3Target) c h k) m
        ∙ ap (λ (o : Option Pose). float_for o n) (pose_in_row v c k ∙ e));
  }

  pub encoded : (counts marks : List ℕ) × (floats : List Float) × Encodes camSe3Target counts marks floats
  encoded = (map length camSe3Target, marks, floats, record { count_each = refl; cells = λ equal. encodes_cells })
