-- The candidates of links and targets, read from the cells that a rig's masks and floats make. Assumes nothing.
use Prim.Native.Nat.{ℕ, ◌<◌}
use mathlib.Core.Path.{◌≡◌, ap, ap₂}
use mathlib.Core.List.{List}
use lib.Ieee.{Float}
use Rattle.arithmetic.specs.declared.pose.Pose.{Pose}
use Rattle.mean.specs.Average.{average_isometries}
use Rattle.placing.specs.Grid.{Grid, cell_of}
use Rattle.placing.specs.Estimate.{link_candidate, link_candidates, target_candidate, target_candidates_from, rig_se3_target_from}
use Rattle.lists.specs.Lists.{gather}
use Rattle.placing.specs.Rig.{rig_cell, rig_grid}
use Rattle.placing.specs.declared.grid.Rig.{Rig}
use Rattle.placing.proofs.ViewCells.{cell_of_rig_cell}
use Rattle.placing.proofs.Gathering.{gather_agree}

module _ (r : Rig) (floats : List Float) where
  pub link_candidates-rig_cell : (p c : ℕ) → p < r.cameras → c < r.cameras
      → link_candidates (rig_grid r floats) p c ≡ gather r.views (λ v. link_candidate (rig_cell r floats v p) (rig_cell r floats v c))
  unfolding link_candidates rig_grid
  link_candidates-rig_cell p c h k =
      gather_agree r.views _ _ (λ v l. ap₂ link_candidate (cell_of_rig_cell r floats v p l h) (cell_of_rig_cell r floats v c l k))

  pub target_candidates-rig_cell : (poses : ℕ → Pose) (v : ℕ) → v < r.views
      → target_candidates_from (rig_grid r floats) poses v ≡ gather r.cameras (λ c. target_candidate (poses c) (rig_cell r floats v c))
  unfolding target_candidates_from rig_grid
  target_candidates-rig_cell poses v h =
      gather_agree r.cameras _ _ (λ c k. ap (target_candidate (poses c)) (cell_of_rig_cell r floats v c h k))

-- Only the poses of the rig's cameras matter to a view's target pose.
pub rig_se3_target_from_agree : (g : Grid) (poses poses' : ℕ → Pose) (v : ℕ) → ((c : ℕ) → c < g.cameras → poses c ≡ poses' c)
    → rig_se3_target_from g poses v ≡ rig_se3_target_from g poses' v
unfolding rig_se3_target_from target_candidates_from
rig_se3_target_from_agree g poses poses' v same =
    ap average_isometries (gather_agree g.cameras _ _ (λ c h. ap (λ (p : Pose). target_candidate p (cell_of g v c)) (same c h)))
