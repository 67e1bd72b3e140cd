-- The two answers of a solved grid, read back camera by camera and view by view, whatever stands behind what was written.
-- Assumes nothing.
use Rattle.std.proofs.Common.{◌≡◌, ℕ, ◌+◌, ◌*◌, ◌<◌, List, [], ◌∷◌, ◌++◌, get_or, refl, ap, ◌∙◌, append_assoc, arith}
use lib.Ieee.{Float}
use Rattle.arithmetic.specs.Pose.{pose_at, flat}
use Rattle.placing.specs.Grid.{Grid, parent, link_count}
use Rattle.lists.specs.Lists.{gather}
use Rattle.placing.specs.Estimate.{rig_se3_cam, rig_se3_target, transforms, chains}
use Rattle.claims_direct.specs.Demand3.{reported_parent, reported_links, reported_camera, reported_view}
use Rattle.claims_direct.proofs.Blocks.{get_or-gather-front, pose_at-gather, pose_at-gather_past}

module _ (g : Grid) (second : List ℕ) where
  pub reported_parent-chains : (c : ℕ) → c < g.cameras → reported_parent (chains g ++ second) c ≡ parent g c
  unfolding reported_parent chains
  reported_parent-chains c h =
      ap (λ (at : ℕ). get_or (gather g.cameras (λ i. parent g i ∷ link_count g i ∷ []) ++ second) at 0) (omega arith)
      ∙ get_or-gather-front (λ i. parent g i ∷ link_count g i ∷ []) 2 (λ i. refl) 0 second g.cameras c 0 h (omega arith)

  pub reported_links-chains : (c : ℕ) → c < g.cameras → reported_links (chains g ++ second) c ≡ link_count g c
  unfolding reported_links chains
  reported_links-chains c h =
      get_or-gather-front (λ i. parent g i ∷ link_count g i ∷ []) 2 (λ i. refl) 0 second g.cameras c 1 h (omega arith)

module _ (g : Grid) (first : List Float) where
  apart : transforms g ++ first
      ≡ gather g.cameras (λ c. flat (rig_se3_cam g c)) ++ (gather g.views (λ v. flat (rig_se3_target g v)) ++ first)
  unfolding transforms
  apart = append_assoc (gather g.cameras (λ c. flat (rig_se3_cam g c))) (gather g.views (λ v. flat (rig_se3_target g v))) first

  pub reported_camera-transforms : (c : ℕ) → c < g.cameras → reported_camera (transforms g ++ first) c ≡ rig_se3_cam g c
  unfolding reported_camera
  reported_camera-transforms c h =
      ap (λ (l : List Float). pose_at l (7 * c)) apart
      ∙ pose_at-gather (rig_se3_cam g) (gather g.views (λ v. flat (rig_se3_target g v)) ++ first) g.cameras c h

  pub reported_view-transforms : (v : ℕ) → v < g.views → reported_view g.cameras (transforms g ++ first) v ≡ rig_se3_target g v
  unfolding reported_view
  reported_view-transforms v h =
      ap (λ (l : List Float). pose_at l (7 * (g.cameras + v))) apart
      ∙ pose_at-gather_past (rig_se3_target g) (rig_se3_cam g) first g.cameras g.views v h
