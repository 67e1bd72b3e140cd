-- The rig poses of cameras: the reference's is the identity, and any other camera's is its parent's times the averaged link from the
-- parent; over any tree that comes down to the reference, and over the layers where the camera is placed. Assumes nothing.
use Prim.Native.Nat.{ℕ, suc, ◌<◌}
use mathlib.Core.Path.{◌≡◌, sym, ap}
use mathlib.Core.Logic.{◌≢◌}
use lib.Dec.{T}
use Rattle.arithmetic.specs.Pose.{identity_pose, mul_pose}
use Rattle.limits.specs.Limits.{one_view}
use Rattle.placing.specs.Grid.{Grid, shared_views, spots, has_place, parent, link_count}
use Rattle.placing.specs.Estimate.{averaged_link, pose_after, rig_se3_cam_in, rig_se3_cam}
use Rattle.chains.proofs.Theorem.{LayeredSpots, layered}

-- ---- over any tree

module _ (g : Grid) (parents linkCounts : ℕ → ℕ) (c : ℕ) where
  -- A camera without links has the identity.
  pub rig_se3_cam_in-none : linkCounts c ≡ 0 → rig_se3_cam_in g parents linkCounts c ≡ identity_pose
  unfolding rig_se3_cam_in pose_after
  rig_se3_cam_in-none e = ap (λ n. pose_after g parents n c) e

  pub rig_se3_cam_in-parent : suc (linkCounts (parents c)) ≡ linkCounts c
      → rig_se3_cam_in g parents linkCounts c ≡ mul_pose (rig_se3_cam_in g parents linkCounts (parents c)) (averaged_link g (parents c) c)
  unfolding rig_se3_cam_in pose_after
  rig_se3_cam_in-parent e = ap (λ n. pose_after g parents n c) (sym e)

-- ---- over the layers

module _ (g : Grid) (inside : g.reference < g.cameras) where
  -- The chain theorem, for the spots of a grid.
  pub spots_layered : LayeredSpots g.cameras (shared_views g) one_view g.reference (spots g)
  unfolding spots
  spots_layered = layered g.cameras (shared_views g) one_view g.reference inside

  pub rig_se3_cam-reference : rig_se3_cam g g.reference ≡ identity_pose
  unfolding rig_se3_cam
  rig_se3_cam-reference = rig_se3_cam_in-none g (parent g) (link_count g) g.reference spots_layered.reference_links

  pub rig_se3_cam-parent : (c : ℕ) → c < g.cameras → T (has_place g c) → c ≢ g.reference
      → rig_se3_cam g c ≡ mul_pose (rig_se3_cam g (parent g c)) (averaged_link g (parent g c) c)
  unfolding rig_se3_cam
  rig_se3_cam-parent c h t n = rig_se3_cam_in-parent g (parent g) (link_count g) c (spots_layered.parent_links c h t n)
