-- The poses of a solved rig, by document 01, "Chains": averaged links, rig poses of cameras (T_R_C) and target poses of views (T_R_T).
-- They are stated over any tree of cameras; the layers make one. Rests on the averages and products of `mean` and `arithmetic`, and
-- the spots of `Grid`.
use Prim.Native.Nat.{ℕ, zero, suc}
use Rattle.std.specs.Prelude.{List, [], ◌∷◌, ◌++◌, Float, None, Some}
use Rattle.arithmetic.specs.Pose.{mul_pose, inverse_pose, identity_pose, flat}
use Rattle.mean.specs.Average.{average_isometries}
use Rattle.arithmetic.specs.declared.pose.Pose.{Pose}
use Rattle.placing.specs.Grid.{Grid, Cell, cell_of, parent, link_count}
use Rattle.lists.specs.Lists.{gather}

-- "parent's target pose × inverse of the camera's target pose": T_Cp_C = T_Cp_T × (T_C_T)⁻¹, where the view holds both.
unfoldable pub link_candidate : Cell → Cell → List Pose
link_candidate None c = []
link_candidate (Some p) None = []
link_candidate (Some p) (Some q) = mul_pose p (inverse_pose q) ∷ []

-- T_R_T = T_R_C × T_C_T, where the view holds the camera's pose.
unfoldable pub target_candidate : Pose → Cell → List Pose
target_candidate rig None = []
target_candidate rig (Some p) = mul_pose rig p ∷ []

module _ (g : Grid) where
  -- "For each shared view, ascending"
  unfoldable pub link_candidates : ℕ → ℕ → List Pose
  unfolding gather link_candidate
  link_candidates p c = gather g.views (λ v. link_candidate (cell_of g v p) (cell_of g v c))

  -- "Averaging them gives the averaged link"
  unfoldable pub averaged_link : ℕ → ℕ → Pose
  unfolding link_candidates
  averaged_link p c = average_isometries (link_candidates p c)

  -- "A view's target pose averages rig pose × target pose over its cameras, ascending", whatever poses the cameras have.
  unfoldable pub target_candidates_from : (ℕ → Pose) → ℕ → List Pose
  unfolding gather target_candidate
  target_candidates_from poses v = gather g.cameras (λ c. target_candidate (poses c) (cell_of g v c))

  unfoldable pub rig_se3_target_from : (ℕ → Pose) → ℕ → Pose
  unfolding target_candidates_from
  rig_se3_target_from poses v = average_isometries (target_candidates_from poses v)

  -- ---- over any tree of cameras: the parent of each, and its number of links to the reference

  module _ (parents : ℕ → ℕ) where
    -- The pose at the end of so many links: "multiplying it by the parent's rig pose from the left gives the camera's rig pose".
    unfoldable pub pose_after : ℕ → ℕ → Pose
    unfolding averaged_link
    pose_after zero c = identity_pose
    pose_after (suc n) c = mul_pose (pose_after n (parents c)) (averaged_link (parents c) c)

    module _ (linkCounts : ℕ → ℕ) where
      unfoldable pub rig_se3_cam_in : ℕ → Pose
      unfolding pose_after
      rig_se3_cam_in c = pose_after (linkCounts c) c

      -- The first answer: cameras first, then views, seven floats each.
      unfoldable pub transforms_in : List Float
      unfolding gather rig_se3_cam_in rig_se3_target_from
      transforms_in = gather g.cameras (λ c. flat (rig_se3_cam_in c)) ++ gather g.views (λ v. flat (rig_se3_target_from rig_se3_cam_in v))

      -- The second answer: a parent and a link count for each camera.
      unfoldable pub chains_in : List ℕ
      unfolding gather
      chains_in = gather g.cameras (λ c. parents c ∷ linkCounts c ∷ [])

  -- ---- over the tree that the layers make: read only where every camera is placed, for a camera without a chain is refused by 8

  unfoldable pub rig_se3_cam : ℕ → Pose
  unfolding rig_se3_cam_in
  rig_se3_cam c = rig_se3_cam_in (parent g) (link_count g) c

  unfoldable pub target_candidates : ℕ → List Pose
  unfolding target_candidates_from rig_se3_cam
  target_candidates v = target_candidates_from rig_se3_cam v

  unfoldable pub rig_se3_target : ℕ → Pose
  unfolding rig_se3_target_from target_candidates
  rig_se3_target v = average_isometries (target_candidates v)

  unfoldable pub transforms : List Float
  unfolding transforms_in rig_se3_cam rig_se3_target
  transforms = transforms_in (parent g) (link_count g)

  unfoldable pub chains : List ℕ
  unfolding chains_in
  chains = chains_in (parent g) (link_count g)
