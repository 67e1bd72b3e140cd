-- How the rig poses of one more layer of a tree are placed, camera after camera, and where the layers begin and end. Assumes nothing.
use Prim.Native.Nat.{ℕ, ◌+◌, ◌≤◌, ◌<◌}
use native.Mathlib.Decide.{ℕ_discrete}
use native.Mathlib.Omega.{arith}
use mathlib.Core.Path.{◌≡◌, sym, ap, ◌∙◌}
use mathlib.Core.Logic.{◌≢◌}
use mathlib.Core.List.{List}
use lib.ListN.{length, get_or, set}
use lib.Seq.{get_or-set_same, get_or-set_other}
use Rattle.arithmetic.specs.Pose.{identity_pose, mul_pose, nowhere}
use Rattle.arithmetic.specs.declared.pose.Pose.{Pose}
use Rattle.placing.specs.Grid.{Grid}
use Rattle.placing.specs.Estimate.{averaged_link, rig_se3_cam_in}
use Rattle.placing.specs.Inner.Placed.{Rooted, PlacedTo, PlacedAll}
use Rattle.placing.proofs.RigPoses.{rig_se3_cam_in-none, rig_se3_cam_in-parent}
use Rattle.placing.proofs.Rooting.{linked-not-reference, rooted_links-below}

module _ (g : Grid) (parents linkCounts : ℕ → ℕ) where
  -- The cameras before `camera` are placed to that layer, and all cameras to the layers before it.
  pub record PlacedBefore (layer camera : ℕ) (poses : List Pose) : Type 0 where
    pub earlier : PlacedTo g parents linkCounts layer poses
    pub passed : (c : ℕ) → c < camera → c < g.cameras → linkCounts c < layer + 1 → get_or poses c nowhere ≡ rig_se3_cam_in g parents linkCounts c

  module _ (rooted : Rooted g.cameras g.reference parents linkCounts) where
    -- The reference is the only camera without links.
    no_links-reference : (c : ℕ) → c < g.cameras → linkCounts c ≡ 0 → c ≡ g.reference
    no_links-reference c h e = go (ℕ_discrete c g.reference)
      where
        go : Dec (c ≡ g.reference) → c ≡ g.reference
        go (yes y) = y
        go (no n) = absurd (omega (arith, rooted.parent_links c h n))

    -- Before layer 1 the identity in the reference's place is all that is asked.
    pub placed_to_reference : (poses : List Pose) → get_or poses g.reference nowhere ≡ identity_pose → PlacedTo g parents linkCounts 1 poses
    placed_to_reference poses e c h l =
        let r : c ≡ g.reference = no_links-reference c h (omega arith) in
        ap (λ (i : ℕ). get_or poses i nowhere) r ∙ e ∙ sym (rig_se3_cam_in-none g parents linkCounts c (omega arith))

    -- No camera has as many links as there are cameras.
    pub placed_to_all : (n : ℕ) (poses : List Pose) → g.cameras ≤ n → PlacedTo g parents linkCounts n poses → PlacedAll g parents linkCounts poses
    placed_to_all n poses k to c h = to c h (omega (arith, rooted_links-below g.cameras g.reference parents linkCounts rooted c h))

    module _ (layer camera : ℕ) (after : 0 < layer) (here : camera < g.cameras) where
      module _ (in_layer_is : linkCounts camera ≡ layer) where
        not-reference : camera ≢ g.reference
        not-reference = linked-not-reference g.cameras g.reference parents linkCounts rooted camera (omega arith)

        -- The product with the averaged link is the camera's rig pose, where the parent has its own.
        layer_pose : (poses : List Pose) → PlacedTo g parents linkCounts layer poses
            → mul_pose (get_or poses (parents camera) nowhere) (averaged_link g (parents camera) camera) ≡ rig_se3_cam_in g parents linkCounts camera
        layer_pose poses to =
            ap (λ (p : Pose). mul_pose p (averaged_link g (parents camera) camera))
            (to (parents camera) (rooted.parent_inside camera here not-reference) (omega (arith, rooted.parent_links camera here not-reference)))
            ∙ sym (rig_se3_cam_in-parent g parents linkCounts camera (rooted.parent_links camera here not-reference))

        pub placed_before_stored : (poses : List Pose) → camera < length poses → PlacedBefore layer camera poses → (p : Pose)
            → p ≡ mul_pose (get_or poses (parents camera) nowhere) (averaged_link g (parents camera) camera)
            → PlacedBefore layer (camera + 1) (set poses camera p)
        placed_before_stored poses l before p e = record {
          earlier = λ c h k.
              let other : c ≢ camera = λ s. omega (arith, in_layer_is, ap linkCounts s) in
              get_or-set_other poses camera c p nowhere other ∙ before.earlier c h k;
          passed = λ c m h k. go c m h k (ℕ_discrete c camera);
        }
          where
            go : (c : ℕ) → c < camera + 1 → c < g.cameras → linkCounts c < layer + 1 → Dec (c ≡ camera)
                → get_or (set poses camera p) c nowhere ≡ rig_se3_cam_in g parents linkCounts c
            go c m h k (yes y) = rw y (get_or-set_same poses camera p nowhere l ∙ e ∙ layer_pose poses before.earlier)
            go c m h k (no n) = get_or-set_other poses camera c p nowhere n ∙ before.passed c (omega arith) h k

      -- The camera is of another layer.
      pub placed_before_passed : linkCounts camera ≢ layer → (poses : List Pose) → PlacedBefore layer camera poses → PlacedBefore layer (camera + 1) poses
      placed_before_passed other poses before = record {
        earlier = before.earlier;
        passed = λ c m h k. go c m h k (ℕ_discrete c camera);
      }
        where
          go : (c : ℕ) → c < camera + 1 → c < g.cameras → linkCounts c < layer + 1 → Dec (c ≡ camera) → get_or poses c nowhere ≡ rig_se3_cam_in g parents linkCounts c
          go c m h k (yes y) = before.earlier c h (omega (arith, ap linkCounts y))
          go c m h k (no n) = before.passed c (omega arith) h k
