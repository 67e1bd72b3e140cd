-- What the writers leave in the first answer of a solved rig is what the definitions say: the transforms of cameras and views.
-- Assumes nothing.
use Prim.Native.Nat.{ℕ, ◌+◌, ◌-◌, ◌*◌, ◌≤◌}
use native.Mathlib.Omega.{arith}
use mathlib.Core.Path.{◌≡◌, refl, sym, ap, ◌∙◌}
use mathlib.Core.List.{List, ◌++◌, append_assoc}
use borrow.Rule.Slice.PartMut.{mid_of, put_mid}
use lib.ListN.{length, get_or, drop}
use lib.Seq.{take_at, drop_at, drop-drop}
use lib.Ieee.{Float}
use Rattle.arithmetic.specs.Pose.{flat, nowhere}
use Rattle.arithmetic.specs.declared.pose.Pose.{Pose}
use Rattle.limits.specs.Limits.{first_needs}
use Rattle.placing.specs.Grid.{Grid}
use Rattle.lists.specs.Lists.{gather}
use Rattle.placing.specs.Estimate.{rig_se3_target_from, rig_se3_cam_in, transforms_in}
use Rattle.placing.specs.Inner.Placed.{PlacedAll}
use Rattle.placing.proofs.Gathering.{gather_agree}
use Rattle.placing.proofs.Candidates.{rig_se3_target_from_agree}
use Rattle.lists.proofs.Blocks.{length-gather}
use Rattle.placing.proofs.Filling.{put_tail, length-filled}

module _ (g : Grid) (parents linkCounts : ℕ → ℕ) where
  -- The cameras are written from the front, then the views into the part behind them.
  pub transforms-written : (poses : List Pose) (old cams views : List Float) → PlacedAll g parents linkCounts poses → first_needs g.cameras g.views ≤ length old
      → cams ≡ gather g.cameras (λ c. flat (get_or poses c nowhere)) ++ drop (7 * g.cameras) old
      → views ≡ gather g.views (λ v. flat (rig_se3_target_from g (λ c. get_or poses c nowhere) v)) ++ drop (7 * g.views) (mid_of (7 * g.cameras) (length cams - 7 * g.cameras) cams)
      → put_mid (7 * g.cameras) (length cams - 7 * g.cameras) cams views ≡ transforms_in g parents linkCounts ++ drop (first_needs g.cameras g.views) old
  unfolding transforms_in
  transforms-written poses old cams views placed room e f =
      put_tail cams views (gather g.views (λ v. flat (rig_se3_target_from g (rig_se3_cam_in g parents linkCounts) v))) (7 * g.cameras) (7 * g.views)
      (omega (arith, lengths)) (f ∙ ap (λ (l : List Float). l ++ drop (7 * g.views) (mid_of (7 * g.cameras) (length cams - 7 * g.cameras) cams)) targets)
      ∙ simp (right, take_at front (drop (7 * g.cameras) old) (7 * g.cameras) wide, past, append_assoc)
    where
      targets : gather g.views (λ v. flat (rig_se3_target_from g (λ c. get_or poses c nowhere) v))
          ≡ gather g.views (λ v. flat (rig_se3_target_from g (rig_se3_cam_in g parents linkCounts) v))
      targets = gather_agree g.views _ _ (λ v h. ap flat (rig_se3_target_from_agree g (λ c. get_or poses c nowhere) (rig_se3_cam_in g parents linkCounts) v placed))

      front : List Float
      front = gather g.cameras (λ c. flat (rig_se3_cam_in g parents linkCounts c))

      wide : length front ≡ 7 * g.cameras
      wide = length-gather (λ c. flat (rig_se3_cam_in g parents linkCounts c)) 7 (λ i. refl) g.cameras

      right : cams ≡ front ++ drop (7 * g.cameras) old
      right =
          e ∙ ap (λ (l : List Float). l ++ drop (7 * g.cameras) old)
          (gather_agree g.cameras (λ c. flat (get_or poses c nowhere)) (λ c. flat (rig_se3_cam_in g parents linkCounts c)) (λ c h. ap flat (placed c h)))

      lengths : length cams ≡ length old
      lengths = ap length right ∙ length-filled (λ c. flat (rig_se3_cam_in g parents linkCounts c)) 7 (λ i. refl) old g.cameras (omega arith)

      both : 7 * g.cameras + 7 * g.views ≡ first_needs g.cameras g.views
      both = omega arith

      past : drop (7 * g.cameras + 7 * g.views) (front ++ drop (7 * g.cameras) old) ≡ drop (first_needs g.cameras g.views) old
      past =
          sym (drop-drop (7 * g.views) (7 * g.cameras) (front ++ drop (7 * g.cameras) old))
          ∙ ap (drop (7 * g.views)) (drop_at front (drop (7 * g.cameras) old) (7 * g.cameras) wide)
          ∙ drop-drop (7 * g.views) (7 * g.cameras) old
          ∙ ap (λ (k : ℕ). drop k old) both
