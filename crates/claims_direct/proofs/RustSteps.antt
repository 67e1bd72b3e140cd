-- The Rust function taken step by step: which test stops it with which error, what the loop is given, and what follows the loop.
-- Assumes nothing.
use Rattle.std.proofs.Common.{◌≡◌, ℕ, suc, true, false, not, eqb, leb, List, [], ◌∷◌, set, replicate}
use Rattle.std.specs.Prelude.{Option, None, Some}
use Rattle.arithmetic.specs.Pose.{identity_pose}
use Rattle.arithmetic.specs.declared.pose.Pose.{Pose}
use Rattle.claims_direct.specs.RustStd.{Result, ok, err, ◌>>=◌, ◌>>◌, return_err_if, is_empty, enumerate, for_each, flatten}
use Rattle.claims_direct.specs.Rust.{Error, insufficient_data, invalid_ref_cam_idx, camera_count, share_no_view, ExtrinsicPoses, num_views, num_cameras, check_counts, while_layer, unreached, push_target, estimate_extrinsics_from_cam_target_poses}

-- ---- after the loop

abbrev pub after_loop : List (List (Option Pose)) → List (Option Pose) → Result Error ExtrinsicPoses
after_loop camSe3Target rig = do
  return_err_if (not (is_empty (unreached camSe3Target rig))) (share_no_view (unreached camSe3Target rig))
  rig_se3_target ← for_each (enumerate camSe3Target) (push_target (flatten rig)) []
  ok (record { rig_se3_cam = flatten rig; rig_se3_target = rig_se3_target })

module _ (camSe3Target : List (List (Option Pose))) (rig : List (Option Pose)) where
  pub rust_unreached : (c : ℕ) (l : List ℕ) → unreached camSe3Target rig ≡ c ∷ l → after_loop camSe3Target rig ≡ err (share_no_view (c ∷ l))
  rust_unreached c l e = rw e

  module _ (poses : List Pose) (reached : unreached camSe3Target rig ≡ []) (flat : flatten rig ≡ poses) where
    pub rust_empty_view : (e : Error) → for_each (enumerate camSe3Target) (push_target poses) [] ≡ err e → after_loop camSe3Target rig ≡ err e
    rust_empty_view e t = rw (reached, flat, t)

    pub rust_solved : (targets : List Pose) → for_each (enumerate camSe3Target) (push_target poses) [] ≡ ok targets
        → after_loop camSe3Target rig ≡ ok (record { rig_se3_cam = poses; rig_se3_target = targets })
    rust_solved targets t = rw (reached, flat, t)

-- ---- the checks, and the loop

module _ (camSe3Target : List (List (Option Pose))) (refCamIdx : ℕ) where
  pub rust_no_views : eqb (num_views camSe3Target) 0 ≡ true → estimate_extrinsics_from_cam_target_poses camSe3Target refCamIdx ≡ err insufficient_data
  unfolding estimate_extrinsics_from_cam_target_poses
  rust_no_views e = rw e

  module _ (some_view : eqb (num_views camSe3Target) 0 ≡ false) where
    pub rust_no_cameras : eqb (num_cameras camSe3Target) 0 ≡ true → estimate_extrinsics_from_cam_target_poses camSe3Target refCamIdx ≡ err insufficient_data
    unfolding estimate_extrinsics_from_cam_target_poses
    rust_no_cameras e = rw (some_view, e)

    module _ (some_camera : eqb (num_cameras camSe3Target) 0 ≡ false) where
      pub rust_reference : leb (num_cameras camSe3Target) refCamIdx ≡ true → estimate_extrinsics_from_cam_target_poses camSe3Target refCamIdx ≡ err invalid_ref_cam_idx
      unfolding estimate_extrinsics_from_cam_target_poses
      rust_reference e = rw (some_view, some_camera, e)

      module _ (inside : leb (num_cameras camSe3Target) refCamIdx ≡ false) where
        pub rust_counts : (v : ℕ) → check_counts camSe3Target ≡ err (camera_count v) → estimate_extrinsics_from_cam_target_poses camSe3Target refCamIdx ≡ err (camera_count v)
        unfolding estimate_extrinsics_from_cam_target_poses
        rust_counts v e = rw (some_view, some_camera, inside, e)

        pub rust_loop : (rig : List (Option Pose)) → check_counts camSe3Target ≡ ok tt
            → while_layer camSe3Target (suc (num_cameras camSe3Target)) (set (replicate (num_cameras camSe3Target) None) refCamIdx (Some identity_pose)) (refCamIdx ∷ []) ≡ ok rig
            → estimate_extrinsics_from_cam_target_poses camSe3Target refCamIdx ≡ after_loop camSe3Target rig
        unfolding estimate_extrinsics_from_cam_target_poses
        rust_loop rig e f = rw (some_view, some_camera, inside, e, f)
