-- The Rust function `estimate_extrinsics_from_cam_target_poses` of extrinsics.rs, step by step in its own order and terms, to be read with the
-- Rust in the other hand. It shares the arithmetic of `arithmetic` with the definitions of the direct call, and nothing else: the average that
-- it takes is the Rust's own, of `RustAverage`.
use Rattle.std.specs.Prelude.{ℕ, zero, suc, Bool, true, false, not, ◌&&◌, ◌||◌, ltb, List, [], ◌∷◌, ◌++◌, map, length, replicate, ◌==◌, nat_le, nat_lt, slice_index_or, slice_set, Option, None, Some}
use Rattle.arithmetic.specs.Pose.{identity_pose}
use Rattle.arithmetic.specs.Numbers.{mul_iso, inverse_iso}
use Rattle.arithmetic.specs.declared.pose.Pose.{Pose}
use Rattle.claims_direct.specs.RustAverage.{average_isometries?}
pub use Rattle.claims_direct.specs.RustError.{Error, insufficient_data, invalid_ref_cam_idx, camera_count, share_no_view, no_valid_camera_poses}
use Rattle.claims_direct.specs.RustStd.{Result, ok, neither, ◌>>=◌, ◌>>◌, return_err_if, expect, is_some, ◌‼◌, is_empty, range, enumerate, for_each, filter, filter_map, flatten, min_by}

-- `struct ExtrinsicPoses`
pub record ExtrinsicPoses : Type 0 where
  pub rig_se3_cam : List Pose
  pub rig_se3_target : List Pose

-- The key `(std::cmp::Reverse(n), p)` of the first pair is below that of the second: more shared views, or as many and a lower index.
unfoldable pub key_below : ℕ × ℕ → ℕ × ℕ → Bool
key_below (p, n) (q, m) = nat_lt m n || (n == m && nat_lt p q)

-- "T_Cparent_Ccam = T_Cparent_T * (T_Ccam_T)^(-1)" where the view has both, else `None`.
unfoldable pub relative_pose : Option Pose → Option Pose → Option Pose
relative_pose None ctCam = None
relative_pose (Some ctParent) None = None
relative_pose (Some ctParent) (Some ctCam) = Some (mul_iso ctParent (inverse_iso ctCam))

module _ (camSe3Target : List (List (Option Pose))) where
  unfoldable pub num_views : ℕ
  num_views = length camSe3Target

  -- `cam_se3_target[0].len()`, read only where there is a view.
  unfoldable pub num_cameras : ℕ
  num_cameras = length (slice_index_or camSe3Target 0 [])

  -- `for (v_idx, view) in cam_se3_target.iter().enumerate()`, whose body returns an error where `view.len() != num_cameras`.
  unfoldable pub check_count : ℕ × List (Option Pose) → Unit {0} → Result Error (Unit {0})
  check_count (vIdx, view) s = return_err_if (not (length view == num_cameras)) (camera_count vIdx)

  unfoldable pub check_counts : Result Error (Unit {0})
  check_counts = for_each (enumerate camSe3Target) check_count tt

  -- The closure `shared`: `cam_se3_target.iter().filter(..).count()`.
  unfoldable pub shared : ℕ → ℕ → ℕ
  shared i j = length (filter (λ view. is_some (view ‼ i) && is_some (view ‼ j)) camSe3Target)

  -- "The parent in this layer sharing the most views (lowest index on ties)": `layer.iter().map(..).filter(..).min_by_key(..)`.
  unfoldable pub parent_in : List ℕ → ℕ → Option (ℕ × ℕ)
  parent_in layer camIdx = min_by key_below (filter (λ (p, n). ltb 0 n) (map (λ p. (p, shared p camIdx)) layer))

  -- `cam_se3_target.iter().filter_map(..).collect()`
  unfoldable pub candidates : ℕ → ℕ → List Pose
  candidates parent camIdx = filter_map (λ view. relative_pose (view ‼ parent) (view ‼ camIdx)) camSe3Target

  -- `let Some((parent, _)) = .. else { continue; };` and what follows it in the body. The state is `rig_se3_cam` and `next`.
  unfoldable pub place : Option (ℕ × ℕ) → ℕ → List (Option Pose) × List ℕ → Result Error (List (Option Pose) × List ℕ)
  place None camIdx (rig_se3_cam, next) = ok (rig_se3_cam, next)
  place (Some (parent, n)) camIdx (rig_se3_cam, next) = do
    parentSe3Cam ← average_isometries? (candidates parent camIdx)
    rigSe3Parent ← expect (rig_se3_cam ‼ parent)
    ok (slice_set rig_se3_cam camIdx (Some (mul_iso rigSe3Parent parentSe3Cam)), next ++ (camIdx ∷ []))

  -- The body of `for cam_idx in 0..num_cameras`, with its `continue` for a camera that has a pose.
  unfoldable pub visit : List ℕ → ℕ → List (Option Pose) × List ℕ → Result Error (List (Option Pose) × List ℕ)
  visit layer camIdx (rig_se3_cam, next) =
      elim (is_some (rig_se3_cam ‼ camIdx)) [ true ↦ ok (rig_se3_cam, next) | false ↦ place (parent_in layer camIdx) camIdx (rig_se3_cam, next) ]

  -- `while !layer.is_empty()`: a turn begins with an empty `next` and ends with `layer = next`. It is given a number of turns. One more than
  -- there are cameras never runs out, since every turn but the last places a camera.
  unfoldable pub while_layer : ℕ → List (Option Pose) → List ℕ → Result Error (List (Option Pose))
  while_layer zero rig_se3_cam [] = ok rig_se3_cam
  while_layer zero rig_se3_cam (c ∷ layer) = neither
  while_layer (suc turns) rig_se3_cam [] = ok rig_se3_cam
  while_layer (suc turns) rig_se3_cam (c ∷ layer) = do
    (rig_se3_cam', next) ← for_each (range num_cameras) (visit (c ∷ layer)) (rig_se3_cam, [])
    while_layer turns rig_se3_cam' next

  -- `(0..num_cameras).filter(|&c| rig_se3_cam[c].is_none()).collect()`
  unfoldable pub unreached : List (Option Pose) → List ℕ
  unreached rig_se3_cam = filter (λ c. not (is_some (rig_se3_cam ‼ c))) (range num_cameras)

-- `rig_se3_cam[cam_idx] * ct` where the camera has a pose in the view.
unfoldable pub target_candidate : List Pose → ℕ → Option Pose → Option Pose
target_candidate rig_se3_cam camIdx None = None
target_candidate rig_se3_cam camIdx (Some ct) = Some (mul_iso (slice_index_or rig_se3_cam camIdx identity_pose) ct)

-- `for (cam_idx, opt_ct) in view.iter().enumerate()`, which pushes them.
unfoldable pub target_candidates : List Pose → List (Option Pose) → List Pose
target_candidates rig_se3_cam view = filter_map (λ (camIdx, optCt). target_candidate rig_se3_cam camIdx optCt) (enumerate view)

-- The body of the last `for (v_idx, view) in cam_se3_target.iter().enumerate()`.
unfoldable pub push_target : List Pose → ℕ × List (Option Pose) → List Pose → Result Error (List Pose)
push_target rig_se3_cam (vIdx, view) rig_se3_target = do
  return_err_if (is_empty (target_candidates rig_se3_cam view)) (no_valid_camera_poses vIdx)
  avg ← average_isometries? (target_candidates rig_se3_cam view)
  ok (rig_se3_target ++ (avg ∷ []))

-- `pub fn estimate_extrinsics_from_cam_target_poses(cam_se3_target: &[Vec<Option<Iso3>>], ref_cam_idx: usize)`
unfoldable pub estimate_extrinsics_from_cam_target_poses : List (List (Option Pose)) → ℕ → Result Error ExtrinsicPoses
estimate_extrinsics_from_cam_target_poses camSe3Target refCamIdx = do
  return_err_if (num_views camSe3Target == 0) insufficient_data
  let cameras = num_cameras camSe3Target
  return_err_if (cameras == 0) insufficient_data
  return_err_if (nat_le cameras refCamIdx) invalid_ref_cam_idx
  check_counts camSe3Target
  rig_se3_cam ← while_layer camSe3Target (suc cameras) (slice_set (replicate cameras None) refCamIdx (Some identity_pose)) (refCamIdx ∷ [])
  return_err_if (not (is_empty (unreached camSe3Target rig_se3_cam))) (share_no_view (unreached camSe3Target rig_se3_cam))
  rig_se3_target ← for_each (enumerate camSe3Target) (push_target (flatten rig_se3_cam)) []
  ok (record { rig_se3_cam = flatten rig_se3_cam; rig_se3_target = rig_se3_target })
