-- Demand 2, in the terms of both sides: how a grid that the Rust function takes stands in the inputs of the direct call, which refusal
-- stands for which of the Rust's errors, and when an answer of the direct call is the Rust's. Rests on the Rust function of `Rust`.
use Rattle.std.specs.Prelude.{◌≡◌, ℕ, ◌+◌, ◌*◌, ◌^◌, ◌<◌, ◌≤◌, T, List, [], ◌∷◌, ◌++◌, map, length, drop, slice_index, slice_index_or, Float, Option, None, Some, Err, Ok}
use Rattle.arithmetic.specs.Pose.{finite_pose, pose_at}
use Rattle.arithmetic.specs.declared.pose.Pose.{Pose}
use Rattle.refusal.specs.declared.Refusal.{Refusal}
use Rattle.refusal.specs.declared.Refusal.TheVariants.{InsufficientData, InvalidReference, CountDiffers, Unreached, EmptyView}
use Rattle.limits.specs.Limits.{max_views, max_cameras}
use Rattle.claims_direct.specs.RustStd.{Result, ok, err, neither}
use Rattle.claims_direct.specs.Rust.{Error, insufficient_data, invalid_ref_cam_idx, camera_count, share_no_view, no_valid_camera_poses, ExtrinsicPoses, num_views, num_cameras}
use Rattle.extrinsics.specs.Outcome.{Outcome}

-- ---- inputs

-- "0 empty, 1 pose"
abbrev pub mark_for : Option Pose → ℕ
mark_for None = 0
mark_for (Some p) = 1

-- `cam_se3_target[v][c]`, `None` outside.
abbrev pub pose_of : List (List (Option Pose)) → ℕ → ℕ → Option Pose
pose_of camSe3Target v c = slice_index_or (slice_index_or camSe3Target v []) c None

module _ (camSe3Target : List (List (Option Pose))) where
  -- Every view has as many cameras as view 0.
  abbrev pub EqualCounts : Type 0
  EqualCounts = (v : ℕ) → v < num_views camSe3Target → length (slice_index_or camSe3Target v []) ≡ num_cameras camSe3Target

  -- One mark and seven floats a cell; the floats of an empty cell are free.
  pub record EncodesCells (marks : List ℕ) (floats : List Float) : Type 0 where
    pub mark_each : length marks ≡ num_views camSe3Target * num_cameras camSe3Target
    pub seven_each : length floats ≡ 7 * (num_views camSe3Target * num_cameras camSe3Target)
    pub cell_mark : (v c : ℕ) → v < num_views camSe3Target → c < num_cameras camSe3Target
        → slice_index marks (v * num_cameras camSe3Target + c) ≡ mark_for (pose_of camSe3Target v c)
    pub cell_pose : (v c : ℕ) → v < num_views camSe3Target → c < num_cameras camSe3Target
        → (p : Pose) → pose_of camSe3Target v c ≡ Some p → pose_at floats (7 * (v * num_cameras camSe3Target + c)) ≡ p

  -- The direct call's counts, marks and floats hold the grid. Where the counts differ there are no cells to speak of.
  pub record Encodes (counts marks : List ℕ) (floats : List Float) : Type 0 where
    pub count_each : counts ≡ map length camSe3Target
    pub cells : EqualCounts → EncodesCells marks floats

  -- "every grid of finite poses within document 01's limits"
  pub record WithinLimits : Type 0 where
    pub views_fit : num_views camSe3Target ≤ max_views
    pub cameras_fit : num_cameras camSe3Target ≤ max_cameras
    pub finite_poses : (v c : ℕ) (p : Pose) → pose_of camSe3Target v c ≡ Some p → T (finite_pose p)

  -- Lent answers of so many floats and bytes are long enough.
  pub record RoomEnough (first_room second_room : ℕ) : Type 0 where
    pub first_fits : 7 * (num_cameras camSe3Target + num_views camSe3Target) ≤ first_room
    pub second_fits : 2 * num_cameras camSe3Target ≤ second_room

  -- Room is asked for only where sizes and counts are right: the reference is one of the cameras, so that there are a view and a camera, and every
  -- view has as many. Elsewhere answers of any length will do, since 1 to 4 come before 5.
  abbrev pub RoomWhereSized : ℕ → ℕ → ℕ → Type 0
  RoomWhereSized refCamIdx first_room second_room = refCamIdx < num_cameras camSe3Target → EqualCounts → RoomEnough first_room second_room

-- ---- answers

-- "sums 2 to the power c over those cameras c"
unfoldable pub powers_of : List ℕ → ℕ
powers_of [] = 0
powers_of (c ∷ cameras) = 2 ^ c + powers_of cameras

unfoldable pub refusal_of : Error → Refusal
refusal_of insufficient_data = InsufficientData
refusal_of invalid_ref_cam_idx = InvalidReference
refusal_of (camera_count vIdx) = CountDiffers vIdx
refusal_of (share_no_view unreached) = Unreached (powers_of unreached)
refusal_of (no_valid_camera_poses vIdx) = EmptyView vIdx

-- "x, y, z, then quaternion i, j, k, w."
abbrev pub seven_of : Pose → List Float
seven_of p =
    p.translation.x ∷ p.translation.y ∷ p.translation.z ∷ p.rotation.i ∷ p.rotation.j ∷ p.rotation.k ∷ p.rotation.w ∷ []

unfoldable pub flat_all : List Pose → List Float
flat_all [] = []
flat_all (p ∷ poses) = seven_of p ++ flat_all poses

-- "the transforms", number by number: the cameras' poses, then the views'.
abbrev pub numbers_of : ExtrinsicPoses → List Float
numbers_of poses = flat_all poses.rig_se3_cam ++ flat_all poses.rig_se3_target

-- What the direct call refuses with and the transforms that it would write, against what the Rust function comes to: an error is
-- refused by its number and detail, and an answer is written number by number. It is never neither: no `expect` fails and the loop over
-- layers ends. Of indexing nothing is said: it is modelled as total.
abbrev pub Agrees : Result Error ExtrinsicPoses → Option Refusal → List Float → Type 0
Agrees (ok poses) refusal numbers = (refusal ≡ None) × (numbers ≡ numbers_of poses)
Agrees (err e) refusal numbers = refusal ≡ Some (refusal_of e)
Agrees neither refusal numbers = ⊥

-- A direct call that was lent `first` and `second`, answers r and leaves `first'` and `second'`, against what the Rust function comes to. An
-- answer is Solved: its numbers stand in front of the first answer, and the floats beyond them are unchanged. The Rust reports no
-- chains, so the second answer is demand 3's. An error is refused by its number and detail, and both answers are unchanged.
abbrev pub CallAgrees : Result Error ExtrinsicPoses → List Float → List ℕ → Outcome → List Float → List ℕ → Type 0
CallAgrees (ok poses) first second r first' second' =
    (r ≡ Ok tt) × (first' ≡ numbers_of poses ++ drop (length (numbers_of poses)) first)
CallAgrees (err e) first second r first' second' = (r ≡ Err (refusal_of e)) × (first' ≡ first) × (second' ≡ second)
CallAgrees neither first second r first' second' = ⊥
