-- The Rust's `Error`, as far as `extrinsics.rs` makes it. Assumes nothing.
use Rattle.std.specs.Prelude.{ℕ, List}

-- One case for each kind of message, with the number or the list that tells one such message from another.
pub data Error : Type 0 where
  insufficient_data : Error
  invalid_ref_cam_idx : Error
  camera_count : (vIdx : ℕ) → Error
  share_no_view : (unreached : List ℕ) → Error
  no_valid_camera_poses : (vIdx : ℕ) → Error
