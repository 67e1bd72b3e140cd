-- What the functions of the estimate ask of a rig that they are handed. Assumes nothing.
use Rattle.std.specs.Prelude.{ℕ, ◌*◌, ◌^◌, ◌≤◌, ◌<◌, List, length, get_or, Float}
use Rattle.limits.specs.Limits.{max_views, max_cameras}
use Rattle.placing.specs.declared.grid.Rig.{Rig}

module _ (r : Rig) (floats : List Float) where
  -- The sizes are within the limits, every cell's pose is among the floats, and no mask has a view past the last.
  pub record Fitting : Type 0 where
    pub views_fit : r.views ≤ max_views
    pub cameras_fit : r.cameras ≤ max_cameras
    pub reference_inside : r.reference < r.cameras
    pub stride_covers : r.cameras ≤ r.stride
    pub stride_fits : r.stride ≤ max_cameras
    pub floats_fit : 7 * (r.views * r.stride) ≤ length floats
    pub masks_fit : (c : ℕ) → c < r.cameras → get_or r.masks c 0 < 2 ^ r.views
