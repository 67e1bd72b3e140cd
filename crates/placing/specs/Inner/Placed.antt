-- What the functions that place cameras promise each other, over any tree of cameras that comes down to the reference: the poses of the
-- cameras whose links are few enough stand where they belong. Rests on the poses of `Estimate`.
use Rattle.std.specs.Prelude.{ℕ, suc, ◌<◌, ◌≡◌, ◌≢◌, List, ◌++◌, get_or, drop, Float}
use Rattle.arithmetic.specs.Pose.{nowhere}
use Rattle.arithmetic.specs.declared.pose.Pose.{Pose}
use Rattle.limits.specs.Limits.{first_needs, second_needs}
use Rattle.placing.specs.Grid.{Grid}
use Rattle.placing.specs.Estimate.{rig_se3_cam_in, transforms_in, chains_in}

-- The links fall by one from each camera to its parent, a camera of the rig, down to the reference, which has none.
pub record Rooted (cameras reference : ℕ) (parents linkCounts : ℕ → ℕ) : Type 0 where
  pub reference_links : linkCounts reference ≡ 0
  pub parent_inside : (c : ℕ) → c < cameras → c ≢ reference → parents c < cameras
  pub parent_links : (c : ℕ) → c < cameras → c ≢ reference → suc (linkCounts (parents c)) ≡ linkCounts c

module _ (g : Grid) (parents linkCounts : ℕ → ℕ) where
  -- Every camera with fewer than n links has its rig pose.
  abbrev pub PlacedTo : ℕ → List Pose → Type 0
  PlacedTo n poses = (c : ℕ) → c < g.cameras → linkCounts c < n → get_or poses c nowhere ≡ rig_se3_cam_in g parents linkCounts c

  -- Every camera has its rig pose.
  abbrev pub PlacedAll : List Pose → Type 0
  PlacedAll poses = (c : ℕ) → c < g.cameras → get_or poses c nowhere ≡ rig_se3_cam_in g parents linkCounts c

  -- Both answers of a solved rig, in front of what was there.
  pub record Written (first : List Float) (second : List ℕ) (first' : List Float) (second' : List ℕ) : Type 0 where
    pub first_written : first' ≡ transforms_in g parents linkCounts ++ drop (first_needs g.cameras g.views) first
    pub second_written : second' ≡ chains_in g parents linkCounts ++ drop (second_needs g.cameras) second
