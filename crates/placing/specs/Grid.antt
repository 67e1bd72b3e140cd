-- The grid of cells that an estimate works on, and what its marks say: document 01, "A cell is either empty or holds one pose of seven numbers" and "Chains".
-- Rests on the shared counts of `Shared` and the layers of `Layers`.
use Rattle.std.specs.Prelude.{ℕ, ◌+◌, ◌*◌, Bool, true, false, List, get_or, Option, None, Some}
use Rattle.limits.specs.Limits.{one_view}
use Rattle.chains.specs.Shared.{shared}
use Rattle.chains.specs.Layers.{Spot, layers, spot_at, is_placed, parent_of, links_of}
use Rattle.arithmetic.specs.declared.pose.Pose.{Pose}

-- What a view holds of a camera: nothing, or the target's pose T_C_T.
abbrev pub Cell : Type 0
Cell = Option Pose

-- View after view: a cell's index is view × cameras + camera.
pub record Grid : Type 0 where
  pub views : ℕ
  pub cameras : ℕ
  pub reference : ℕ
  pub cells : List Cell

unfoldable pub is_held : Cell → Bool
is_held None = false
is_held (Some p) = true

module _ (g : Grid) where
  abbrev pub cell_of : ℕ → ℕ → Cell
  cell_of v c = get_or g.cells (v * g.cameras + c) None

  -- "A view holds a pose of a camera if that cell's mark is 1"
  abbrev pub holds : ℕ → ℕ → Bool
  holds v c = is_held (cell_of v c)

  abbrev pub shared_views : ℕ → ℕ → ℕ
  shared_views a b = shared holds g.views a b

  -- How the layers place each camera, one shared view making a link.
  unfoldable pub spots : List Spot
  spots = layers g.cameras shared_views one_view g.reference

  abbrev pub has_place : ℕ → Bool
  has_place c = is_placed (spot_at spots c)

  abbrev pub parent : ℕ → ℕ
  parent c = parent_of (spot_at spots c)

  abbrev pub link_count : ℕ → ℕ
  link_count c = links_of (spot_at spots c)
