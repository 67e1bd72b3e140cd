-- How to read a tree: each camera's place tells its spot (`place_at-tree_of`), so a placed camera has its parent and its links
-- (`parent_at-placed`, `links_at-placed`), and the tree made from masks is the tree of the views that hold poses (`layers_of_masks`).
-- Assumes nothing.
use Prim.Native.Nat.{ℕ, ◌≤◌, ◌<◌}
use mathlib.Core.Path.{◌≡◌, ap, ◌∙◌}
use mathlib.Core.Bool.{Bool, false}
use Rattle.std.specs.Prelude.{None}
use Rattle.std.specs.Option.{is_some}
use mathlib.Core.List.{List}
use lib.ListN.{get_or}
use lib.Dec.{T}
use Rattle.limits.specs.Limits.{max_views, max_cameras}
use Rattle.chains.specs.Shared.{shared}
use Rattle.lists.specs.Masks.{in_mask}
use Rattle.chains.specs.Masks.{shared_by}
use Rattle.chains.specs.Layers.{is_placed, parent_of, links_of, spot_at, layers, Spot}
use Rattle.chains.specs.Inner.Trees.{place_of, parent_byte, links_byte, tree_of, place_at, parent_at, links_at}
use Rattle.lists.proofs.Tabulated.{get_d_tabulate}
use Rattle.chains.proofs.Places.{is_some-place_of, parent_byte-place_of, links_byte-place_of}
use Rattle.chains.proofs.Theorem.{layers_agree}
use Rattle.chains.proofs.Bits.{shared_by-shared}

-- ---- places and spots

module _ (spots : List Spot) (c : ℕ) (inside : c < max_cameras) where
  pub place_at-tree_of : place_at (tree_of spots) c ≡ place_of (spot_at spots c)
  unfolding place_at tree_of
  place_at-tree_of = get_d_tabulate max_cameras (λ i. place_of (spot_at spots i)) None c inside

  pub is_some-place_at : is_some (place_at (tree_of spots) c) ≡ is_placed (spot_at spots c)
  is_some-place_at = ap is_some place_at-tree_of ∙ is_some-place_of (spot_at spots c)

  pub parent_at-placed : T (is_placed (spot_at spots c)) → parent_at (tree_of spots) c ≡ parent_of (spot_at spots c)
  unfolding parent_at
  parent_at-placed t = ap parent_byte place_at-tree_of ∙ parent_byte-place_of (spot_at spots c) t

  pub links_at-placed : T (is_placed (spot_at spots c)) → links_at (tree_of spots) c ≡ links_of (spot_at spots c)
  unfolding links_at
  links_at-placed t = ap links_byte place_at-tree_of ∙ links_byte-place_of (spot_at spots c) t

-- ---- the tree of masks

-- Where the masks mark which of the first `views` views hold a pose of each camera, and nothing else, the layers by masks are the layers
-- by the poses held.
module _ (masks : List ℕ) (holds : ℕ → ℕ → Bool) (cameras views least reference : ℕ) (fits : views ≤ max_views)
    (marks : (c v : ℕ) → c < cameras → v < views → in_mask (get_or masks c 0) v ≡ holds v c)
    (nothing-else : (c v : ℕ) → c < cameras → views ≤ v → v < max_views → in_mask (get_or masks c 0) v ≡ false) where
  pub layers_of_masks : layers cameras (shared_by masks) least reference ≡ layers cameras (shared holds views) least reference
  layers_of_masks =
      layers_agree cameras (shared_by masks) (shared holds views) least reference
      (λ a b ha hb n. shared_by-shared masks holds cameras views fits marks nothing-else a b ha hb)
