-- Spots as places: the tree that code hands out, and how to read it. Assumes nothing.
use Rattle.std.specs.Prelude.{ℕ, List, get_or}
use Rattle.std.specs.Prelude.{Option, None, Some}
use Rattle.limits.specs.Limits.{max_cameras}
use Rattle.chains.specs.Layers.{Spot, not_placed, placed, spot_at}
use Rattle.lists.specs.Lists.{tabulate}
use Rattle.chains.specs.declared.Place.{Place}
use Rattle.chains.specs.declared.Tree.{Tree}

-- The place that a spot has.
unfoldable pub place_of : Spot → Option Place
place_of not_placed = None
place_of (placed p d) = Some (record { parent = p; links = d })

-- A place for each camera that a rig may have; those past the list of spots have none.
unfoldable pub tree_of : List Spot → Tree
tree_of spots = record { places = tabulate max_cameras (λ c. place_of (spot_at spots c)) }

-- What a tree says of camera c.
unfoldable pub place_at : Tree → ℕ → Option Place
place_at tree c = get_or tree.places c None

-- Stands for the parent and the links of a camera that has no place: neither a camera nor a number of links is as large.
abbrev pub not_placed_byte : ℕ
not_placed_byte = 255

unfoldable pub parent_byte : Option Place → ℕ
parent_byte None = not_placed_byte
parent_byte (Some place) = place.parent

unfoldable pub links_byte : Option Place → ℕ
links_byte None = not_placed_byte
links_byte (Some place) = place.links

unfoldable pub parent_at : Tree → ℕ → ℕ
parent_at tree c = parent_byte (place_at tree c)

unfoldable pub links_at : Tree → ℕ → ℕ
links_at tree c = links_byte (place_at tree c)
