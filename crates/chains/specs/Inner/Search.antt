-- What the functions of the search promise each other. Assumes nothing.
use Rattle.std.specs.Prelude.{ℕ, ◌-◌, ◌≤◌, ◌≡◌, Bool, cond, List, ltb}
use Rattle.std.specs.Prelude.{Option, None, Some, fold, filter}
use Rattle.chains.specs.Masks.{shared_by}
use Rattle.chains.specs.Inner.Trees.{tree_of}
use Rattle.lists.specs.Lists.{tabulate}
use Rattle.chains.specs.Layers.{Spot, spot_at, in_layer, layers_to}
use Rattle.chains.specs.declared.Network.{Network}
use Rattle.chains.specs.declared.Search.{Search}

-- The views that the next camera has to pass: those of the parent found, or one short of a link if none was.
abbrev pub views_to_pass : ℕ → (ℕ → ℕ) → Option ℕ → ℕ
views_to_pass least views None = least - 1
views_to_pass least views (Some p) = views p

-- The parent found once camera p is seen: p if it has more views than have to be passed.
abbrev pub better_parent : ℕ → (ℕ → ℕ) → Option ℕ → ℕ → Option ℕ
better_parent least views found p = cond (ltb (views_to_pass least views found) (views p)) (Some p) found

-- Of the list's cameras the first that has most views, if any has `least`, which is not 0.
abbrev pub first_most : ℕ → (ℕ → ℕ) → List ℕ → Option ℕ
first_most least views layer = fold (better_parent least views) None layer

-- The numbers below m that pass the test, ascending.
unfoldable pub passing : (ℕ → Bool) → ℕ → List ℕ
passing test m = filter test (tabulate m (λ c. c))

-- The spots of all cameras once layers 0 to n are placed.
abbrev pub spots_to : Network → ℕ → List Spot
spots_to network n = layers_to network.cameras (shared_by network.masks) network.least network.reference n

-- The search stands where all layers up to its number are placed, and its layer lists the cameras of the last, ascending.
pub record Reached (network : Network) (search : Search) : Type 0 where
  pub number_inside : search.number ≤ network.cameras
  pub tree_reached : search.tree ≡ tree_of (spots_to network search.number)
  pub layer_reached : search.layer.items ≡ passing (λ c. in_layer search.number (spot_at (spots_to network search.number) c)) network.cameras
