-- The search from layer to layer: it begins at layer 0 (`reached_zero`), a layer that has a camera has a number below the number of cameras
-- (`reached_number`), and an empty layer is the last (`reached_end`). Assumes nothing.
use Prim.Native.Nat.{ℕ, ◌<◌}
use native.Mathlib.Decide.{dec_lt, ℕ_discrete}
use native.Mathlib.Omega.{arith}
use mathlib.Core.Path.{◌≡◌, sym, ap, ◌∙◌, subst}
use mathlib.Core.Logic.{◌≢◌}
use Rattle.std.specs.Prelude.{Option, None, Some, All}
use mathlib.Core.List.{List, [], ◌∷◌}
use lib.ListN.{length, get_or, set, replicate, length-set, length-replicate, get_or-replicate}
use lib.Seq.{get_or-set_same, get_or-set_other}
use lib.Dec.{T}
use borrow.Author.Tests.{ne_eqb}
use Rattle.std.proofs.lemmas.List.Elements.{All-same, All-weaker}
use Rattle.limits.specs.Limits.{max_cameras}
use Rattle.chains.specs.Masks.{shared_by}
use Rattle.chains.specs.Inner.Trees.{place_of, tree_of}
use Rattle.chains.specs.Layers.{not_placed, placed, in_layer, start_spot, layers}
use Rattle.chains.specs.Inner.Search.{Reached}
use Rattle.chains.specs.declared.Network.{Network}
use Rattle.chains.specs.declared.Place.{Place}
use Rattle.chains.specs.declared.Search.{Search}
use Rattle.chains.proofs.Placing.{spot_zero, spot_outside, spot_reference, links-below-cameras, in_layer-placed, placed-in_layer, layers_to_stays}
use Rattle.chains.proofs.Passing.{passing_inside, passing_some, passing_none, passing_alone}
use Rattle.chains.proofs.Turning.{spot_of, in_layer_of, tree_is}

module _ (network : Network) where
  -- ---- layer 0

  -- At layer 0 only the reference is placed.
  reference_zero : spot_of network 0 network.reference ≡ placed network.reference 0
  reference_zero = spot_reference network.cameras (shared_by network.masks) network.least network.reference network.reference_inside

  other_zero : (i : ℕ) → i ≢ network.reference → spot_of network 0 i ≡ not_placed
  unfolding start_spot
  other_zero i n = go (dec_lt i network.cameras)
    where
      go : Dec (i < network.cameras) → spot_of network 0 i ≡ not_placed
      go (yes y) = spot_zero network.cameras (shared_by network.masks) network.least network.reference i y ∙ rw (ne_eqb i network.reference n)
      go (no y) = spot_outside network.cameras (shared_by network.masks) network.least network.reference 0 i (omega arith)

  abbrev root : Place
  root = record { parent = network.reference; links = 0 }

  abbrev places_zero : List (Option Place)
  places_zero = set (replicate max_cameras None) network.reference (Some root)

  place_zero : (i : ℕ) → i < max_cameras → get_or places_zero i None ≡ place_of (spot_of network 0 i)
  unfolding place_of
  place_zero i h = go (ℕ_discrete i network.reference)
    where
      go : Dec (i ≡ network.reference) → get_or places_zero i None ≡ place_of (spot_of network 0 i)
      go (yes y) =
          rw (y, reference_zero) (get_or-set_same (replicate max_cameras None) network.reference (Some root) None (omega (arith, length-replicate {A = Option Place} max_cameras None)))
      go (no y) =
          rw (other_zero i y)
          (get_or-set_other (replicate max_cameras None) network.reference i (Some root) None y ∙ get_or-replicate max_cameras i None None h)

  pub reached_zero : (layer : List ℕ) → layer ≡ network.reference ∷ []
      → Reached network (record { tree = record { places = places_zero }; number = 0; layer = record { items = layer } })
  unfolding in_layer
  reached_zero layer e = record {
    number_inside = omega arith;
    tree_reached = tree_is network 0 places_zero (length-set (replicate max_cameras None) network.reference (Some root)) place_zero;
    layer_reached =
        e ∙ sym (passing_alone (in_layer_of network 0) network.cameras network.reference network.reference_inside
        (placed-in_layer 0 network.reference (spot_of network 0 network.reference) reference_zero) (λ i n. rw (other_zero i n)));
  }

  -- ---- layer after layer

  module _ {search : Search} (at : Reached network search) where
    pub layer_inside : All (λ c. c < max_cameras) search.layer.items
    layer_inside =
        All-same (λ c. c < max_cameras) search.layer.items _ at.layer_reached
        (All-weaker (λ c. c < network.cameras) (λ c. c < max_cameras) (λ c h. omega arith) _ (passing_inside (in_layer_of network search.number) network.cameras))

    -- A layer that has a camera has a number below the number of cameras.
    pub reached_number : 0 < length search.layer.items → search.number < network.cameras
    reached_number h =
        let (c, l, e) = passing_some (in_layer_of network search.number) network.cameras (omega (arith, ap length at.layer_reached)) in
        let (p, f) = in_layer-placed search.number (spot_of network search.number c) (subst T (sym e) tt) in
        links-below-cameras network.cameras (shared_by network.masks) network.least network.reference search.number c p search.number l f

    -- An empty layer is the last.
    pub reached_end : length search.layer.items ≡ 0 → search.tree ≡ tree_of (layers network.cameras (shared_by network.masks) network.least network.reference)
    unfolding layers
    reached_end e =
        at.tree_reached
        ∙ ap tree_of (sym (layers_to_stays network.cameras (shared_by network.masks) network.least network.reference search.number
        (passing_none (in_layer_of network search.number) network.cameras (sym (ap length at.layer_reached) ∙ e)) network.cameras at.number_inside))
