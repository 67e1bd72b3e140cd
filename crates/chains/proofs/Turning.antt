-- From one layer to the next: what the loop over the cameras has done (`Turned`), a law for each way through its body, and its two ends.
-- Assumes nothing.
use Prim.Native.Nat.{ℕ, suc, ◌+◌, ◌≤◌, ◌<◌}
use native.Mathlib.Decide.{dec_lt}
use native.Mathlib.Numerals.{add-one}
use native.Mathlib.Omega.{arith}
use borrow.Author.Count.{below_more}
use mathlib.Core.Path.{◌≡◌, refl, sym, ap, ◌∙◌}
use mathlib.Core.Bool.{Bool, true, false, true≢false}
use Rattle.std.specs.Prelude.{Option, None, Some}
use Rattle.std.specs.Option.{is_some}
use mathlib.Core.List.{List, [], ◌∷◌, ◌++◌}
use lib.ListN.{length, get_or, set, length-set}
use lib.Seq.{get_or-set_same, get_or-set_other}
use Rattle.limits.specs.Limits.{max_cameras}
use Rattle.chains.specs.Masks.{shared_by}
use Rattle.chains.specs.Inner.Trees.{place_of, tree_of}
use Rattle.chains.specs.Layers.{Spot, not_placed, placed, is_placed, in_layer, next_spot}
use Rattle.lists.specs.Lists.{tabulate}
use Rattle.chains.specs.Inner.Search.{first_most, passing, spots_to, Reached}
use Rattle.chains.specs.declared.Network.{Network}
use Rattle.chains.specs.declared.Place.{Place}
use Rattle.chains.specs.declared.Search.{Search}
use Rattle.chains.specs.declared.Tree.{Tree}
use Rattle.lists.proofs.Tabulated.{length-tabulate, get_d_tabulate, tabulate-get_or}
use Rattle.chains.proofs.Placing.{spot, offer, of_layer, spot_suc, spot_outside, placed-in_layer, kept_not_of_layer}
use Rattle.chains.proofs.Places.{is_some-place_of}
use Rattle.chains.proofs.Passing.{length-passing-le, passing_more, passing_same}
use Rattle.chains.proofs.Searching.{first_most-parent_in_layer}

module _ (network : Network) where
  abbrev pub spot_of : ℕ → ℕ → Spot
  spot_of n c = spot network.cameras (shared_by network.masks) network.least network.reference n c

  abbrev pub offer_of : ℕ → ℕ → Option ℕ
  offer_of n c = offer network.cameras (shared_by network.masks) network.least network.reference n c

  abbrev pub in_layer_of : ℕ → ℕ → Bool
  in_layer_of n c = of_layer network.cameras (shared_by network.masks) network.least network.reference n c

  -- On the way from layer n to layer n + 1, the cameras below `camera` are done: their places are those of layer n + 1, the other places
  -- are still those of layer n, and `next` lists those of layer n + 1.
  pub record Turned (n camera : ℕ) (places : List (Option Place)) (next : List ℕ) : Type 0 where
    pub places_length : length places ≡ max_cameras
    pub done : (i : ℕ) → i < camera → get_or places i None ≡ place_of (spot_of (suc n) i)
    pub left : (i : ℕ) → camera ≤ i → i < max_cameras → get_or places i None ≡ place_of (spot_of n i)
    pub next_lists : next ≡ passing (in_layer_of (suc n)) camera

  pub turned_length : {n camera : ℕ} {places : List (Option Place)} {next : List ℕ} → Turned n camera places next → length next ≤ camera
  turned_length {n} {camera} at = omega (arith, ap length at.next_lists, length-passing-le (in_layer_of (suc n)) camera)

  -- ---- one camera

  module _ {n camera : ℕ} {places : List (Option Place)} {next : List ℕ} (before : Turned n camera places next) (inside : camera < network.cameras) where
    -- The camera stays as it is.
    turned_kept : spot_of (suc n) camera ≡ spot_of n camera → Turned n (camera + 1) places next
    turned_kept e = record {
      places_length = before.places_length;
      done = below_more _ _ before.done (before.left camera (omega arith) (omega arith) ∙ ap place_of (sym e));
      left = λ i h k. before.left i (omega arith) k;
      next_lists = rw add-one (before.next_lists
          ∙ sym (passing_same (in_layer_of (suc n)) camera (kept_not_of_layer network.cameras (shared_by network.masks) network.least network.reference n camera inside e)));
    }

    -- The camera is placed in layer n + 1 under parent p.
    turned_placed : (p : ℕ) → spot_of (suc n) camera ≡ placed p (suc n)
        → Turned n (camera + 1) (set places camera (Some (record { parent = p; links = suc n }))) (next ++ camera ∷ [])
    unfolding place_of
    turned_placed p e = record {
      places_length = length-set places camera _ ∙ before.places_length;
      done = below_more _ _
          (λ i k. get_or-set_other places camera i _ None (omega arith) ∙ before.done i k)
          (get_or-set_same places camera _ None (omega (arith, before.places_length)) ∙ sym (ap place_of e));
      left = λ i h k. get_or-set_other places camera i _ None (omega arith) ∙ before.left i (omega arith) k;
      next_lists = rw (add-one, before.next_lists)
          (sym (passing_more (in_layer_of (suc n)) camera (placed-in_layer (suc n) p (spot_of (suc n) camera) e)));
    }

  -- ---- the ways through the body

  module _ {search : Search} (at : Reached network search) where
    -- What is found in the layer's list is the parent that the layer offers.
    found_offer : (c : ℕ) → spot_of search.number c ≡ not_placed
        → first_most network.least (shared_by network.masks c) search.layer.items ≡ offer_of search.number c
    unfolding in_layer
    found_offer c e =
        ap (first_most network.least (shared_by network.masks c)) at.layer_reached
        ∙ first_most-parent_in_layer network.cameras (shared_by network.masks) network.least network.some_view (spot_of search.number) search.number c (rw e)

    module _ {camera : ℕ} {places : List (Option Place)} {next : List ℕ} (before : Turned search.number camera places next)
        (inside : camera < network.cameras) where
      step : spot_of (suc search.number) camera ≡ next_spot search.number (spot_of search.number camera) (offer_of search.number camera)
      step = spot_suc network.cameras (shared_by network.masks) network.least network.reference search.number camera inside

      spot_left : is_some (get_or places camera None) ≡ is_placed (spot_of search.number camera)
      spot_left = ap is_some (before.left camera (omega arith) (omega arith)) ∙ is_some-place_of (spot_of search.number camera)

      pub turned_before : is_some (get_or places camera None) ≡ true → Turned search.number (camera + 1) places next
      unfolding next_spot is_placed
      turned_before e = turned_kept before inside (go (spot_of search.number camera) refl)
        where
          go : (s : Spot) → spot_of search.number camera ≡ s → spot_of (suc search.number) camera ≡ spot_of search.number camera
          go not_placed f = absurd (true≢false (sym e ∙ spot_left ∙ rw f))
          go (placed p d) f = step ∙ rw f

      module _ (free : is_some (get_or places camera None) ≡ false) {best : Option ℕ}
          (found : best ≡ first_most network.least (shared_by network.masks camera) search.layer.items) where
        not_yet : spot_of search.number camera ≡ not_placed
        unfolding is_placed
        not_yet = go (spot_of search.number camera) refl
          where
            go : (s : Spot) → spot_of search.number camera ≡ s → spot_of search.number camera ≡ not_placed
            go not_placed f = f
            go (placed p d) f = absurd (true≢false (sym (sym free ∙ spot_left ∙ rw f)))

        best_offer : best ≡ offer_of search.number camera
        best_offer = found ∙ found_offer camera not_yet

        pub turned_no_parent : best ≡ None → Turned search.number (camera + 1) places next
        unfolding next_spot
        turned_no_parent e = turned_kept before inside (step ∙ rw (← best_offer, e, not_yet))

        pub turned_parent : (p d : ℕ) → best ≡ Some p → d ≡ search.number + 1
            → Turned search.number (camera + 1) (set places camera (Some (record { parent = p; links = d }))) (next ++ camera ∷ [])
        unfolding next_spot
        turned_parent p d e f = rw (f, add-one search.number) (turned_placed before inside p (step ∙ rw (← best_offer, e, not_yet)))

    -- ---- the loop's ends

    pub turned_start : (next : List ℕ) → next ≡ [] → Turned search.number 0 search.tree.places next
    unfolding passing tabulate tree_of
    turned_start next e = record {
      places_length = ap (λ (t : Tree). length t.places) at.tree_reached ∙ length-tabulate max_cameras (λ c. place_of (spot_of search.number c));
      done = λ i h. absurd (omega arith);
      left = λ i h k. ap (λ (t : Tree). get_or t.places i None) at.tree_reached ∙ get_d_tabulate max_cameras (λ c. place_of (spot_of search.number c)) None i k;
      next_lists = e;
    }

  -- Places that tell the spots of all cameras are the tree of them.
  pub tree_is : (n : ℕ) (places : List (Option Place)) → length places ≡ max_cameras
      → ((i : ℕ) → i < max_cameras → get_or places i None ≡ place_of (spot_of n i))
      → ◌≡◌ {A = Tree} (record { places = places }) (tree_of (spots_to network n))
  unfolding tree_of
  tree_is n places long at =
      ap (λ (l : List (Option Place)). record { places = l })
      (tabulate-get_or None places (λ c. place_of (spot_of n c)) (λ i k. at i (omega arith)) ∙ ap (λ (m : ℕ). tabulate m (λ c. place_of (spot_of n c))) long)

  pub turned_end : {n d : ℕ} {places : List (Option Place)} {next : List ℕ} → Turned n network.cameras places next → n < network.cameras → d ≡ n + 1
      → Reached network (record { tree = record { places = places }; number = d; layer = record { items = next } })
  turned_end {n} {d} {places} at inside e = rw (e, add-one n) record {
    number_inside = inside;
    tree_reached = tree_is (suc n) places at.places_length (λ i k. all i k (dec_lt i network.cameras));
    layer_reached = at.next_lists;
  }
    where
      all : (i : ℕ) → i < max_cameras → Dec (i < network.cameras) → get_or places i None ≡ place_of (spot_of (suc n) i)
      all i k (yes h) = at.done i h
      all i k (no h) =
          let past = λ (m : ℕ). spot_outside network.cameras (shared_by network.masks) network.least network.reference m i (omega arith) in
          at.left i (omega arith) k ∙ ap place_of (past n ∙ sym (past (suc n)))
