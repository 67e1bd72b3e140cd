-- Trees that come down to the reference: no camera of one has as many links as the rig has cameras (`rooted_links-below`), two that
-- agree on the cameras of the rig have the same answers (`written_agree`), each camera of one has a place (`rooted_places`), and the
-- layers make one where every camera is placed (`spots_rooted`), so that what is written by it is what the layers say (`written_by_layers`).
-- Assumes nothing.
use Prim.Native.Nat.{ℕ, zero, suc, ◌+◌, ◌*◌, ◌≤◌, ◌<◌}
use native.Mathlib.Omega.{arith}
use mathlib.Core.Path.{◌≡◌, refl, ap, ap₂, ◌∙◌}
use mathlib.Core.Logic.{◌≢◌}
use mathlib.Core.List.{List, [], ◌∷◌, ◌++◌}
use lib.ListN.{get_or, drop}
use Rattle.std.specs.Prelude.{Option, None, Some, IsSome}
use lib.Dec.{T, leb, leb→le, le→leb}
use lib.Ieee.{Float}
use borrow.Author.Tests.{le-leb, lt-leb}
use Rattle.arithmetic.specs.Pose.{mul_pose, flat}
use Rattle.limits.specs.Limits.{max_cameras, one_view}
use Rattle.lists.specs.Finding.{count}
use Rattle.chains.specs.Inner.Trees.{tree_of, not_placed_byte, parent_byte, links_byte, place_at, parent_at, links_at}
use Rattle.placing.specs.Grid.{Grid, shared_views, spots, has_place, parent, link_count}
use Rattle.placing.specs.Estimate.{averaged_link, pose_after, rig_se3_cam_in, transforms_in, chains_in}
use Rattle.placing.specs.Inner.Placed.{Rooted, Written}
use Rattle.chains.specs.declared.Place.{Place}
use Rattle.chains.specs.declared.Tree.{Tree}
use Rattle.lists.proofs.Counting.{count-le, count_more, count-some}
use Rattle.chains.proofs.Theorem.{LayeredSpots}
use Rattle.chains.proofs.Reading.{parent_at-placed, links_at-placed}
use Rattle.placing.proofs.Gathering.{gather_agree}
use Rattle.placing.proofs.Candidates.{rig_se3_target_from_agree}
use Rattle.placing.proofs.RigPoses.{spots_layered}

-- Every camera has a chain.
abbrev pub AllPlaced : Grid → Type 0
AllPlaced g = (c : ℕ) → c < g.cameras → T (has_place g c)

module _ (cameras reference : ℕ) (parents linkCounts : ℕ → ℕ) (rooted : Rooted cameras reference parents linkCounts) where
  -- A camera with links is not the reference.
  pub linked-not-reference : (c : ℕ) → 0 < linkCounts c → c ≢ reference
  linked-not-reference c h e = omega (arith, ap linkCounts e, rooted.reference_links)

  pub linked-parent-inside : (c : ℕ) → c < cameras → 0 < linkCounts c → parents c < cameras
  linked-parent-inside c h k = rooted.parent_inside c h (linked-not-reference c k)

  -- Each number of links down to none is that of another camera.
  links-count : (d c : ℕ) → c < cameras → linkCounts c ≡ d → d < count (λ i. leb (linkCounts i) d) cameras
  links-count zero c h e = count-some (λ i. leb (linkCounts i) 0) cameras c h (le-leb (linkCounts c) 0 (omega arith))
  links-count (suc d) c h e =
      let n = linked-not-reference c (omega arith) in
      omega (
        arith,
        links-count d (parents c) (rooted.parent_inside c h n) (omega (arith, rooted.parent_links c h n)),
        count_more (λ i. leb (linkCounts i) d) (λ i. leb (linkCounts i) (suc d)) cameras
            (λ i k t. le→leb (linkCounts i) (suc d) (omega (arith, leb→le (linkCounts i) d t))) c h
            (lt-leb (linkCounts c) d (omega arith)) (le-leb (linkCounts c) (suc d) (omega arith)),
      )

  pub rooted_links-below : (c : ℕ) → c < cameras → linkCounts c < cameras
  rooted_links-below c h = omega (arith, links-count (linkCounts c) c h refl, count-le (λ i. leb (linkCounts i) (linkCounts c)) cameras)

-- ---- places

module _ (tree : Tree) (c : ℕ) (p : Place) (e : get_or tree.places c None ≡ Some p) where
  pub parent_at-place : parent_at tree c ≡ p.parent
  unfolding parent_at place_at parent_byte
  parent_at-place = ap parent_byte e

  pub links_at-place : links_at tree c ≡ p.links
  unfolding links_at place_at links_byte
  links_at-place = ap links_byte e

pub links_at-none : (tree : Tree) (c : ℕ) → get_or tree.places c None ≡ None → links_at tree c ≡ not_placed_byte
unfolding links_at place_at links_byte
links_at-none tree c e = ap links_byte e

module _ (cameras reference : ℕ) (tree : Tree) (rooted : Rooted cameras reference (parent_at tree) (links_at tree)) where
  -- Without a place a camera would have more links than a rig has cameras.
  pub rooted_places : cameras ≤ max_cameras → (c : ℕ) → c < cameras → IsSome (get_or tree.places c None)
  rooted_places few c h = go (get_or tree.places c None) refl
    where
      go : (o : Option Place) → get_or tree.places c None ≡ o → IsSome o
      go None e =
          absurd (omega (arith, links_at-none tree c e, rooted_links-below cameras reference (parent_at tree) (links_at tree) rooted c h))
      go (Some p) e = refl

  pub place_parent_inside : (c : ℕ) → c < cameras → (p : Place) → get_or tree.places c None ≡ Some p → 0 < p.links → p.parent < cameras
  place_parent_inside c h p e l =
      omega (
        arith,
        parent_at-place tree c p e,
        linked-parent-inside cameras reference (parent_at tree) (links_at tree) rooted c h (omega (arith, links_at-place tree c p e)),
      )

-- ---- trees that agree

module _ (g : Grid) (parents parents' linkCounts linkCounts' : ℕ → ℕ) (rooted : Rooted g.cameras g.reference parents linkCounts)
    (same_parent : (c : ℕ) → c < g.cameras → parents c ≡ parents' c)
    (same_links : (c : ℕ) → c < g.cameras → linkCounts c ≡ linkCounts' c) where
  pose_after_agree : (n c : ℕ) → c < g.cameras → linkCounts c ≡ n → pose_after g parents n c ≡ pose_after g parents' n c
  unfolding pose_after
  pose_after_agree zero c h e = refl
  pose_after_agree (suc n) c h e =
      let m = linked-not-reference g.cameras g.reference parents linkCounts rooted c (omega arith) in
      ap₂ mul_pose
      (pose_after_agree n (parents c) (rooted.parent_inside c h m) (omega (arith, rooted.parent_links c h m))
      ∙ ap (pose_after g parents' n) (same_parent c h))
      (ap (λ (p : ℕ). averaged_link g p c) (same_parent c h))

  rig_se3_cam_in_agree : (c : ℕ) → c < g.cameras → rig_se3_cam_in g parents linkCounts c ≡ rig_se3_cam_in g parents' linkCounts' c
  unfolding rig_se3_cam_in
  rig_se3_cam_in_agree c h = pose_after_agree (linkCounts c) c h refl ∙ ap (λ (n : ℕ). pose_after g parents' n c) (same_links c h)

  transforms_in_agree : transforms_in g parents linkCounts ≡ transforms_in g parents' linkCounts'
  unfolding transforms_in
  transforms_in_agree =
      ap₂ (λ (k l : List Float). k ++ l)
      (gather_agree g.cameras _ _ (λ c h. ap flat (rig_se3_cam_in_agree c h)))
      (gather_agree g.views _ _
      (λ v k. ap flat (rig_se3_target_from_agree g (rig_se3_cam_in g parents linkCounts) (rig_se3_cam_in g parents' linkCounts') v rig_se3_cam_in_agree)))

  chains_in_agree : chains_in g parents linkCounts ≡ chains_in g parents' linkCounts'
  unfolding chains_in
  chains_in_agree = gather_agree g.cameras _ _ (λ c h. ap₂ (λ (p d : ℕ). p ∷ d ∷ []) (same_parent c h) (same_links c h))

  written_agree : {first first' : List Float} {second second' : List ℕ} → Written g parents linkCounts first second first' second'
      → Written g parents' linkCounts' first second first' second'
  written_agree {first} {first'} {second} w = record {
    first_written = w.first_written ∙ ap (λ (l : List Float). l ++ drop (7 * (g.cameras + g.views)) first) transforms_in_agree;
    second_written = w.second_written ∙ ap (λ (l : List ℕ). l ++ drop (2 * g.cameras) second) chains_in_agree;
  }

-- ---- the tree of the layers

module _ (g : Grid) (inside : g.reference < g.cameras) (few : g.cameras ≤ max_cameras) (every : AllPlaced g)
    (tree : Tree) (right : tree ≡ tree_of (spots g)) where
  parent_at-spots : (c : ℕ) → c < g.cameras → parent_at tree c ≡ parent g c
  parent_at-spots c h = ap (λ (t : Tree). parent_at t c) right ∙ parent_at-placed (spots g) c (omega arith) (every c h)

  links_at-spots : (c : ℕ) → c < g.cameras → links_at tree c ≡ link_count g c
  links_at-spots c h = ap (λ (t : Tree). links_at t c) right ∙ links_at-placed (spots g) c (omega arith) (every c h)

  pub spots_rooted : Rooted g.cameras g.reference (parent_at tree) (links_at tree)
  spots_rooted = record {
    reference_links = links_at-spots g.reference inside ∙ by.reference_links;
    parent_inside = λ c h n. rw (parent_at-spots c h) (by.parent_inside c h (every c h));
    parent_links = λ c h n.
        rw (parent_at-spots c h, links_at-spots c h, links_at-spots (parent g c) (by.parent_inside c h (every c h))) (by.parent_links c h (every c h) n);
  }
    where
      by : LayeredSpots g.cameras (shared_views g) one_view g.reference (spots g)
      by = spots_layered g inside

  -- So what is written by the bytes is what the layers say.
  pub written_by_layers : {first first' : List Float} {second second' : List ℕ} → Written g (parent_at tree) (links_at tree) first second first' second'
      → Written g (parent g) (link_count g) first second first' second'
  written_by_layers w = written_agree g (parent_at tree) (parent g) (links_at tree) (link_count g) spots_rooted parent_at-spots links_at-spots w
