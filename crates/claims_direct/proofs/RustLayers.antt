-- The Rust's `while` loop places cameras as our layers do: after k turns `rig_se3_cam` is the rig after layer k, and `layer` is layer k.
-- In a turn cameras are visited in ascending order, and no visit sees what the turn has placed before it. Assumes nothing.
use Rattle.std.proofs.Common.{◌≡◌, ℕ, zero, suc, ◌+◌, ◌<◌, ◌≤◌, Bool, true, false, not, ◌&&◌, T, eqb, ltb, ◌≢◌, List, [], ◌∷◌, ◌++◌, get_or, set, replicate, sym, refl, ap, ◌∙◌, subst, ap₂, arith, ne_eqb}
use Rattle.std.specs.Prelude.{Option, None, Some, option_map}
use Rattle.arithmetic.specs.Pose.{mul_pose, identity_pose}
use Rattle.arithmetic.proofs.Numbers.{mul_iso-mul_pose}
use Rattle.arithmetic.specs.declared.pose.Pose.{Pose}
use Rattle.limits.specs.Limits.{one_view}
use Rattle.chains.specs.Layers.{Spot, not_placed, placed, in_layer, next_spot, linked_in_layer, parent_in_layer}
use Rattle.lists.specs.Lists.{tabulate}
use Rattle.placing.specs.Grid.{Grid, shared_views}
use Rattle.placing.specs.Estimate.{averaged_link, rig_se3_cam}
use Rattle.claims_direct.specs.RustStd.{ok, is_some, range, for_each, filter}
use Rattle.claims_direct.specs.RustAverage.{average_isometries?}
use Rattle.claims_direct.specs.Rust.{num_cameras, shared, parent_in, candidates, place, visit, while_layer}
use Rattle.chains.proofs.MostViews.{most_views_agree}
use Rattle.chains.proofs.Placing.{Offered, spot_suc, spot_next, offer_some, in_layer-placed, placed-not-not_placed}
use Rattle.claims_direct.proofs.Iterators.{range-tabulate, for_each-ok}
use Rattle.claims_direct.proofs.Ascending.{with_views, min_by-most_views}
use Rattle.claims_direct.proofs.SameGrid.{SameGrid, shared_views_comm, shared_same, average_isometries?-candidates}
use Rattle.claims_direct.proofs.PartialRigs.{pose_in, spot_of, offer_to, layer_at, rig_after, layer_below, rig_final, rig_after_final, mid_rig, mid_next, get_or_mid_rig_waiting, get_or_mid_rig_placed, mid_rig_begins, mid_rig_ends, mid_rig_kept, mid_next_kept, mid_rig_placed, mid_next_placed, rig_se3_cam_under, rig_after_zero, layer_at_zero}

-- ---- what a visit does

module _ (camSe3Target : List (List (Option Pose))) (layer : List ℕ) (c : ℕ) (rig : List (Option Pose)) (next : List ℕ) where
  visit_skips : is_some (get_or rig c None) ≡ true → visit camSe3Target layer c (rig, next) ≡ ok (rig, next)
  unfolding visit
  visit_skips e = rw (e, visit)

  visit_goes_on : is_some (get_or rig c None) ≡ false → (o : Option (ℕ × ℕ)) → parent_in camSe3Target layer c ≡ o
      → visit camSe3Target layer c (rig, next) ≡ place camSe3Target o c (rig, next)
  unfolding visit
  visit_goes_on e o f = rw (← f, e, visit)

  place_under : (p n : ℕ) (link pose : Pose) → average_isometries? (candidates camSe3Target p c) ≡ ok link → get_or rig p None ≡ Some pose
      → place camSe3Target (Some (p, n)) c (rig, next) ≡ ok (set rig c (Some (mul_pose pose link)), next ++ (c ∷ []))
  unfolding place
  place_under p n link pose e f = rw (e, f, mul_iso-mul_pose pose link)

-- ---- the turns over a grid

module _ (camSe3Target : List (List (Option Pose))) (g : Grid) (same : SameGrid camSe3Target g) where
  -- Camera p is in layer k and linked to camera c.
  abbrev linked : ℕ → ℕ → ℕ → Bool
  linked k c p = in_layer k (spot_of g k p) && (not (eqb c p) && ltb 0 (shared_views g c p))

  parent_in_offer : (k c : ℕ) → c < g.cameras → spot_of g k c ≡ not_placed
      → parent_in camSe3Target (layer_at g k) c ≡ option_map (with_views (λ p. shared camSe3Target p c)) (offer_to g k c)
  unfolding parent_in parent_in_layer linked_in_layer
  parent_in_offer k c h e =
      min_by-most_views (λ p. shared camSe3Target p c) (λ p. in_layer k (spot_of g k p)) g.cameras
      ∙ ap (option_map (with_views (λ p. shared camSe3Target p c)))
      (most_views_agree (λ p. in_layer k (spot_of g k p) && ltb 0 (shared camSe3Target p c)) (linked k c) (λ p. shared camSe3Target p c) (shared_views g c) g.cameras
      same_test (λ p l t. same_shared p l))
    where
      same_shared : (p : ℕ) → p < g.cameras → shared camSe3Target p c ≡ shared_views g c p
      same_shared p l = shared_same camSe3Target g same p c l h ∙ shared_views_comm g p c

      same_test : (p : ℕ) → p < g.cameras → (in_layer k (spot_of g k p) && ltb 0 (shared camSe3Target p c)) ≡ linked k c p
      same_test p l = go (in_layer k (spot_of g k p)) refl
        where
          go : (t : Bool) → in_layer k (spot_of g k p) ≡ t → (in_layer k (spot_of g k p) && ltb 0 (shared camSe3Target p c)) ≡ linked k c p
          go true et = rw (et, same_shared p l, ne_eqb c p other)
            where
              other : c ≢ p
              other s =
                  let (q, f) = in_layer-placed k (spot_of g k p) (subst T (sym et) tt) in
                  placed-not-not_placed (spot_of g k p) q k f (ap (spot_of g k) (sym s) ∙ e)
          go false et = rw et

  -- ---- one visit

  abbrev mid : ℕ → ℕ → List (Option Pose) × List ℕ
  mid k m = (mid_rig g k m, mid_next g k m)

  mid_kept : (k m : ℕ) → m < g.cameras → spot_of g (suc k) m ≡ spot_of g k m → mid k m ≡ mid k (suc m)
  mid_kept k m h e =
      ap₂ (λ (rig : List (Option Pose)) (next : List ℕ). (rig, next)) (sym (mid_rig_kept g k m h e)) (sym (mid_next_kept g k m h e))

  -- A camera that is in the rig already is skipped.
  visit-placed : (k m p d : ℕ) → m < g.cameras → spot_of g k m ≡ placed p d → visit camSe3Target (layer_at g k) m (mid k m) ≡ ok (mid k (suc m))
  visit-placed k m p d h e =
      visit_skips camSe3Target (layer_at g k) m (mid_rig g k m) (mid_next g k m)
      (ap is_some (get_or_mid_rig_waiting g k m h) ∙ ap (λ (s : Spot). is_some (pose_in s (rig_se3_cam g m))) e)
      ∙ ap ok (mid_kept k m h (spot_next g.cameras (shared_views g) one_view g.reference k m p d h e ∙ sym e))

  -- Any other is not in the rig yet, and what the layer offers it decides.
  visit_waiting : (k m : ℕ) → m < g.cameras → spot_of g k m ≡ not_placed → (o : Option ℕ) → offer_to g k m ≡ o
      → visit camSe3Target (layer_at g k) m (mid k m) ≡ place camSe3Target (option_map (with_views (λ p. shared camSe3Target p m)) o) m (mid k m)
  visit_waiting k m h e o f =
      visit_goes_on camSe3Target (layer_at g k) m (mid_rig g k m) (mid_next g k m)
      (ap is_some (get_or_mid_rig_waiting g k m h) ∙ ap (λ (s : Spot). is_some (pose_in s (rig_se3_cam g m))) e)
      (option_map (with_views (λ p. shared camSe3Target p m)) o)
      (parent_in_offer k m h e ∙ ap (option_map (with_views (λ p. shared camSe3Target p m))) f)

  -- One to which the layer offers no parent stays out.
  visit_unlinked : (k m : ℕ) → m < g.cameras → spot_of g k m ≡ not_placed → offer_to g k m ≡ None
      → visit camSe3Target (layer_at g k) m (mid k m) ≡ ok (mid k (suc m))
  unfolding place next_spot
  visit_unlinked k m h e o =
      visit_waiting k m h e None o
      ∙ ap ok (mid_kept k m h (spot_suc g.cameras (shared_views g) one_view g.reference k m h ∙ ap₂ (next_spot k) e o ∙ sym e))

  module _ (inside : g.reference < g.cameras) where
    -- One to which the layer offers a parent gets the parent's pose times their averaged link.
    visit-linked : (k m p : ℕ) → m < g.cameras → spot_of g k m ≡ not_placed → offer_to g k m ≡ Some p
        → visit camSe3Target (layer_at g k) m (mid k m) ≡ ok (mid k (suc m))
    unfolding next_spot
    visit-linked k m p h e o =
        visit_waiting k m h e (Some p) o
        ∙ place_under camSe3Target (layer_at g k) m (mid_rig g k m) (mid_next g k m) p (shared camSe3Target p m) (averaged_link g p m) (rig_se3_cam g p)
        (average_isometries?-candidates camSe3Target g same p m by.inside h (omega (arith, by.shares, shared_views_comm g p m)))
        (get_or_mid_rig_placed g k m p by.in_layer_is.0 k by.inside by.in_layer_is.1)
        ∙ ap₂ (λ (rig : List (Option Pose)) (next : List ℕ). ok (rig, next))
        (ap (λ (q : Pose). set (mid_rig g k m) m (Some q)) (sym (rig_se3_cam_under g inside k m p h e after)) ∙ sym (mid_rig_placed g k m p h after))
        (sym (mid_next_placed g k m p after))
      where
        by : Offered g.cameras (shared_views g) one_view g.reference k m p
        by = offer_some g.cameras (shared_views g) one_view g.reference k m p o

        after : spot_of g (suc k) m ≡ placed p (suc k)
        after = spot_suc g.cameras (shared_views g) one_view g.reference k m h ∙ ap₂ (next_spot k) e o

    visited : (k m : ℕ) → m < g.cameras → visit camSe3Target (layer_at g k) m (mid k m) ≡ ok (mid k (suc m))
    visited k m h = go (spot_of g k m) refl (offer_to g k m) refl
      where
        go : (s : Spot) → spot_of g k m ≡ s → (o : Option ℕ) → offer_to g k m ≡ o → visit camSe3Target (layer_at g k) m (mid k m) ≡ ok (mid k (suc m))
        go (placed p d) es None eo = visit-placed k m p d h es
        go (placed p d) es (Some q) eo = visit-placed k m p d h es
        go not_placed es None eo = visit_unlinked k m h es eo
        go not_placed es (Some p) eo = visit-linked k m p h es eo

    -- ---- one turn, and all turns

    turn : (k : ℕ) → for_each (range (num_cameras camSe3Target)) (visit camSe3Target (layer_at g k)) (rig_after g k, []) ≡ ok (rig_after g (suc k), layer_at g (suc k))
    unfolding range filter
    turn k =
        ap (λ (l : List ℕ). for_each l (visit camSe3Target (layer_at g k)) (rig_after g k, []))
        (ap range (sym same.same_cameras) ∙ range-tabulate g.cameras)
        ∙ ap (λ (rig : List (Option Pose)). for_each (tabulate g.cameras (λ i. i)) (visit camSe3Target (layer_at g k)) (rig, [])) (sym (mid_rig_begins g k))
        ∙ for_each-ok (visit camSe3Target (layer_at g k)) (λ i. i) (mid k) g.cameras (visited k)
        ∙ ap (λ (rig : List (Option Pose)). ok (rig, layer_at g (suc k))) (mid_rig_ends g k)

    -- From any layer on the turns that are left are enough.
    while_layer-rest : (turns k : ℕ) → g.cameras ≤ turns + k → k ≤ g.cameras → while_layer camSe3Target turns (rig_after g k) (layer_at g k) ≡ ok (rig_final g)
    unfolding while_layer
    while_layer-rest zero k h m = go (layer_at g k) refl
      where
        go : (layer : List ℕ) → layer_at g k ≡ layer → while_layer camSe3Target 0 (rig_after g k) layer ≡ ok (rig_final g)
        go [] e = ap ok (rig_after_final g k m e)
        go (c ∷ l) e = absurd (omega (arith, layer_below g k c l e))
    while_layer-rest (suc turns) k h m = go (layer_at g k) refl (turn k) (λ l. while_layer-rest turns (suc k) (omega arith) l)
      where
        go : (layer : List ℕ) → layer_at g k ≡ layer
            → for_each (range (num_cameras camSe3Target)) (visit camSe3Target layer) (rig_after g k, []) ≡ ok (rig_after g (suc k), layer_at g (suc k))
            → (k < g.cameras → while_layer camSe3Target turns (rig_after g (suc k)) (layer_at g (suc k)) ≡ ok (rig_final g))
            → while_layer camSe3Target (suc turns) (rig_after g k) layer ≡ ok (rig_final g)
        go [] e t rest = ap ok (rig_after_final g k m e)
        go (c ∷ l) e t rest = rw t (rest (layer_below g k c l e))

    pub while_layer-final :
        while_layer camSe3Target (suc (num_cameras camSe3Target)) (set (replicate (num_cameras camSe3Target) None) g.reference (Some identity_pose)) (g.reference ∷ [])
        ≡ ok (rig_final g)
    while_layer-final =
        ap₂ (while_layer camSe3Target (suc (num_cameras camSe3Target)))
        (ap (λ (n : ℕ). set (replicate n None) g.reference (Some identity_pose)) (sym same.same_cameras) ∙ rig_after_zero g inside)
        (sym (layer_at_zero g inside))
        ∙ while_layer-rest (suc (num_cameras camSe3Target)) 0 (omega (arith, same.same_cameras)) (omega arith)
