-- How a camera came to its place: in layer 0 because it is the reference, in layer n + 1 because it was not yet placed and its parent
-- is the one that `parent_in_layer` found in layer n. What is placed stays, a layer's number is below the number of cameras, and an empty
-- layer is the last.
-- Assumes nothing.
use Prim.Native.Nat.{ℕ, zero, suc, ◌+◌, ◌≤◌, ◌<◌}
use native.Mathlib.Decide.{le_ind}
use native.Mathlib.Omega.{arith}
use mathlib.Core.Path.{◌≡◌, refl, sym, ap, ◌∙◌, subst}
use mathlib.Core.Logic.{◌≢◌}
use mathlib.Core.Bool.{Bool, true, false, cond, not, ◌&&◌, true≢false}
use Rattle.std.specs.Prelude.{Option, None, Some}
use lib.ListN.{length}
use lib.Seq.{ext_get_or}
use lib.Dec.{T, leb, eqb, eqb→eq, leb→le}
use borrow.Author.Tests.{eq-eqb, ne_eqb, eqb-true, eqb-false, le-leb}
use Rattle.lists.specs.Finding.{count}
use Rattle.chains.specs.Layers.{Spot, not_placed, placed, is_placed, parent_of, links_of, in_layer, spot_at, start_spot, next_spot, linked_in_layer, parent_in_layer, layers_to}
use Rattle.lists.proofs.Counting.{count-le, count_more, count-some}
use Rattle.lists.proofs.Tabulated.{length-tabulate, get_d_tabulate, get_or-tabulate_past}
use Rattle.chains.proofs.MostViews.{Beats, MostOf, Found, most_views_found}

-- ---- tests of one spot

pub in_layer-placed : (n : ℕ) (s : Spot) → T (in_layer n s) → (p : ℕ) × (s ≡ placed p n)
unfolding in_layer
in_layer-placed n not_placed h = absurd h
in_layer-placed n (placed p d) h = (p, ap (placed p) (eqb→eq d n h))

pub placed-in_layer : (n p : ℕ) (s : Spot) → s ≡ placed p n → in_layer n s ≡ true
unfolding in_layer
placed-in_layer n p s e = rw e (eq-eqb n n refl)

pub is_placed_placed : (s : Spot) → T (is_placed s) → (p : ℕ) × (d : ℕ) × (s ≡ placed p d)
unfolding is_placed
is_placed_placed not_placed h = absurd h
is_placed_placed (placed p d) h = (p, d, refl)

-- A placed spot is its parent and its links.
pub is_placed_parts : (s : Spot) → T (is_placed s) → s ≡ placed (parent_of s) (links_of s)
unfolding is_placed parent_of links_of
is_placed_parts not_placed h = absurd h
is_placed_parts (placed p d) h = refl

pub placed_is_placed : (p d : ℕ) (s : Spot) → s ≡ placed p d → is_placed s ≡ true
unfolding is_placed
placed_is_placed p d s e = rw e

pub not_placed_is_placed : (s : Spot) → s ≡ not_placed → is_placed s ≡ false
unfolding is_placed
not_placed_is_placed s e = rw e

pub placed-not-not_placed : (s : Spot) (p d : ℕ) → s ≡ placed p d → s ≡ not_placed → ⊥
placed-not-not_placed s p d e f = let z : ◌≡◌ {A = ℕ} 0 1 = cc in omega arith

-- ---- what `linked_in_layer` tests

module _ (w : ℕ → ℕ → ℕ) (least : ℕ) (spots : ℕ → Spot) (k c p : ℕ) where
  pub linked_in_layer_parts : T (linked_in_layer w least spots k c p) → ((q : ℕ) × (spots p ≡ placed q k)) × (c ≢ p) × (least ≤ w c p)
  unfolding linked_in_layer
  linked_in_layer_parts h = go (in_layer k (spots p)) refl (eqb c p) refl h
    where
      go : (a : Bool) → in_layer k (spots p) ≡ a → (b : Bool) → eqb c p ≡ b → T (a && (not b && leb least (w c p)))
          → ((q : ℕ) × (spots p ≡ placed q k)) × (c ≢ p) × (least ≤ w c p)
      go false ea false eb t = absurd t
      go false ea true eb t = absurd t
      go true ea true eb t = absurd t
      go true ea false eb t = (in_layer-placed k (spots p) (subst T (sym ea) tt), eqb-false c p eb, leb→le least (w c p) t)

  pub parts_linked_in_layer : (q : ℕ) → spots p ≡ placed q k → c ≢ p → least ≤ w c p → T (linked_in_layer w least spots k c p)
  unfolding linked_in_layer
  parts_linked_in_layer q e n l = rw (placed-in_layer k q (spots p) e, ne_eqb c p n, le-leb least (w c p) l) tt

module _ (cameras : ℕ) (w : ℕ → ℕ → ℕ) (least reference : ℕ) where
  -- The spot of camera c once layers 0 to k are placed.
  abbrev pub spot : ℕ → ℕ → Spot
  spot k c = spot_at (layers_to cameras w least reference k) c

  -- The parent that layer k offers camera c.
  abbrev pub offer : ℕ → ℕ → Option ℕ
  offer k c = parent_in_layer cameras w least (spot k) k c

  -- ---- one layer

  pub spot_zero : (c : ℕ) → c < cameras → spot 0 c ≡ start_spot reference c
  unfolding layers_to
  spot_zero c h = get_d_tabulate cameras (start_spot reference) not_placed c h

  pub spot_suc : (k c : ℕ) → c < cameras → spot (suc k) c ≡ next_spot k (spot k c) (offer k c)
  unfolding layers_to
  spot_suc k c h = get_d_tabulate cameras (λ i. next_spot k (spot k i) (offer k i)) not_placed c h

  pub spot_outside : (k c : ℕ) → cameras ≤ c → spot k c ≡ not_placed
  unfolding layers_to
  spot_outside zero c h = get_or-tabulate_past cameras (start_spot reference) not_placed c h
  spot_outside (suc k) c h = get_or-tabulate_past cameras (λ i. next_spot k (spot k i) (offer k i)) not_placed c h

  pub length-layers_to : (k : ℕ) → length (layers_to cameras w least reference k) ≡ cameras
  unfolding layers_to
  length-layers_to zero = length-tabulate cameras (start_spot reference)
  length-layers_to (suc k) = length-tabulate cameras (λ i. next_spot k (spot k i) (offer k i))

  pub spot_reference : reference < cameras → spot 0 reference ≡ placed reference 0
  unfolding start_spot
  spot_reference h = spot_zero reference h ∙ rw (eq-eqb reference reference refl)

  -- What makes p an offer to c: it is in layer k, another camera, shares enough views with c, and no other such camera beats it.
  pub record Offered (k c p : ℕ) : Type 0 where
    pub inside : p < cameras
    pub in_layer_is : (q : ℕ) × (spot k p ≡ placed q k)
    pub different : c ≢ p
    pub shares : least ≤ w c p
    pub beats : (q r : ℕ) → q < cameras → spot k q ≡ placed r k → c ≢ q → least ≤ w c q → Beats (w c) p q

  pub offer_some : (k c p : ℕ) → offer k c ≡ Some p → Offered k c p
  unfolding parent_in_layer
  offer_some k c p e =
      let m : MostOf (linked_in_layer w least (spot k) k c) (w c) cameras p =
      subst (Found (linked_in_layer w least (spot k) k c) (w c) cameras) e (most_views_found (linked_in_layer w least (spot k) k c) (w c) cameras) in
      let t = linked_in_layer_parts w least (spot k) k c p m.passes in
      record {
        inside = m.below;
        in_layer_is = t.0;
        different = t.1;
        shares = t.2;
        beats = λ q r h f n l. m.beats q h (parts_linked_in_layer w least (spot k) k c q r f n l);
      }

  pub offer_none : (k c : ℕ) → offer k c ≡ None → (p q : ℕ) → p < cameras → spot k p ≡ placed q k → c ≢ p → least ≤ w c p → ⊥
  unfolding parent_in_layer
  offer_none k c e p q h f n l =
      subst (Found (linked_in_layer w least (spot k) k c) (w c) cameras) e (most_views_found (linked_in_layer w least (spot k) k c) (w c) cameras)
      p h (parts_linked_in_layer w least (spot k) k c p q f n l)

  -- ---- what is placed stays

  pub spot_next : (k c p d : ℕ) → c < cameras → spot k c ≡ placed p d → spot (suc k) c ≡ placed p d
  unfolding next_spot
  spot_next k c p d h e = spot_suc k c h ∙ rw e

  pub spot_stays : (j k c p d : ℕ) → c < cameras → j ≤ k → spot j c ≡ placed p d → spot k c ≡ placed p d
  spot_stays j k c p d h l e = le_ind (λ (i : ℕ). spot i c ≡ placed p d) e (λ i m f. spot_next i c p d h f) k l

  -- Two looks at a placed camera see the same place.
  pub spot_same : (j k c p d q e : ℕ) → c < cameras → spot j c ≡ placed p d → spot k c ≡ placed q e → (p ≡ q) × (d ≡ e)
  spot_same j k c p d q e h a b =
      let x = spot_stays j (j + k) c p d h (omega arith) a in
      let y = spot_stays k (j + k) c q e h (omega arith) b in
      (cc, cc)

  -- ---- why a camera is placed

  abbrev pub Reason : ℕ → ℕ → ℕ → Type 0
  Reason zero c p = (c ≡ reference) × (p ≡ reference)
  Reason (suc e) c p = (spot e c ≡ not_placed) × Offered e c p

  abbrev Came : ℕ → ℕ → Spot → Type 0
  Came k c not_placed = Unit {0}
  Came k c (placed p d) = (d ≤ k) × (spot d c ≡ placed p d) × Reason d c p

  came : (k c : ℕ) → c < cameras → Came k c (spot k c)
  unfolding start_spot next_spot
  came zero c h = subst (Came 0 c) (sym (spot_zero c h)) (go (eqb c reference) refl)
    where
      go : (t : Bool) → eqb c reference ≡ t → Came 0 c (cond t (placed reference 0) not_placed)
      go true e = (omega arith, spot_zero c h ∙ rw e, (eqb-true c reference e, refl))
      go false e = tt
  came (suc k) c h = subst (Came (suc k) c) (sym (spot_suc k c h)) (go (spot k c) refl (came k c h) (offer k c) refl)
    where
      go : (s : Spot) → spot k c ≡ s → Came k c s → (o : Option ℕ) → offer k c ≡ o → Came (suc k) c (next_spot k s o)
      go (placed p d) es g None eo = (omega (arith, g.0), g.1, g.2)
      go (placed p d) es g (Some q) eo = (omega (arith, g.0), g.1, g.2)
      go not_placed es g None eo = tt
      go not_placed es g (Some p) eo = (omega arith, spot_suc k c h ∙ rw (es, eo), (es, offer_some k c p eo))

  pub placed_came : (k c p d : ℕ) → c < cameras → spot k c ≡ placed p d → (d ≤ k) × (spot d c ≡ placed p d) × Reason d c p
  placed_came k c p d h e = subst (Came k c) e (came k c h)

  -- A camera that is not the reference was placed by an offer.
  pub placed_by_offer : (k c p d : ℕ) → c < cameras → c ≢ reference → spot k c ≡ placed p d
      → (e : ℕ) × (d ≡ suc e) × (spot e c ≡ not_placed) × Offered e c p
  placed_by_offer k c p d h n e = go d (placed_came k c p d h e).2
    where
      go : (d : ℕ) → Reason d c p → (e : ℕ) × (d ≡ suc e) × (spot e c ≡ not_placed) × Offered e c p
      go zero r = absurd (n r.0)
      go (suc e) r = (e, refl, r.0, r.1)

  -- A layer's number is below the number of cameras: each layer before it has placed at least one.
  layer_count : (d c p : ℕ) → c < cameras → spot d c ≡ placed p d → d < count (λ i. is_placed (spot d i)) cameras
  layer_count zero c p h e = count-some (λ i. is_placed (spot 0 i)) cameras c h (placed_is_placed p 0 (spot 0 c) e)
  layer_count (suc k) c p h e = go (placed_came (suc k) c p (suc k) h e).2 (λ q r l f. layer_count k q r l f)
    where
      kept : (i : ℕ) → i < cameras → T (is_placed (spot k i)) → T (is_placed (spot (suc k) i))
      kept i l t =
          let s = is_placed_placed (spot k i) t in
          subst T (sym (placed_is_placed s.0 s.1 (spot (suc k) i) (spot_next k i s.0 s.1 l s.2))) tt

      go : (spot k c ≡ not_placed) × Offered k c p → ((q r : ℕ) → q < cameras → spot k q ≡ placed r k → k < count (λ i. is_placed (spot k i)) cameras)
          → suc k < count (λ i. is_placed (spot (suc k) i)) cameras
      go r before =
          let o = r.1 in
          omega (
            arith,
            before p o.in_layer_is.0 o.inside o.in_layer_is.1,
            count_more (λ i. is_placed (spot k i)) (λ i. is_placed (spot (suc k) i)) cameras kept c h
                (not_placed_is_placed (spot k c) r.0) (placed_is_placed p (suc k) (spot (suc k) c) e),
          )

  pub links-below-cameras : (k c p d : ℕ) → c < cameras → spot k c ≡ placed p d → d < cameras
  links-below-cameras k c p d h e =
      omega (arith, layer_count d c p h (placed_came k c p d h e).1, count-le (λ i. is_placed (spot d i)) cameras)

  -- ---- the cameras of a layer

  -- Camera c is of layer n once layers 0 to n are placed.
  abbrev pub of_layer : ℕ → ℕ → Bool
  of_layer n c = in_layer n (spot n c)

  -- A camera that a layer leaves as it is is not of that layer.
  pub kept_not_of_layer : (n c : ℕ) → c < cameras → spot (suc n) c ≡ spot n c → of_layer (suc n) c ≡ false
  unfolding in_layer
  kept_not_of_layer n c h e = rw e (go (spot n c) refl)
    where
      go : (s : Spot) → spot n c ≡ s → in_layer (suc n) s ≡ false
      go not_placed f = refl
      go (placed p d) f = ne_eqb d (suc n) (λ s. omega (arith, (placed_came n c p d h f).0))

  -- An empty layer places no camera.
  spot_unchanged : (n : ℕ) → ((c : ℕ) → c < cameras → of_layer n c ≡ false) → (c : ℕ) → c < cameras → spot (suc n) c ≡ spot n c
  unfolding next_spot
  spot_unchanged n empty c h = go (spot n c) refl (offer n c) refl
    where
      go : (s : Spot) → spot n c ≡ s → (o : Option ℕ) → offer n c ≡ o → spot (suc n) c ≡ spot n c
      go (placed p d) e None f = spot_suc n c h ∙ rw e
      go (placed p d) e (Some q) f = spot_suc n c h ∙ rw e
      go not_placed e None f = spot_suc n c h ∙ rw (e, f)
      go not_placed e (Some p) f =
          let o = offer_some n c p f in
          absurd (true≢false (sym (placed-in_layer n o.in_layer_is.0 (spot n p) o.in_layer_is.1) ∙ empty p o.inside))

  layers_to-unchanged : (n : ℕ) → ((c : ℕ) → c < cameras → of_layer n c ≡ false) → layers_to cameras w least reference (suc n) ≡ layers_to cameras w least reference n
  layers_to-unchanged n empty =
      ext_get_or not_placed (layers_to cameras w least reference (suc n)) (layers_to cameras w least reference n) (length-layers_to (suc n) ∙ sym (length-layers_to n))
      (λ c h. spot_unchanged n empty c (omega (arith, length-layers_to (suc n))))

  -- So an empty layer is the last.
  pub layers_to_stays : (n : ℕ) → ((c : ℕ) → c < cameras → of_layer n c ≡ false)
      → (k : ℕ) → n ≤ k → layers_to cameras w least reference k ≡ layers_to cameras w least reference n
  layers_to_stays n empty k h = (le_ind
      (λ (i : ℕ). (layers_to cameras w least reference i ≡ layers_to cameras w least reference n) × ((c : ℕ) → c < cameras → of_layer i c ≡ false))
      (refl, empty)
      (λ i l r. (layers_to-unchanged i r.1 ∙ r.0, λ c m. kept_not_of_layer i c m (spot_unchanged i r.1 c m))) k h).0
