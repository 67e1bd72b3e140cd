-- The chain theorem: the layers of every rig, whatever the numbers of shared views and however many of them make a link, satisfy what demand 3 asks (`layered`); and only the
-- numbers of views that different cameras of the rig share matter (`layers_agree`). Assumes nothing.
use Prim.Native.Nat.{ℕ, zero, suc, ◌≤◌, ◌<◌}
use native.Mathlib.Decide.{ℕ_discrete, dec_lt}
use native.Mathlib.Omega.{arith}
use mathlib.Core.Path.{◌≡◌, refl, sym, ap, ◌∙◌, subst}
use mathlib.Core.Logic.{◌≢◌, ◌⊎◌, inl, inr}
use mathlib.Core.Bool.{Bool, true, false}
use mathlib.Core.List.{List, ◌∷◌}
use lib.ListN.{length}
use lib.Dec.{T, eqb}
use borrow.Author.Tests.{eqb-false}
use Rattle.chains.specs.Chains.{Linked, Chain, HasChain, LeastLinks, OneNearer, links, reported_chain}
use Rattle.chains.specs.Layers.{Spot, not_placed, placed, is_placed, parent_of, links_of, spot_at, next_spot, linked_in_layer, parent_in_layer, layers_to, layers}
use Rattle.chains.specs.Layered.{Layered}
use Rattle.lists.proofs.Tabulated.{tabulate_agree}
use Rattle.chains.proofs.MostViews.{Beats, most_views_agree}
use Rattle.chains.proofs.Placing.{spot, Offered, spot_reference, spot_stays, spot_same, placed_came, placed_by_offer, links-below-cameras, linked_in_layer_parts, is_placed_parts, placed_is_placed, placed-not-not_placed}
use Rattle.chains.proofs.Walks.{Walk, walk_chain, chain_placed, read_walk}

-- What demand 3 asks, of a list of spots.
abbrev pub LayeredSpots : ℕ → (ℕ → ℕ → ℕ) → ℕ → ℕ → List Spot → Type 0
LayeredSpots cameras w least reference spots =
    Layered cameras w least reference (λ c. is_placed (spot_at spots c)) (λ c. parent_of (spot_at spots c)) (λ c. links_of (spot_at spots c))

module _ (cameras : ℕ) (w : ℕ → ℕ → ℕ) (least reference : ℕ) where
  -- The last word on camera c.
  abbrev pub final : ℕ → Spot
  final c = spot_at (layers cameras w least reference) c

  pub final_placed : (k c p d : ℕ) → c < cameras → spot cameras w least reference k c ≡ placed p d → final c ≡ placed p d
  unfolding layers
  final_placed k c p d h e =
      spot_stays cameras w least reference d cameras c p d h (omega (arith, links-below-cameras cameras w least reference k c p d h e))
      (placed_came cameras w least reference k c p d h e).1

  pub placed_final : (c p d : ℕ) → c < cameras → final c ≡ placed p d → (d < cameras) × (spot cameras w least reference d c ≡ placed p d)
  unfolding layers
  placed_final c p d h e =
      (links-below-cameras cameras w least reference cameras c p d h e, (placed_came cameras w least reference cameras c p d h e).1)

  -- ---- the reported chain

  read_final : (c p d : ℕ) → c < cameras → final c ≡ placed p d
      → (l : List ℕ) × (reported_chain cameras reference (λ i. parent_of (final i)) c ≡ c ∷ l) × Walk cameras w least reference c l × (length l ≡ d)
  unfolding reported_chain parent_of
  read_final c p d h e =
      read_walk cameras w least reference (λ i. parent_of (final i)) (λ i q k l f. ap parent_of (final_placed k i q k l f)) d cameras c p h
      (placed_final c p d h e).0 (placed_final c p d h e).1

  reported : (c p d : ℕ) → c < cameras → final c ≡ placed p d → Chain cameras w least reference c (reported_chain cameras reference (λ i. parent_of (final i)) c)
  reported c p d h e =
      let r = read_final c p d h e in
      rw r.1 (walk_chain cameras w least reference c r.0 r.2)

  counted : (c p d : ℕ) → c < cameras → final c ≡ placed p d → links (reported_chain cameras reference (λ i. parent_of (final i)) c) ≡ d
  unfolding links
  counted c p d h e =
      let r = read_final c p d h e in
      rw r.1 (omega (arith, r.3))

  shortest : (c p d : ℕ) → c < cameras → final c ≡ placed p d → (l : List ℕ) → Chain cameras w least reference c l → d ≤ links l
  shortest c p d h e l s =
      let t = chain_placed cameras w least reference c l h s in
      omega (arith, t.3, (spot_same cameras w least reference d t.1 c p d t.0 t.1 h (placed_final c p d h e).1 t.2).1)

  -- ---- least numbers of links

  pub least_links : (c p d : ℕ) → c < cameras → final c ≡ placed p d → LeastLinks cameras w least reference c d
  least_links c p d h e = record {
    attained = (reported_chain cameras reference (λ i. parent_of (final i)) c, reported c p d h e, counted c p d h e);
    none_fewer = shortest c p d h e;
  }

  pub least_links_unique : (c m n : ℕ) → LeastLinks cameras w least reference c m → LeastLinks cameras w least reference c n → m ≡ n
  least_links_unique c m n a b =
      omega (arith, a.none_fewer b.attained.0 b.attained.1, b.attained.2, b.none_fewer a.attained.0 a.attained.1, a.attained.2)

  chain_final : (c : ℕ) → c < cameras → HasChain cameras w least reference c → (p : ℕ) × (d : ℕ) × (final c ≡ placed p d)
  chain_final c h s =
      let t = chain_placed cameras w least reference c s.0 h s.1 in
      (t.0, t.1, final_placed t.1 c t.0 t.1 h t.2)

  least_links_final : (c m : ℕ) → c < cameras → LeastLinks cameras w least reference c m → (p : ℕ) × (final c ≡ placed p m)
  least_links_final c m h a =
      let t = chain_final c h (a.attained.0, a.attained.1) in
      let e : t.1 ≡ m = least_links_unique c t.1 m (least_links c t.0 t.1 h t.2) a in
      (t.0, t.2 ∙ ap (placed t.0) e)

  -- ---- the parent

  placed_by : (c p d : ℕ) → c < cameras → c ≢ reference → final c ≡ placed p d
      → (e : ℕ) × (d ≡ suc e) × (spot cameras w least reference e c ≡ not_placed) × Offered cameras w least reference e c p
  placed_by c p d h n f = placed_by_offer cameras w least reference d c p d h n (placed_final c p d h f).1

  parent_final : (e c p : ℕ) → (o : Offered cameras w least reference e c p) → final p ≡ placed o.in_layer_is.0 e
  parent_final e c p o = final_placed e p o.in_layer_is.0 e o.inside o.in_layer_is.1

  nearer : (c p d : ℕ) → c < cameras → c ≢ reference → final c ≡ placed p d → OneNearer cameras w least reference p c
  nearer c p d h n f =
      let (e, s, g, o) = placed_by c p d h n f in
      (e, least_links p o.in_layer_is.0 e o.inside (parent_final e c p o), subst (LeastLinks cameras w least reference c) s (least_links c p d h f))

  linked_to_parent : (c p d : ℕ) → c < cameras → c ≢ reference → final c ≡ placed p d → Linked cameras w least c p
  linked_to_parent c p d h n f =
      let (e, s, g, o) = placed_by c p d h n f in
      record { first_inside = h; second_inside = o.inside; different = o.different; share_enough = o.shares }

  most_shared : (c p d : ℕ) → c < cameras → c ≢ reference → final c ≡ placed p d
      → (q : ℕ) → q < cameras → q ≢ p → OneNearer cameras w least reference q c → (w c q < w c p) ⊎ ((w c q ≡ w c p) × (p < q))
  most_shared c p d h n f q k u (m, a, b) = by_views (dec_lt (w c q) least)
    where
      by : (e : ℕ) × (d ≡ suc e) × (spot cameras w least reference e c ≡ not_placed) × Offered cameras w least reference e c p
      by = placed_by c p d h n f

      -- q is in the layer of the parent
      beside : (r : ℕ) × (spot cameras w least reference by.0 q ≡ placed r by.0)
      beside =
          let same : m ≡ by.0 = omega (arith, least_links_unique c (suc m) d b (least_links c p d h f), by.1) in
          let t = least_links_final q m k a in
          (t.0, subst (λ (i : ℕ). spot cameras w least reference i q ≡ placed t.0 i) same (placed_final q t.0 m k t.1).1)

      other : c ≢ q
      other s =
          placed-not-not_placed (spot cameras w least reference by.0 q) beside.0 by.0 beside.1
          (subst (λ (i : ℕ). spot cameras w least reference by.0 i ≡ not_placed) s by.2)

      enough_shared : least ≤ w c q → (w c q < w c p) ⊎ ((w c q ≡ w c p) × (p < q))
      enough_shared l = go (dec_lt (w c q) (w c p))
        where
          beats : Beats (w c) p q
          beats = by.3.beats q beside.0 k beside.1 other l

          go : Dec (w c q < w c p) → (w c q < w c p) ⊎ ((w c q ≡ w c p) × (p < q))
          go (yes y) = inl y
          go (no y) =
              let g : w c p ≤ w c q = omega arith in
              inr (omega (arith, beats.as_many), omega (arith, beats.lowest g))

      by_views : Dec (w c q < least) → (w c q < w c p) ⊎ ((w c q ≡ w c p) × (p < q))
      by_views (yes y) = inl (omega (arith, by.3.shares))
      by_views (no y) = enough_shared (omega arith)

  -- ---- all together

  module _ (inside : reference < cameras) where
    reference_final : final reference ≡ placed reference 0
    reference_final = final_placed 0 reference reference 0 inside (spot_reference cameras w least reference inside)

    -- The parent of a placed camera, the reference too, is a placed camera of the rig.
    parent_is_placed : (c p d : ℕ) → c < cameras → final c ≡ placed p d → (p < cameras) × (q : ℕ) × (e : ℕ) × (final p ≡ placed q e)
    parent_is_placed c p d h f = go (ℕ_discrete c reference)
      where
        go : Dec (c ≡ reference) → (p < cameras) × (q : ℕ) × (e : ℕ) × (final p ≡ placed q e)
        go (yes y) =
            let r : p ≡ reference = cc (reference_final, ap final y) in
            (omega (arith, inside), reference, 0, ap final r ∙ reference_final)
        go (no y) =
            let (e, s, g, o) = placed_by c p d h y f in
            (o.inside, o.in_layer_is.0, e, parent_final e c p o)

    as_placed : (c : ℕ) → T (is_placed (final c)) → final c ≡ placed (parent_of (final c)) (links_of (final c))
    as_placed c t = is_placed_parts (final c) t

    is_placed_by : (c p d : ℕ) → final c ≡ placed p d → T (is_placed (final c))
    is_placed_by c p d e = subst T (sym (placed_is_placed p d (final c) e)) tt

    pub layered : LayeredSpots cameras w least reference (layers cameras w least reference)
    unfolding parent_of links_of
    layered = record {
      placed_with_chain = λ c h. (
        λ t. (reported_chain cameras reference (λ i. parent_of (final i)) c, reported c _ _ h (as_placed c t)),
        λ s. let f = chain_final c h s in is_placed_by c f.0 f.1 f.2,
      );
      reported = λ c h t. reported c _ _ h (as_placed c t);
      counted = λ c h t. counted c _ _ h (as_placed c t);
      shortest = λ c h t. shortest c _ _ h (as_placed c t);
      nearer = λ c h t n. nearer c _ _ h n (as_placed c t);
      linked_to_parent = λ c h t n. linked_to_parent c _ _ h n (as_placed c t);
      most_shared = λ c h t n. most_shared c _ _ h n (as_placed c t);
      reference_placed = is_placed_by reference reference 0 reference_final;
      reference_parent = ap parent_of reference_final;
      reference_links = ap links_of reference_final;
      parent_inside = λ c h t. (parent_is_placed c _ _ h (as_placed c t)).0;
      parent_placed = λ c h t. let f = parent_is_placed c _ _ h (as_placed c t) in is_placed_by (parent_of (final c)) f.1 f.2 f.3;
      parent_links = λ c h t n.
          let (e, s, g, o) = placed_by c _ _ h n (as_placed c t) in
          ap suc (ap links_of (parent_final e c (parent_of (final c)) o)) ∙ sym s;
      links_below = λ c h t. (placed_final c _ _ h (as_placed c t)).0;
    }

-- ---- what the layers depend on

-- Numbers of shared views that agree for different cameras of the rig give the same layers.
module _ (cameras : ℕ) (u w : ℕ → ℕ → ℕ) (least reference : ℕ) (agree : (a b : ℕ) → a < cameras → b < cameras → a ≢ b → u a b ≡ w a b) where
  parent_in_layer_agree : (spots : ℕ → Spot) (n c : ℕ) → c < cameras → parent_in_layer cameras u least spots n c ≡ parent_in_layer cameras w least spots n c
  unfolding parent_in_layer linked_in_layer
  parent_in_layer_agree spots n c h =
      most_views_agree (linked_in_layer u least spots n c) (linked_in_layer w least spots n c) (u c) (w c) cameras same_test same_views
    where
      same_test : (p : ℕ) → p < cameras → linked_in_layer u least spots n c p ≡ linked_in_layer w least spots n c p
      same_test p l = go (eqb c p) refl
        where
          go : (t : Bool) → eqb c p ≡ t → linked_in_layer u least spots n c p ≡ linked_in_layer w least spots n c p
          go true e = rw e
          go false e = rw (agree c p h l (eqb-false c p e))

      same_views : (p : ℕ) → p < cameras → T (linked_in_layer u least spots n c p) → u c p ≡ w c p
      same_views p l t = agree c p h l (linked_in_layer_parts u least spots n c p t).1

  layers_to_agree : (k : ℕ) → layers_to cameras u least reference k ≡ layers_to cameras w least reference k
  unfolding layers_to
  layers_to_agree zero = refl
  layers_to_agree (suc k) =
      let spots = spot_at (layers_to cameras w least reference k) in
      rw (layers_to_agree k) (tabulate_agree cameras _ _ (λ c h. ap (next_spot k (spots c)) (parent_in_layer_agree spots k c h)))

  pub layers_agree : layers cameras u least reference ≡ layers cameras w least reference
  unfolding layers
  layers_agree = layers_to_agree cameras
