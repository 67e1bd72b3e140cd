-- Chains against layers. A walk is a chain with its first camera left off, which is what induction needs. Every walk's first camera is
-- placed with no more links than the walk has; a placed camera's reported chain is a walk of as many links as are reported.
-- Assumes nothing.
use Prim.Native.Nat.{ℕ, zero, suc, ◌-◌, ◌≤◌, ◌<◌}
use native.Mathlib.Omega.{arith}
use mathlib.Core.Path.{◌≡◌, refl, sym, ap, ◌∙◌, subst}
use mathlib.Core.Logic.{◌≢◌}
use Rattle.std.specs.Prelude.{Option, None, Some}
use mathlib.Core.List.{List, [], ◌∷◌}
use lib.ListN.{length, get_or}
use borrow.Author.Tests.{eq-eqb, ne_eqb}
use Rattle.chains.specs.Chains.{Linked, Chain, links, read_chain}
use Rattle.chains.specs.Layers.{Spot, not_placed, placed, start_spot, next_spot}
use Rattle.chains.proofs.Placing.{spot, offer, Offered, spot_zero, spot_suc, spot_reference, spot_stays, offer_none, placed_came, placed-not-not_placed}

-- ---- reading a chain, one camera at a time

pub read-reference : (reference : ℕ) (parent : ℕ → ℕ) (most c : ℕ) → c ≡ reference → read_chain reference parent (suc most) c ≡ c ∷ []
unfolding read_chain
read-reference reference parent most c e = rw (eq-eqb c reference e, read_chain)

pub read-parent : (reference : ℕ) (parent : ℕ → ℕ) (most c : ℕ) → c ≢ reference
    → read_chain reference parent (suc most) c ≡ c ∷ read_chain reference parent most (parent c)
unfolding read_chain
read-parent reference parent most c n = rw (ne_eqb c reference n, read_chain)

module _ (cameras : ℕ) (w : ℕ → ℕ → ℕ) (least reference : ℕ) where
  -- ---- chains and walks

  -- From camera c through the cameras of l to the reference.
  abbrev pub Walk : ℕ → List ℕ → Type 0
  Walk c [] = c ≡ reference
  Walk c (d ∷ l) = Linked cameras w least c d × Walk d l

  -- A longer list ends where its rest ends.
  last_cons : (c d : ℕ) (l : List ℕ) → get_or (c ∷ d ∷ l) (length (c ∷ d ∷ l) - 1) 0 ≡ get_or (d ∷ l) (length (d ∷ l) - 1) 0
  last_cons c d l =
      let one : length (d ∷ l) - 1 ≡ length l = omega arith in
      let two : length (c ∷ d ∷ l) - 1 ≡ suc (length l) = omega arith in
      rw (one, two)

  chain_cons : (c d : ℕ) (l : List ℕ) → Linked cameras w least c d → Chain cameras w least reference d (d ∷ l) → Chain cameras w least reference c (c ∷ d ∷ l)
  chain_cons c d l h rest = record { not_empty = omega arith; starts = refl; ends = last_cons c d l ∙ rest.ends; linked = linked }
    where
      linked : (i : ℕ) → suc i < length (c ∷ d ∷ l) → Linked cameras w least (get_or (c ∷ d ∷ l) i 0) (get_or (c ∷ d ∷ l) (suc i) 0)
      linked zero k = h
      linked (suc i) k = rest.linked i (omega arith)

  chain_rest : (c d : ℕ) (l : List ℕ) → Chain cameras w least reference c (c ∷ d ∷ l) → Chain cameras w least reference d (d ∷ l)
  chain_rest c d l h = record { not_empty = omega arith; starts = refl; ends = sym (last_cons c d l) ∙ h.ends; linked = λ i k. h.linked (suc i) (omega arith) }

  pub walk_chain : (c : ℕ) (l : List ℕ) → Walk c l → Chain cameras w least reference c (c ∷ l)
  walk_chain c [] h = record { not_empty = omega arith; starts = refl; ends = h; linked = λ i l. absurd (omega arith) }
  walk_chain c (d ∷ l) h = chain_cons c d l h.0 (walk_chain d l h.1)

  chain_walk : (c : ℕ) (l : List ℕ) → Chain cameras w least reference c (c ∷ l) → Walk c l
  chain_walk c [] h = h.ends
  chain_walk c (d ∷ l) h = (h.linked 0 (omega arith), chain_walk d l (chain_rest c d l h))

  -- Every chain is its first camera and a walk.
  pub chain_is_walk : (c : ℕ) (l : List ℕ) → Chain cameras w least reference c l → (k : List ℕ) × (l ≡ c ∷ k) × Walk c k
  chain_is_walk c [] h = absurd (omega (arith, h.not_empty))
  chain_is_walk c (d ∷ k) h =
      let e : d ∷ k ≡ c ∷ k = ap (λ (x : ℕ). x ∷ k) h.starts in
      (k, e, chain_walk c k (subst (Chain cameras w least reference c) e h))

  -- ---- a walk's first camera is placed

  abbrev Placed : ℕ → ℕ → Type 0
  Placed k c = (p : ℕ) × (d : ℕ) × (spot cameras w least reference k c ≡ placed p d)

  -- A camera linked to one of layer e is placed in layer e + 1 at the latest.
  placed-next : (e c d q : ℕ) → Linked cameras w least c d → spot cameras w least reference e d ≡ placed q e → Placed (suc e) c
  unfolding next_spot
  placed-next e c d q h f = go (spot cameras w least reference e c) refl (offer cameras w least reference e c) refl
    where
      step : spot cameras w least reference (suc e) c ≡ next_spot e (spot cameras w least reference e c) (offer cameras w least reference e c)
      step = spot_suc cameras w least reference e c h.first_inside

      go : (s : Spot) → spot cameras w least reference e c ≡ s → (o : Option ℕ) → offer cameras w least reference e c ≡ o → Placed (suc e) c
      go (placed p k) es None eo = (p, k, step ∙ rw es)
      go (placed p k) es (Some r) eo = (p, k, step ∙ rw es)
      go not_placed es None eo = absurd (offer_none cameras w least reference e c eo d q h.second_inside f h.different h.share_enough)
      go not_placed es (Some p) eo = (p, suc e, step ∙ rw (es, eo))

  walk_placed : (l : List ℕ) (c : ℕ) → c < cameras → Walk c l → Placed (length l) c
  unfolding start_spot
  walk_placed [] c h e = (reference, 0, spot_zero cameras w least reference c h ∙ rw (eq-eqb c reference e))
  walk_placed (d ∷ l) c h s = go (walk_placed l d s.0.second_inside s.1)
    where
      go : Placed (length l) d → Placed (suc (length l)) c
      go (q, e, f) =
          let g = placed_came cameras w least reference (length l) d q e s.0.second_inside f in
          let n = placed-next e c d q s.0 g.1 in
          (n.0, n.1, spot_stays cameras w least reference (suc e) (suc (length l)) c n.0 n.1 h (omega (arith, g.0)) n.2)

  pub chain_placed : (c : ℕ) (l : List ℕ) → c < cameras → Chain cameras w least reference c l → (p : ℕ) × (d : ℕ) × (spot cameras w least reference d c ≡ placed p d) × (d ≤ links l)
  unfolding links
  chain_placed c l h s =
      let k = chain_is_walk c l s in
      let t = walk_placed k.0 c h k.2 in
      let g = placed_came cameras w least reference (length k.0) c t.0 t.1 h t.2 in
      (t.0, t.1, g.1, omega (arith, g.0, ap length k.1))

  -- ---- a placed camera's reported chain

  -- A camera placed after layer 0 is not the reference.
  not-reference : (e c : ℕ) → c < cameras → spot cameras w least reference e c ≡ not_placed → c ≢ reference
  not-reference e c h f s =
      let r : reference < cameras = subst (λ (i : ℕ). i < cameras) s h in
      placed-not-not_placed (spot cameras w least reference e reference) reference 0
      (spot_stays cameras w least reference 0 e reference reference 0 r (omega arith) (spot_reference cameras w least reference r))
      (subst (λ (i : ℕ). spot cameras w least reference e i ≡ not_placed) s f)

  module _ (parent : ℕ → ℕ) (right : (i p d : ℕ) → i < cameras → spot cameras w least reference d i ≡ placed p d → parent i ≡ p) where
    pub read_walk : (d most c p : ℕ) → c < cameras → d < most → spot cameras w least reference d c ≡ placed p d
        → (l : List ℕ) × (read_chain reference parent most c ≡ c ∷ l) × Walk c l × (length l ≡ d)
    read_walk zero zero c p h k e = absurd (omega arith)
    read_walk (suc d) zero c p h k e = absurd (omega arith)
    read_walk zero (suc most) c p h k e =
        let r = placed_came cameras w least reference 0 c p 0 h e in
        ([], read-reference reference parent most c r.2.0, r.2.0, refl)
    read_walk (suc d) (suc most) c p h k e =
        go (placed_came cameras w least reference (suc d) c p (suc d) h e).2 (λ q l f. read_walk d most p q l (omega arith) f)
      where
        go : (spot cameras w least reference d c ≡ not_placed) × Offered cameras w least reference d c p
            → ((q : ℕ) → p < cameras → spot cameras w least reference d p ≡ placed q d
            → (l : List ℕ) × (read_chain reference parent most p ≡ p ∷ l) × Walk p l × (length l ≡ d))
            → (l : List ℕ) × (read_chain reference parent (suc most) c ≡ c ∷ l) × Walk c l × (length l ≡ suc d)
        go (f, o) rest =
            let t = rest o.in_layer_is.0 o.inside o.in_layer_is.1 in (
              p ∷ t.0,
              read-parent reference parent most c (not-reference d c h f) ∙ rw (right c p (suc d) h e, t.1),
              (record { first_inside = h; second_inside = o.inside; different = o.different; share_enough = o.shares }, t.2),
              ap suc t.3,
            )
