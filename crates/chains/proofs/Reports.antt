-- What demand 3 asks holds of every report that agrees with a right one on the placed cameras of the rig, whatever it says of others
-- (`layered_report`): so it carries from spots to bytes. Assumes nothing.
use Prim.Native.Nat.{ℕ, zero, suc, ◌<◌}
use native.Mathlib.Decide.{ℕ_discrete}
use mathlib.Core.Path.{◌≡◌, refl, sym, ap, ◌∙◌}
use mathlib.Core.Bool.{Bool}
use mathlib.Core.List.{List, ◌∷◌}
use lib.Dec.{T}
use Rattle.chains.specs.Chains.{read_chain, reported_chain}
use Rattle.chains.specs.Layered.{Layered}
use Rattle.chains.proofs.Walks.{read-reference, read-parent}

module _ (cameras : ℕ) (w : ℕ → ℕ → ℕ) (least reference : ℕ) (inside : reference < cameras)
    (has_place has_place' : ℕ → Bool) (parent parent' link_count link_count' : ℕ → ℕ)
    (right : Layered cameras w least reference has_place parent link_count)
    (same_place : (c : ℕ) → c < cameras → has_place c ≡ has_place' c)
    (same_parent : (c : ℕ) → c < cameras → T (has_place c) → parent c ≡ parent' c)
    (same_links : (c : ℕ) → c < cameras → T (has_place c) → link_count c ≡ link_count' c) where
  read_chain_agree : (most c : ℕ) → c < cameras → T (has_place c) → read_chain reference parent most c ≡ read_chain reference parent' most c
  unfolding read_chain
  read_chain_agree zero c h t = refl
  read_chain_agree (suc most) c h t =
      go (ℕ_discrete c reference) (read_chain_agree most (parent c) (right.parent_inside c h t) (right.parent_placed c h t))
    where
      go : Dec (c ≡ reference) → read_chain reference parent most (parent c) ≡ read_chain reference parent' most (parent c)
          → read_chain reference parent (suc most) c ≡ read_chain reference parent' (suc most) c
      go (yes y) rest = read-reference reference parent most c y ∙ sym (read-reference reference parent' most c y)
      go (no y) rest =
          read-parent reference parent most c y
          ∙ ap (λ (l : List ℕ). c ∷ l) (rest ∙ ap (read_chain reference parent' most) (same_parent c h t))
          ∙ sym (read-parent reference parent' most c y)

  reported_chain_agree : (c : ℕ) → c < cameras → T (has_place c) → reported_chain cameras reference parent c ≡ reported_chain cameras reference parent' c
  unfolding reported_chain
  reported_chain_agree c h t = read_chain_agree cameras c h t

  had : (c : ℕ) → c < cameras → T (has_place' c) → T (has_place c)
  had c h t = rw (same_place c h) t

  pub layered_report : Layered cameras w least reference has_place' parent' link_count'
  layered_report = record {
    placed_with_chain = λ c h. rw (← same_place c h) (right.placed_with_chain c h);
    reported = λ c h t. rw (← reported_chain_agree c h (had c h t)) (right.reported c h (had c h t));
    counted = λ c h t. rw (← reported_chain_agree c h (had c h t), ← same_links c h (had c h t)) (right.counted c h (had c h t));
    shortest = λ c h t. rw (← same_links c h (had c h t)) (right.shortest c h (had c h t));
    nearer = λ c h t n. rw (← same_parent c h (had c h t)) (right.nearer c h (had c h t) n);
    linked_to_parent = λ c h t n. rw (← same_parent c h (had c h t)) (right.linked_to_parent c h (had c h t) n);
    most_shared = λ c h t n. rw (← same_parent c h (had c h t)) (right.most_shared c h (had c h t) n);
    reference_placed = rw (← same_place reference inside) right.reference_placed;
    reference_parent = sym (same_parent reference inside right.reference_placed) ∙ right.reference_parent;
    reference_links = sym (same_links reference inside right.reference_placed) ∙ right.reference_links;
    parent_inside = λ c h t. rw (← same_parent c h (had c h t)) (right.parent_inside c h (had c h t));
    parent_placed = λ c h t.
        rw (← same_parent c h (had c h t), ← same_place (parent c) (right.parent_inside c h (had c h t))) (right.parent_placed c h (had c h t));
    parent_links = λ c h t n.
        let k = had c h t in
        rw (← same_parent c h k, ← same_links c h k, ← same_links (parent c) (right.parent_inside c h k) (right.parent_placed c h k)) (right.parent_links c h k n);
    links_below = λ c h t. rw (← same_links c h (had c h t)) (right.links_below c h (had c h t));
  }
