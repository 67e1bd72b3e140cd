-- What a search finds in the list of a layer's cameras is the parent that `parent_in_layer` finds among all cameras
-- (`first_most-parent_in_layer`). Assumes nothing.
use Prim.Native.Nat.{ℕ, zero, suc, ◌-◌, ◌≤◌, ◌<◌}
use native.Mathlib.Decide.{dec_lt}
use native.Mathlib.Omega.{arith}
use mathlib.Core.Path.{◌≡◌, refl, sym, ap, ◌∙◌}
use mathlib.Core.Logic.{◌≢◌}
use mathlib.Core.Bool.{Bool, true, false, cond, true≢false}
use Rattle.std.specs.Prelude.{Option, None, Some}
use mathlib.Core.List.{[], ◌∷◌}
use lib.Dec.{ltb, leb}
use borrow.Author.Tests.{lt-ltb, le-ltb, le-leb, lt-leb, leb-false, ne_eqb}
use Rattle.std.proofs.lemmas.List.Sums.{fold-append}
use Rattle.lists.specs.Lists.{tabulate}
use Rattle.chains.specs.Layers.{Spot, in_layer, take_if_more, most_views, linked_in_layer, parent_in_layer}
use Rattle.chains.specs.Inner.Search.{better_parent, first_most, passing}
use Rattle.chains.proofs.MostViews.{Found, most_views_found}
use Rattle.chains.proofs.Placing.{linked_in_layer_parts}
use Rattle.chains.proofs.Passing.{passing_more, passing_same}

module _ (cameras : ℕ) (w : ℕ → ℕ → ℕ) (least : ℕ) (some_view : 1 ≤ least) (spots : ℕ → Spot) (n c : ℕ) (apart : in_layer n (spots c) ≡ false) where
  -- In a layer that c is not in, a camera is linked to c where it shares enough views.
  linked_shares : (p : ℕ) → in_layer n (spots p) ≡ true → linked_in_layer w least spots n c p ≡ leb least (w c p)
  unfolding linked_in_layer
  linked_shares p e = rw (e, ne_eqb c p other)
    where
      other : c ≢ p
      other s = true≢false (sym e ∙ ap (λ (i : ℕ). in_layer n (spots i)) (sym s) ∙ apart)

  linked_out : (p : ℕ) → in_layer n (spots p) ≡ false → linked_in_layer w least spots n c p ≡ false
  unfolding linked_in_layer
  linked_out p e = rw e

  -- Both ways to take one more camera into account agree, the one found before being linked.
  take_agrees : (m : ℕ) (o : Option ℕ) → Found (linked_in_layer w least spots n c) (w c) m o → better_parent least (w c) o m ≡ take_if_more (leb least (w c m)) m (w c) o
  unfolding take_if_more
  take_agrees m None found = go (dec_lt (w c m) least)
    where
      go : Dec (w c m < least) → cond (ltb (least - 1) (w c m)) (Some m) None ≡ take_if_more (leb least (w c m)) m (w c) None
      go (yes y) = rw (le-ltb (least - 1) (w c m) (omega arith), lt-leb least (w c m) y)
      go (no y) = rw (lt-ltb (least - 1) (w c m) (omega arith), le-leb least (w c m) (omega arith))
  take_agrees m (Some q) found = go (leb least (w c m)) refl
    where
      go : (t : Bool) → leb least (w c m) ≡ t → cond (ltb (w c q) (w c m)) (Some m) (Some q) ≡ take_if_more t m (w c) (Some q)
      go true e = refl
      go false e =
          rw (le-ltb (w c q) (w c m) (omega (arith, leb-false least (w c m) e, (linked_in_layer_parts w least spots n c q found.passes).2)))

  first_most-most_views : (m : ℕ) → first_most least (w c) (passing (λ p. in_layer n (spots p)) m) ≡ most_views (linked_in_layer w least spots n c) (w c) m
  unfolding most_views take_if_more passing tabulate
  first_most-most_views zero = refl
  first_most-most_views (suc m) = go (in_layer n (spots m)) refl (first_most-most_views m)
    where
      test : ℕ → Bool
      test p = in_layer n (spots p)

      go : (t : Bool) → in_layer n (spots m) ≡ t → first_most least (w c) (passing test m) ≡ most_views (linked_in_layer w least spots n c) (w c) m
          → first_most least (w c) (passing test (suc m)) ≡ take_if_more (linked_in_layer w least spots n c m) m (w c) (most_views (linked_in_layer w least spots n c) (w c) m)
      go true e rest =
          ap (first_most least (w c)) (passing_more test m e)
          ∙ fold-append (better_parent least (w c)) None (passing test m) (m ∷ [])
          ∙ rw (rest, linked_shares m e) (take_agrees m _ (most_views_found (linked_in_layer w least spots n c) (w c) m))
      go false e rest = rw (passing_same test m e, rest, linked_out m e)

  pub first_most-parent_in_layer : first_most least (w c) (passing (λ p. in_layer n (spots p)) cameras) ≡ parent_in_layer cameras w least spots n c
  unfolding parent_in_layer
  first_most-parent_in_layer = first_most-most_views cameras
