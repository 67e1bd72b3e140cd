-- The placing of cameras by layers, as document 01, "Chains", words it: "The reference is layer 0. A camera not yet placed that is
-- linked to layer n is in layer n + 1. Its parent is the camera of layer n sharing most views with it, lowest index on ties."
-- It computes. Assumes nothing.
use Rattle.std.specs.Prelude.{ℕ, zero, suc, Bool, true, false, cond, not, ◌&&◌, List, get_or, eqb, ltb, leb}
use Rattle.std.specs.Prelude.{Option, None, Some}
use Rattle.lists.specs.Lists.{tabulate}

-- What is known of one camera: it is not placed, or it has a parent and a number of links. "Links equal the layer number."
pub data Spot : Type 0 where
  not_placed : Spot
  placed : (parent links : ℕ) → Spot

unfoldable pub is_placed : Spot → Bool
is_placed not_placed = false
is_placed (placed p d) = true

-- Where there is no place there is no parent and there are no links: 0 stands in.
unfoldable pub parent_of : Spot → ℕ
parent_of not_placed = 0
parent_of (placed p d) = p

unfoldable pub links_of : Spot → ℕ
links_of not_placed = 0
links_of (placed p d) = d

unfoldable pub in_layer : ℕ → Spot → Bool
in_layer n not_placed = false
in_layer n (placed p d) = eqb d n

-- The spot of camera c in a list of spots.
abbrev pub spot_at : List Spot → ℕ → Spot
spot_at spots c = get_or spots c not_placed

-- Camera p is taken if it passes the test and no camera is found yet, or the one found has fewer views.
unfoldable pub take_if_more : Bool → ℕ → (ℕ → ℕ) → Option ℕ → Option ℕ
take_if_more false p views o = o
take_if_more true p views None = Some p
take_if_more true p views (Some q) = cond (ltb (views q) (views p)) (Some p) (Some q)

-- Of the first m cameras that pass the test, the one with most views, lowest index on ties.
unfoldable pub most_views : (ℕ → Bool) → (ℕ → ℕ) → ℕ → Option ℕ
most_views test views zero = None
most_views test views (suc m) = take_if_more (test m) m views (most_views test views m)

-- The reference is layer 0, "has itself as parent and 0 links".
unfoldable pub start_spot : ℕ → ℕ → Spot
start_spot reference c = cond (eqb c reference) (placed reference 0) not_placed

-- A camera not yet placed goes to layer n + 1 where it has a parent in layer n.
unfoldable pub next_spot : ℕ → Spot → Option ℕ → Spot
next_spot n (placed p d) parent = placed p d
next_spot n not_placed None = not_placed
next_spot n not_placed (Some p) = placed p (suc n)

-- `w c p` is the number of views that cameras c and p share; it takes `least` of them to link two cameras. Camera p is in layer n and linked
-- to camera c.
unfoldable pub linked_in_layer : (ℕ → ℕ → ℕ) → ℕ → (ℕ → Spot) → ℕ → ℕ → ℕ → Bool
linked_in_layer w least spots n c p = in_layer n (spots p) && (not (eqb c p) && leb least (w c p))

module _ (cameras : ℕ) (w : ℕ → ℕ → ℕ) (least : ℕ) where
  -- "the camera of layer n sharing most views with it, lowest index on ties"
  unfoldable pub parent_in_layer : (ℕ → Spot) → ℕ → ℕ → Option ℕ
  parent_in_layer spots n c = most_views (linked_in_layer w least spots n c) (w c) cameras

  module _ (reference : ℕ) where
    -- The spots of all cameras once layers 0 to n are placed.
    unfoldable pub layers_to : ℕ → List Spot
    layers_to zero = tabulate cameras (start_spot reference)
    layers_to (suc n) = tabulate cameras (λ c. next_spot n (spot_at (layers_to n) c) (parent_in_layer (spot_at (layers_to n)) n c))

    -- No rig has more layers than cameras.
    unfoldable pub layers : List Spot
    layers = layers_to cameras
