-- Chains of cameras, by document 01, "Chains", and demand 3, in their own words: what is linked, what a chain is, what one link
-- nearer means, and how the reported chain is read. Nothing here knows how cameras are placed. Assumes nothing.
use Rattle.std.specs.Prelude.{ℕ, zero, suc, ◌-◌, ◌≤◌, ◌<◌, ◌≡◌, ◌≢◌, true, false, List, [], ◌∷◌, length, get_or, eqb}

-- "its links are one fewer than its cameras"
unfoldable pub links : List ℕ → ℕ
links l = length l - 1

-- The rig has the cameras below `cameras`, and `w a b` is the number of views that cameras a and b share; it takes `least` of them to link
-- the two. Document 01 has one (`one_view`).
module _ (cameras : ℕ) (w : ℕ → ℕ → ℕ) (least : ℕ) where
  -- "Cameras are linked if they share a view", or at least `least`: two different cameras of the rig.
  pub record Linked (a b : ℕ) : Type 0 where
    pub first_inside : a < cameras
    pub second_inside : b < cameras
    pub different : a ≢ b
    pub share_enough : least ≤ w a b

  module _ (reference : ℕ) where
    -- "A camera's chain is a list of cameras that starts with it, ends with the reference and has each linked to the next"
    pub record Chain (c : ℕ) (l : List ℕ) : Type 0 where
      pub not_empty : 0 < length l
      pub starts : get_or l 0 0 ≡ c
      pub ends : get_or l (length l - 1) 0 ≡ reference
      pub linked : (i : ℕ) → suc i < length l → Linked (get_or l i 0) (get_or l (suc i) 0)

    abbrev pub HasChain : ℕ → Type 0
    HasChain c = (l : List ℕ) × Chain c l

    -- "the least number of links in its chains": some chain has m links, and none has fewer.
    pub record LeastLinks (c m : ℕ) : Type 0 where
      pub attained : (l : List ℕ) × Chain c l × (links l ≡ m)
      pub none_fewer : (l : List ℕ) → Chain c l → m ≤ links l

    -- "One camera is one link nearer than another if the least number of links in its chains is one below the other's."
    abbrev pub OneNearer : ℕ → ℕ → Type 0
    OneNearer p c = (m : ℕ) × LeastLinks p m × LeastLinks c (suc m)

-- "the camera, its parent, that one's parent, and so on to the first that is the reference": at most `most` cameras of it.
unfoldable pub read_chain : ℕ → (ℕ → ℕ) → ℕ → ℕ → List ℕ
read_chain reference parent zero c = []
read_chain reference parent (suc most) c =
    elim (eqb c reference) [ true ↦ c ∷ [] | false ↦ c ∷ read_chain reference parent most (parent c) ]

-- The reported chain of camera c. No chain without a repeated camera is longer than the rig has cameras.
unfoldable pub reported_chain : ℕ → ℕ → (ℕ → ℕ) → ℕ → List ℕ
reported_chain cameras reference parent c = read_chain reference parent cameras c
