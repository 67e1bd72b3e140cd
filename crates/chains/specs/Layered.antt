-- What demand 3 asks of placed cameras, as one record over whatever reports them: which cameras are placed, their parents and
-- their link counts. Assumes nothing.
use Rattle.std.specs.Prelude.{ℕ, suc, ◌≤◌, ◌<◌, ◌≡◌, ◌≢◌, ◌↔◌, ◌⊎◌, Bool, List, T}
use Rattle.chains.specs.Chains.{Linked, Chain, HasChain, OneNearer, links, reported_chain}

-- `w c p` is the number of views that cameras c and p share, and it takes `least` of them to link the two; `has_place`, `parent` and `link_count` are what is reported.
pub record Layered (cameras : ℕ) (w : ℕ → ℕ → ℕ) (least reference : ℕ) (has_place : ℕ → Bool) (parent link_count : ℕ → ℕ) : Type 0 where
  -- "exactly when every camera can be tied to the reference by a chain of cameras", camera by camera
  pub placed_with_chain : (c : ℕ) → c < cameras → T (has_place c) ↔ HasChain cameras w least reference c
  -- "each camera's reported chain, followed parent by parent to the reference, is such a chain"
  pub reported : (c : ℕ) → c < cameras → T (has_place c) → Chain cameras w least reference c (reported_chain cameras reference parent c)
  -- "its reported link count is the number of links in it"
  pub counted : (c : ℕ) → c < cameras → T (has_place c) → links (reported_chain cameras reference parent c) ≡ link_count c
  -- "and every other chain of that camera has at least as many"
  pub shortest : (c : ℕ) → c < cameras → T (has_place c) → (l : List ℕ) → Chain cameras w least reference c l → link_count c ≤ links l
  -- "For all but the reference, the parent is one link nearer than the camera"
  pub nearer : (c : ℕ) → c < cameras → T (has_place c) → c ≢ reference → OneNearer cameras w least reference (parent c) c
  pub linked_to_parent : (c : ℕ) → c < cameras → T (has_place c) → c ≢ reference → Linked cameras w least c (parent c)
  -- "and every other camera one link nearer shares fewer views with the camera than the parent does, or as many and has a higher index"
  pub most_shared : (c : ℕ) → c < cameras → T (has_place c) → c ≢ reference
      → (q : ℕ) → q < cameras → q ≢ parent c → OneNearer cameras w least reference q c
      → (w c q < w c (parent c)) ⊎ ((w c q ≡ w c (parent c)) × (parent c < q))
  -- "The reference has itself as parent and 0 links."
  pub reference_placed : T (has_place reference)
  pub reference_parent : parent reference ≡ reference
  pub reference_links : link_count reference ≡ 0
  -- A parent is a camera of the rig, placed one link earlier, and there are fewer links than cameras.
  pub parent_inside : (c : ℕ) → c < cameras → T (has_place c) → parent c < cameras
  pub parent_placed : (c : ℕ) → c < cameras → T (has_place c) → T (has_place (parent c))
  pub parent_links : (c : ℕ) → c < cameras → T (has_place c) → c ≢ reference → suc (link_count (parent c)) ≡ link_count c
  pub links_below : (c : ℕ) → c < cameras → T (has_place c) → link_count c < cameras
