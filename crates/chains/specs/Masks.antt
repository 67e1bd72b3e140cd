-- Views as bits, by document 01: "bit v is set when view v holds a pose of that camera" and "The shared count is the number of ones in
-- both masks taken together, bit by bit." Assumes nothing.
use Rattle.std.specs.Prelude.{ℕ, ◌&&◌, List, get_or}
use Rattle.limits.specs.Limits.{max_views}
use Rattle.lists.specs.Finding.{count}
use Rattle.lists.specs.Masks.{in_mask}

-- How many views are in both masks.
unfoldable pub views_of_both : ℕ → ℕ → ℕ
views_of_both a b = count (λ v. in_mask a v && in_mask b v) max_views

-- How many views cameras a and b share, by a list of one mask a camera.
unfoldable pub shared_by : List ℕ → ℕ → ℕ → ℕ
shared_by masks a b = views_of_both (get_or masks a 0) (get_or masks b 0)
