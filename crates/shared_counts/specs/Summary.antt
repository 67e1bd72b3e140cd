-- The summary of shared counts, by document 02, change 2: "Hold a 16 by 16 summary of shared counts in the session." Rests on the views that two masks
-- share, in `Masks` of `chains`.
use Rattle.std.specs.Prelude.{ℕ, ◌+◌, ◌*◌, ◌/◌, ◌%◌, Bool, ◌&&◌, List, length, get_or, eqb}
use Rattle.lists.specs.Finding.{all_below}
use Rattle.lists.specs.Lists.{tabulate}
use Rattle.chains.specs.Masks.{shared_by}

-- Row after row, one for each camera: the entry of cameras a and b.
abbrev pub entry_place : ℕ → ℕ → ℕ
entry_place a b = a * 16 + b

abbrev pub entry_count : ℕ
entry_count = 256

-- "each entry equal to the count over the held poses": the views of both masks; "a camera with itself counts its own poses".
abbrev pub entry_of : List ℕ → ℕ → ℕ
entry_of masks i = shared_by masks (i / 16) (i % 16)

-- The summary of one mask a camera.
unfoldable pub summary_of : List ℕ → List ℕ
unfolding tabulate shared_by
summary_of masks = tabulate entry_count (entry_of masks)

-- 256 entries, none of them false.
unfoldable pub is_summary : List ℕ → List ℕ → Bool
unfolding all_below shared_by
is_summary masks shared = eqb (length shared) entry_count && all_below (λ i. eqb (get_or shared i 0) (entry_of masks i)) entry_count
