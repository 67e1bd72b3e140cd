-- One camera's entries: whether they are true, and how one view of it changes them. Assumes nothing.
use Rattle.std.specs.Prelude.{ℕ, ◌+◌, ◌*◌, ◌/◌, ◌%◌, ◌^◌, ◌≤◌, ◌<◌, ◌≡◌, Bool, ◌&&◌, List, length, get_or, eqb}
use Rattle.limits.specs.Limits.{max_cameras}
use Rattle.lists.specs.Finding.{all_below}
use Rattle.chains.specs.Masks.{shared_by}
use Rattle.shared_counts.specs.Summary.{entry_place, entry_count}

-- The entries of two cameras, in both orders, are their shared count.
unfoldable pub true_entries : List ℕ → List ℕ → ℕ → ℕ → Bool
true_entries masks shared a b =
    eqb (shared_by masks a b) (get_or shared (entry_place a b) 0) && eqb (shared_by masks a b) (get_or shared (entry_place b a) 0)

-- So are those of a camera with each of lower or its own index.
abbrev pub true_up_to : List ℕ → List ℕ → ℕ → Bool
true_up_to masks shared camera = all_below (true_entries masks shared camera) (camera + 1)

-- A count changed by `by` where the mask holds the view, modulo 256.
abbrev pub recounted : ℕ → ℕ → ℕ → ℕ → ℕ
recounted count mask view by = (count + mask / 2 ^ view % 2 * by) % 256

-- The entry of the camera with another, so changed by the other's mask.
abbrev pub recounted_with : List ℕ → List ℕ → ℕ → ℕ → ℕ → ℕ → ℕ
recounted_with masks before camera view by other = recounted (get_or before (entry_place camera other) 0) (get_or masks other 0) view by

-- The view of the camera is counted with each camera below n, in its row and in its column, and nothing else is changed.
pub record Counted (masks before : List ℕ) (camera view by n : ℕ) (after : List ℕ) : Type 0 where
  pub entries : length after ≡ entry_count
  pub row : (b : ℕ) → b < n → get_or after (entry_place camera b) 0 ≡ recounted_with masks before camera view by b
  pub column : (a : ℕ) → a < n → get_or after (entry_place a camera) 0 ≡ recounted_with masks before camera view by a
  pub rest : (a b : ℕ) → a < max_cameras → b < max_cameras → (a ≡ camera → n ≤ b) → (b ≡ camera → n ≤ a)
      → get_or after (entry_place a b) 0 ≡ get_or before (entry_place a b) 0
