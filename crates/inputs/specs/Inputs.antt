-- The checks of the direct call's inputs, by document 01: 1 to 6 in their order.
-- Rests on the table of refusals.
use Rattle.std.specs.Prelude.{ℕ, ◌*◌, not, ◌||◌, List, [], ◌∷◌, length, get_or, eqb, leb, ltb, Option, None, Some, Result, Err, Ok}
use Rattle.refusal.specs.Table.{refuse_if, refuse_at, first_of}
use Rattle.refusal.specs.declared.Refusal.{Refusal}
use Rattle.refusal.specs.declared.Refusal.TheVariants.{InsufficientData, TooMany, InvalidReference, CountDiffers, WrongLength, BadMark}
use Rattle.limits.specs.Limits.{max_views, max_cameras, first_needs, second_needs}
use Rattle.lists.specs.Finding.{lowest}

-- 1, 2 and 3: "views for 1 then 2, cameras of view 0 for 1 then 2, then 3".
unfoldable pub size_refusal : ℕ → ℕ → ℕ → Option Refusal
unfolding refuse_if first_of
size_refusal views cameras reference =
    first_of
    (refuse_if (eqb views 0) InsufficientData
    ∷ refuse_if (ltb max_views views) TooMany
    ∷ refuse_if (eqb cameras 0) InsufficientData
    ∷ refuse_if (ltb max_cameras cameras) TooMany
    ∷ refuse_if (leb cameras reference) InvalidReference
    ∷ [])

-- The views of the call are its counts, and its cameras those of view 0.
abbrev pub cell_count : List ℕ → ℕ
cell_count counts = length counts * get_or counts 0 0

-- 4: "a view's count differs from view 0's; detail is the lowest such view."
unfoldable pub lowest_other_count : List ℕ → Option ℕ
unfolding lowest
lowest_other_count counts = lowest (λ v. not (eqb (get_or counts v 0) (get_or counts 0 0))) (length counts)

unfoldable pub count_refusal : List ℕ → Option Refusal
unfolding lowest_other_count refuse_at
count_refusal counts = refuse_at (lowest_other_count counts) CountDiffers

-- 5: "marks are not one per cell, floats not seven per cell, an answer is too short": the four lengths for so many views and cameras.
unfoldable pub length_refusal : ℕ → ℕ → ℕ → ℕ → ℕ → ℕ → Option Refusal
unfolding refuse_if
length_refusal views cameras marks floats first_room second_room =
    refuse_if
    (not (eqb marks (views * cameras))
    || not (eqb floats (7 * (views * cameras)))
    || ltb first_room (first_needs cameras views)
    || ltb second_room (second_needs cameras))
    WrongLength

-- 6: "a mark above 1; detail is the lowest such cell."
unfoldable pub lowest_bad_mark : ℕ → List ℕ → Option ℕ
unfolding lowest
lowest_bad_mark cells marks = lowest (λ i. ltb 1 (get_or marks i 0)) cells

unfoldable pub mark_refusal : ℕ → List ℕ → Option Refusal
unfolding lowest_bad_mark refuse_at
mark_refusal cells marks = refuse_at (lowest_bad_mark cells marks) BadMark

-- 1 to 6 in their order: a camera count for each view, a mark for each cell, so many floats, the reference, and answers of so many floats and bytes.
unfoldable pub input_refusal : List ℕ → List ℕ → ℕ → ℕ → ℕ → ℕ → Option Refusal
unfolding size_refusal count_refusal length_refusal mark_refusal first_of
input_refusal counts marks floats reference first_room second_room =
    first_of
    (size_refusal (length counts) (get_or counts 0 0) reference
    ∷ count_refusal counts
    ∷ length_refusal (length counts) (get_or counts 0 0) (length marks) floats first_room second_room
    ∷ mark_refusal (cell_count counts) marks
    ∷ [])

-- ---- what the checks answer

abbrev pub Checked : Type 0
Checked = Result (Unit {0}) Refusal

unfoldable pub checked_of : Option Refusal → Checked
checked_of (Some r) = Err r
checked_of None = Ok tt
