-- What a session holds, by documents 01 and 02: the record, what it is without its summary, the buffer beside it, how a part of it is changed, and which
-- records accepted commands can leave, told by a check. What each command does is in the crate `session_commands`, a file a command; the record as words for C is
-- in `Words` of the crate `record_words`. Rests on the grids of `placing` and the summary of `shared_counts`.
use Rattle.std.specs.Prelude.{ℕ, ◌+◌, ◌*◌, ◌^◌, Bool, not, ◌&&◌, ◌||◌, cond, List, get_or, replicate, eqb, ltb, is_none, Float}
use Rattle.limits.specs.Limits.{max_cameras}
use Rattle.lists.specs.Finding.{all_below}
use Rattle.placing.specs.Grid.{Grid}
use Rattle.inputs.specs.Inputs.{size_refusal}
use Rattle.placing.specs.Rig.{rig_grid}
use Rattle.placing.specs.declared.grid.Rig.{Rig}
use Rattle.shared_counts.specs.Summary.{entry_count, summary_of, is_summary}
use Rattle.session_record.specs.declared.Session.{Session}
use Rattle.session_record.specs.declared.Held.{Held}

-- ---- the record made, and changed

-- "A fresh session is all zeros: no sizes, no poses."
abbrev pub fresh : Session
fresh = record { masks = replicate max_cameras 0; views = 0; cameras = 0; reference = 0; shared = replicate entry_count 0 }

-- The record without its summary, and with one.
abbrev pub held_of : Session → Held
held_of s = record { masks = s.masks; views = s.views; cameras = s.cameras; reference = s.reference }

abbrev pub session_of : Held → List ℕ → Session
session_of h shared = record { masks = h.masks; views = h.views; cameras = h.cameras; reference = h.reference; shared = shared }

-- "Every accepted command keeps each entry equal to the count over the held poses."
abbrev pub summed : Held → Session
summed h = session_of h (summary_of h.masks)

-- The record with other sizes.
abbrev pub with_sizes : Held → ℕ → ℕ → ℕ → Held
with_sizes h v c r = record { masks = h.masks; views = v; cameras = c; reference = r }

-- The record with other masks.
abbrev pub with_masks : Held → List ℕ → Held
with_masks h masks = record { masks = masks; views = h.views; cameras = h.cameras; reference = h.reference }

abbrev pub has_size : Held → Bool
has_size h = not (eqb h.views 0)

-- ---- the buffer, and the grid that both hold

-- "Coordinates stay in a lent buffer of exactly 7,168 floats, a cell's seven from 7 × (view × 16 + camera)".
abbrev pub buffer_length : ℕ
buffer_length = 7168

abbrev pub cell_start : ℕ → ℕ → ℕ
cell_start view camera = 7 * (view * 16 + camera)

-- The cell that the details of 12, 23 and 24 name.
abbrev pub named_cell : ℕ → ℕ → ℕ
named_cell view camera = view * 256 + camera

-- "the grid that masks and buffer hold"
abbrev pub rig_of : Held → Rig
rig_of h = record { masks = h.masks; views = h.views; cameras = h.cameras; reference = h.reference; stride = max_cameras }

abbrev pub session_grid : Held → List Float → Grid
session_grid h buffer = rig_grid (rig_of h) buffer

-- ---- the record checked: "a session record handed in has sizes, a reference or mask bits that no accepted commands could leave", and "A session record
-- handed in with a false entry is 5"

-- No sizes at all, or sizes that Size accepts.
abbrev pub possible_sizes : Held → Bool
possible_sizes h = eqb h.views 0 && eqb h.cameras 0 && eqb h.reference 0 || is_none (size_refusal h.views h.cameras h.reference)

-- A camera within the sizes has a bit for each view, and any other has none.
abbrev pub mask_fits : Held → ℕ → Bool
mask_fits h c = ltb (get_or h.masks c 0) (cond (ltb c h.cameras) (2 ^ h.views) 1)

abbrev pub possible_masks : Held → Bool
possible_masks h = all_below (mask_fits h) max_cameras

-- What is held, each part by its own check.
unfoldable pub possible_held : Held → Bool
unfolding all_below size_refusal
possible_held h = possible_sizes h && possible_masks h

-- The whole record: what is held, and the summary of its masks.
unfoldable pub possible : Session → Bool
unfolding possible_held
possible s = possible_held (held_of s) && is_summary s.masks s.shared
