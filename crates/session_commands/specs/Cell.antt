-- The checks that every command which names a cell begins with, by documents 01 and 02: 21, then 12. Rests on the record of `Session`.
use Rattle.std.specs.Prelude.{ℕ, not, ◌||◌, List, [], ◌∷◌, leb, Option}
use Rattle.refusal.specs.Table.{refuse_if}
use Rattle.refusal.specs.declared.Refusal.{Refusal}
use Rattle.refusal.specs.declared.Refusal.TheVariants.{NoSize, OutsideRig}
use Rattle.session_record.specs.Session.{has_size, named_cell}
use Rattle.session_record.specs.declared.Held.{Held}

-- 21: "before an accepted Size". 12: "names a view or camera outside the sizes; detail is view × 256 + camera".
abbrev pub cell_checks : Held → ℕ → ℕ → List (Option Refusal)
cell_checks h view camera =
    refuse_if (not (has_size h)) NoSize
    ∷ refuse_if (leb h.views view || leb h.cameras camera) (OutsideRig (named_cell view camera))
    ∷ []
