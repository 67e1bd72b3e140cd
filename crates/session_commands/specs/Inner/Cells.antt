-- What the checks of a cell that a command names answer each other: the cell within the limits, or what refuses it. Assumes nothing.
use Rattle.std.specs.Prelude.{◌≡◌, Option, None, Some, Result, Err, Ok}
use Rattle.refusal.specs.declared.Refusal.{Refusal}
use Rattle.shared_counts.specs.declared.Cell.{Cell}
use Rattle.session_commands.specs.declared.cell.NamedCell.{NamedCell}

-- The cell is the one that is named, and it passes; or the refusal is what refuses it.
abbrev pub CheckedCell : NamedCell → Option Refusal → Result Cell Refusal → Type 0
CheckedCell named refusal (Ok cell) = (refusal ≡ None) × (cell.view ≡ named.view) × (cell.camera ≡ named.camera)
CheckedCell named refusal (Err r) = refusal ≡ Some r
