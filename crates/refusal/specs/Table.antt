-- The papers' table of refusals, document 01's and what document 02 adds: the number of each, the detail that it names, 0 where it names none, and the text that prints both; and how checks follow one another. Assumes nothing.
use Rattle.std.specs.Prelude.{ℕ, Bool, true, false, List, [], ◌∷◌, ◌++◌, codes, Option, None, Some}
use Rattle.std.specs.Fmt.{decimal}
use Rattle.refusal.specs.declared.Refusal.{Refusal}
use Rattle.refusal.specs.declared.Refusal.TheVariants.{InsufficientData, TooMany, InvalidReference, CountDiffers, WrongLength, BadMark, NotFinite, Unreached, EmptyView, UnknownCommand, Truncated, OutsideRig, TooLong, BrokenFrame, TooManyFrames, NoSize, SizeAgain, HeldAlready, NotHeld}

abbrev pub number_of : Refusal → ℕ
number_of InsufficientData = 1
number_of TooMany = 2
number_of InvalidReference = 3
number_of (CountDiffers view) = 4
number_of WrongLength = 5
number_of (BadMark cell) = 6
number_of (NotFinite cell) = 7
number_of (Unreached cameras) = 8
number_of (EmptyView view) = 9
number_of (UnknownCommand byte) = 10
number_of (Truncated offset) = 11
number_of (OutsideRig cell) = 12
number_of TooLong = 13
number_of BrokenFrame = 14
number_of TooManyFrames = 15
number_of NoSize = 21
number_of SizeAgain = 22
number_of (HeldAlready cell) = 23
number_of (NotHeld cell) = 24

abbrev pub detail_of : Refusal → ℕ
detail_of InsufficientData = 0
detail_of TooMany = 0
detail_of InvalidReference = 0
detail_of (CountDiffers view) = view
detail_of WrongLength = 0
detail_of (BadMark cell) = cell
detail_of (NotFinite cell) = cell
detail_of (Unreached cameras) = cameras
detail_of (EmptyView view) = view
detail_of (UnknownCommand byte) = byte
detail_of (Truncated offset) = offset
detail_of (OutsideRig cell) = cell
detail_of TooLong = 0
detail_of BrokenFrame = 0
detail_of TooManyFrames = 0
detail_of NoSize = 0
detail_of SizeAgain = 0
detail_of (HeldAlready cell) = cell
detail_of (NotHeld cell) = cell

-- "A refusal prints `no`, number, detail, in decimal."
abbrev pub text_of : Refusal → List ℕ
text_of r = codes "no " ++ (decimal (number_of r) ++ (codes " " ++ decimal (detail_of r)))

-- ---- checks: each finds a refusal or nothing, and the first that finds one decides

unfoldable pub refuse_if : Bool → Refusal → Option Refusal
refuse_if true r = Some r
refuse_if false r = None

-- A refusal that names what was found.
unfoldable pub refuse_at : Option ℕ → (ℕ → Refusal) → Option Refusal
refuse_at None refusal = None
refuse_at (Some n) refusal = Some (refusal n)

unfoldable pub or_else : Option Refusal → Option Refusal → Option Refusal
or_else (Some r) later = Some r
or_else None later = later

unfoldable pub first_of : List (Option Refusal) → Option Refusal
unfolding or_else
first_of [] = None
first_of (check ∷ later) = or_else check (first_of later)
