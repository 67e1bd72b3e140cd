-- An input of any length, read to its end, and what both outputs gain by it, by document 02, change 3; and what fails. Bytes that an input has left and an output holds are said where they are known.
-- Rests on what goes where, in `Told`, on lengths that are refused alike, in `telemetry`, and on what failures are told, in `descriptors`.
use Rattle.std.specs.Prelude.{ℕ, ◌≤◌, ◌≡◌, List, length, take, Option, None, Some}
use Rattle.std.specs.Io.KnownBytes.{Keeps, Appends, Consumes, IsAtEnd}
use Rattle.refusal.specs.declared.Refusal.{Refusal}
use Rattle.telemetry.specs.Frames.{Bytes, max_bytes, RefusedAlike}
use Rattle.descriptors.specs.Moved.{IsTold}
use Rattle.frames.specs.declared.Failed.{Failed}
use Rattle.frames.specs.declared.Failed.TheVariants.{Input, Output, Line}
use Rattle.frames.specs.Told.{refusal_of, output_of, error_of}

-- What stands for an input: it is refused as the input would be, and where the input is no longer than one that passes it is the input.
pub record StandsFor (kept all : List ℕ) : Type 0 where
  pub alike : RefusedAlike (length kept) (length all)
  pub is_all : length all ≤ max_bytes → kept ≡ all

-- All that an input had was read, to its end.
abbrev pub ReadWhole : Option (List ℕ) → Option (List ℕ) → List ℕ → Type 0
ReadWhole old new all = Consumes old new all × IsAtEnd new

-- An input was read to its end, and this stands for all of it.
pub record Taken (old new : Option (List ℕ)) (kept : List ℕ) : Type 0 where
  pub all : List ℕ
  pub read : ReadWhole old new all
  pub stands : StandsFor kept all

-- An input was read to its end, and each output gained what belongs there for all of it. Where it is no longer than what may pass its elements are bytes, as the demand in words asks.
pub record Turned (old new output output' errors errors' : Option (List ℕ)) : Type 0 where
  pub all : List ℕ
  pub read : ReadWhole old new all
  pub to_output : Appends output output' (output_of all)
  pub to_error : Appends errors errors' (error_of all)
  pub of_bytes : length all ≤ max_bytes → Bytes all

-- Where the input fails nothing is written. Where an output does, the input was read to its end, and that output gained a front of what belongs there, and the other nothing: that for commands where nothing
-- is refused, and that for a line where something is. No failure is told that only says to call again.
abbrev pub Untold : Failed → Option (List ℕ) → Option (List ℕ) → Option (List ℕ) → Option (List ℕ) → Option (List ℕ) → Option (List ℕ) → Type 0
Untold (Input e) old new output output' errors errors' = IsTold e × Keeps output output' × Keeps errors errors'
Untold (Output e) old new output output' errors errors' =
    (all : List ℕ) × (front : ℕ) × IsTold e × ReadWhole old new all × (refusal_of all ≡ None) × Appends output output' (take front (output_of all)) × Keeps errors errors'
Untold (Line e) old new output output' errors errors' =
    (all : List ℕ) × (front : ℕ) × (r : Refusal) × IsTold e × ReadWhole old new all × (refusal_of all ≡ Some r) × Appends errors errors' (take front (error_of all)) × Keeps output output'
