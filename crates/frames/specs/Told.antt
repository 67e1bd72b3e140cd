-- What goes to standard output and to standard error, by document 02, change 3. Rests on the import of packed frames in `telemetry` and the line of a refusal in `listing`.
use Rattle.std.specs.Prelude.{ℕ, ◌*◌, ◌≤◌, ◌≡◌, List, [], length, take, Option, None, Some, Result, Ok, Err, IfOk, IfErr}
use Rattle.refusal.specs.declared.Refusal.{Refusal}
use Rattle.command.specs.Command.{pose_width}
use Rattle.listing.specs.Listing.{refusal_line}
use Rattle.telemetry.specs.Frames.{Bytes, frames_in, command_bytes, frames_refusal}

-- An answer of the frames' own length is lent, so that 14 and 15 are all that is refused.
abbrev pub refusal_of : List ℕ → Option Refusal
refusal_of bytes = frames_refusal (length bytes) (pose_width * frames_in bytes)

-- To standard output: the commands, or nothing. To standard error: nothing, or the line of the refusal.
unfoldable pub output_by : Option Refusal → List ℕ → List ℕ
output_by None commands = commands
output_by (Some r) commands = []

unfoldable pub error_by : Option Refusal → List ℕ
error_by None = []
error_by (Some r) = refusal_line r

abbrev pub output_of : List ℕ → List ℕ
output_of bytes = output_by (refusal_of bytes) (command_bytes bytes)

abbrev pub error_of : List ℕ → List ℕ
error_of bytes = error_by (refusal_of bytes)

-- So many bytes at the front of the commands go to standard output and nothing to standard error, or so many of the line to standard error and nothing to
-- standard output.
abbrev pub put_of : Result ℕ ℕ → List ℕ → List ℕ
put_of (Ok count) commands = take count commands
put_of (Err count) commands = []

abbrev pub told_of : Result ℕ ℕ → List ℕ → List ℕ
told_of (Ok count) line = []
told_of (Err count) line = take count line

-- Nothing is refused, or something is.
abbrev pub Decided : List ℕ → Result ℕ ℕ → Type 0
Decided bytes (Ok count) = refusal_of bytes ≡ None
Decided bytes (Err count) = (r : Refusal) × (refusal_of bytes ≡ Some r)

-- What goes where is what belongs there.
pub record Told (bytes : List ℕ) (answer : Result ℕ ℕ) (commands line : List ℕ) : Type 0 where
  pub decided : Decided bytes answer
  pub to_output : put_of answer commands ≡ output_of bytes
  pub to_error : told_of answer line ≡ error_of bytes
  pub of_bytes : Bytes bytes
  pub output_within : IfOk answer (λ count. count ≤ length commands)
  pub error_within : IfErr answer (λ count. count ≤ length line)
