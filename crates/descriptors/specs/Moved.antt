-- Counts of bytes that calls moved. Assumes nothing.
use Rattle.std.specs.Prelude.{ℕ, ◌≡◌, ◌≢◌, List, length, IfOk, Result}
use Rattle.io.specs.Counts.{IsPrefixLen}
use Rattle.std.specs.declared.io.Error.{Error}
use Rattle.std.specs.declared.io.ErrorKind.TheVariants.{Interrupted, WouldBlock}
use Rattle.std.specs.IoError.{error_kind}

-- A failure that is told: the call was not interrupted, and did not find the stream not ready.
abbrev pub IsTold : Error → Type 0
IsTold error = (error_kind error ≢ Interrupted) × (error_kind error ≢ WouldBlock)

-- Bytes that were read stand at the memory's front.
abbrev pub ReadWithin : Result ℕ Error → List ℕ → Type 0
ReadWithin answer memory = IfOk answer (λ n. IsPrefixLen n memory)

-- Bytes that were written whole are as many as there are.
abbrev pub WrittenWhole : Result ℕ Error → List ℕ → Type 0
WrittenWhole answer bytes = IfOk answer (λ n. n ≡ length bytes)
