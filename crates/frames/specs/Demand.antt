-- What is demanded of the program in words, with the lines' bytes and sizes as numbers: document 02, change 3, and document 01 for a refusal's line, `no`, number, detail. Rests on the words for the
-- import, in `claims_telemetry`.
use Rattle.std.specs.Prelude.{ℕ, ◌*◌, ◌≤◌, ◌<◌, ◌≡◌, List, [], ◌∷◌, ◌++◌, length, Option, Some}
use Rattle.telemetry.specs.Frames.{Bytes}
use Rattle.claims_telemetry.specs.Import.{CommandsOfFrames}

-- For all bytes of an input, what goes to standard output and to standard error: the line `no 14 0`, or the line `no 15 0`, and no commands; or the commands, and no line. The three cases are all
-- there are.
pub record FramesDemand (bytes output error : List ℕ) : Type 0 where
  pub no_multiple : ((n : ℕ) → length bytes ≡ 30 * n → ⊥) → (output ≡ []) × (error ≡ 110 ∷ 111 ∷ 32 ∷ 49 ∷ 52 ∷ 32 ∷ 48 ∷ 10 ∷ [])
  pub too_many : (n : ℕ) → length bytes ≡ 30 * n → 1024 < n → (output ≡ []) × (error ≡ 110 ∷ 111 ∷ 32 ∷ 49 ∷ 53 ∷ 32 ∷ 48 ∷ 10 ∷ [])
  pub turned : Bytes bytes → (n : ℕ) → length bytes ≡ 30 * n → n ≤ 1024 → CommandsOfFrames bytes n output × (error ≡ [])

-- A run over memory, where nothing fails: all that the input had left, and what both outputs held before and hold then.
pub record RunDemand (input output error : List ℕ) (output' error' : Option (List ℕ)) : Type 0 where
  pub commands : List ℕ
  pub line : List ℕ
  pub output_is : output' ≡ Some (output ++ commands)
  pub error_is : error' ≡ Some (error ++ line)
  pub demand : FramesDemand input commands line
  pub of_bytes : length input ≤ 30720 → Bytes input
