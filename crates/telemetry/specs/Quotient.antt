-- The numbers of a packed frame, by document 02, change 3: words of 32 bits as signed counts, and counts divided. "Each translation is the nearest double to the
-- count divided by 1,000,000, and each rotation number is exact; a zero word gives plus zero." That `quotient` is this, said of the exact quotient alone, is
-- claims_telemetry's. Assumes nothing.
use Rattle.std.specs.Prelude.{ℕ, suc, ◌^◌, true, false, cond, ltb, ℤ, pos, negsuc, Float}
use Rattle.std.specs.Float.{binary64}
use Rattle.std.specs.Float.Ieee.{minus, round}

-- A word of 32 bits as a signed number: from 2 ^ 31 on it stands for 2 ^ 32 less.
unfoldable pub count_of : ℕ → ℤ
count_of word = cond (ltb word (2 ^ 31)) (pos word) (minus word (2 ^ 32))

-- A count divided, rounded once, with the count's sign. `negsuc n` is −(n + 1).
unfoldable pub quotient : ℤ → ℕ → Float
quotient (pos n) divisor = round binary64 false n divisor
quotient (negsuc n) divisor = round binary64 true (suc n) divisor

-- Micrometres in a metre, and units of 2 to the −30 in one.
abbrev pub micrometres : ℕ
micrometres = 1000000

abbrev pub rotation_units : ℕ
rotation_units = 2 ^ 30
