-- How long the fields of a refusal are at most. Assumes nothing.
use Rattle.std.specs.Prelude.{ℕ, ◌+◌, ◌*◌}

-- A blank and ten digits: a refusal's number or detail.
abbrev pub number_bytes : ℕ
number_bytes = 11

-- A refusal's line.
abbrev pub refusal_bytes : ℕ
refusal_bytes = 2 + 2 * number_bytes + 1
