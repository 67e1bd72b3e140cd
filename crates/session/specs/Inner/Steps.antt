-- What the functions of the code promise each other, beside the definitions of `Call`. Assumes nothing.
use Rattle.std.specs.Prelude.{ℕ, List, Float}
use Rattle.session_commands.specs.Obeyed.{Result, result, state}
use Rattle.session.specs.declared.Step.{Step}

-- The answer of `obey`, and what then stands in the memory lent to it, as one result.
abbrev pub result_of : Step → List Float → List Float → List ℕ → Result
result_of s buffer first second = result s.reply (state s.session buffer first second) s.next
