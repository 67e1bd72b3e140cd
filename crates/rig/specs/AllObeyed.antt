-- A whole stream obeyed by the program's loop. Rests on what a stream means, in `claims_streams`, and on what it prints, in `claims_printing`.
use Rattle.std.specs.Prelude.{ℕ, ◌≡◌, List, length, Float}
use Rattle.session_commands.specs.Obeyed.{State, state}
use Rattle.claims_streams.specs.Stream.{last_state, meaning}
use Rattle.claims_printing.specs.Printed.{printed}
use Rattle.rig.specs.declared.Obeyed.{Obeyed}

-- The record, the buffer and both answers are in the end those of the stream's meaning, and as many bytes were written as that prints.
pub record AllObeyed (t : State) (stream : List ℕ) (answer : Obeyed) (buffer first : List Float) (second : List ℕ) : Type 0 where
  pub left : state answer.session buffer first second ≡ last_state t (meaning t stream)
  pub bytes_written : answer.bytes ≡ length (printed (meaning t stream))
