-- What a caller of `placer_step` has in hand: the state that lent words, buffer and answers are, and the answer that they and the reply
-- then are. Rests on the replies of `placer` and the answers of `claims_streams`.
use Rattle.std.specs.Prelude.{ℕ, ◌<◌, List, get_or, Float}
use Rattle.session_commands.specs.Obeyed.{State, state}
use Rattle.claims_streams.specs.Stream.{Answer, answer}
use Rattle.record_words.specs.Words.{session_in}
use Rattle.placer.specs.Reading.{reply_in}

abbrev pub state_in : List ℕ → List Float → List Float → List ℕ → State
state_in words buffer first second = state (session_in words) buffer first second

abbrev pub answer_in : ℕ → List ℕ → List Float → List Float → List ℕ → Answer
answer_in r words buffer first second = answer (reply_in r) (state_in words buffer first second)

-- A stream's elements are bytes.
abbrev pub Bytes : List ℕ → Type 0
Bytes stream = (i : ℕ) → get_or stream i 0 < 256
