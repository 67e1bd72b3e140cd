-- What is printed for a whole stream: the texts of the stream's answers; and what calls of the whole-stream entry, one after the other, leave and print.
-- Rests on what a stream means, in `claims_streams`, on what a reply prints, in `listing`, and on one call of the entry, in `stream_text`.
use Rattle.std.specs.Prelude.{ℕ, zero, suc, ◌≡◌, cond, List, [], ◌∷◌, ◌++◌, length, replicate, ltb, Float}
use Rattle.std.specs.Prelude.{None, Some}
use Rattle.arithmetic.specs.Double.{Zero}
use Rattle.session_record.specs.Session.{fresh, buffer_length}
use Rattle.session_commands.specs.Obeyed.{State, state, first_length, second_length}
use Rattle.session.specs.Call.{max_stream, call_refusal}
use Rattle.claims_streams.specs.Stream.{rest_of, Answer, answer, last_state, answers_of, meaning}
use Rattle.claims_streams.specs.Alike.{AlikeSince}
use Rattle.listing.specs.Listing.{printed_text}
use Rattle.stream_text.specs.StreamText.{Part, part, behind, part_in}
use Rattle.std.specs.Prelude.{Err}

-- What answers print, one after the other.
unfoldable pub printed : List Answer → List ℕ
printed [] = []
printed (a ∷ later) = printed_text a.reply a.after ++ printed later

-- What a whole stream leaves and prints: the last of its answers' states, and their texts.
abbrev pub whole_of : State → List ℕ → Part
whole_of t stream = part (last_state t (meaning t stream)) (length stream) (printed (meaning t stream))

-- What a stream means from an offset on: 13, 5, or 11 for an offset past the end, "detail the length"; or the answers to the commands from there, and then
-- how the stream ends.
unfoldable pub meaning_from : State → List ℕ → ℕ → List Answer
meaning_from t stream at = elim (call_refusal t stream at) [ Some r ↦ answer (Err r) t ∷ [] | None ↦ answers_of t (rest_of stream at) ]

-- What is left and printed from there on.
abbrev pub whole_from : State → List ℕ → ℕ → Part
whole_from t stream at = part (last_state t (meaning_from t stream at)) (length stream) (printed (meaning_from t stream at))

-- The entry called again and again, the i-th time with text of `rooms i` bytes, until the next offset is the stream's end: what is left then, and all
-- that was printed. At most so many calls after the first.
unfoldable pub rounds_from : ℕ → (ℕ → ℕ) → State → List ℕ → ℕ → Part
rounds_from zero rooms t stream at = part_in t stream at (rooms 0)
rounds_from (suc most) rooms t stream at =
    let p = part_in t stream at (rooms 0) in
    cond (ltb p.next (length stream)) (behind p.text (rounds_from most (λ i. rooms (suc i)) p.after stream p.next)) p

-- Two such parts that tell the same: the same next offset and the same text, and states that differ in floats of cells that are not held alone.
pub record PartsAlike (b b' : List Float) (p p' : Part) : Type 0 where
  pub same_next : p.next ≡ p'.next
  pub same_text : p.text ≡ p'.text
  pub alike_after : AlikeSince b b' p.after p'.after

-- What `rig` begins with: a fresh session, and zeros in the buffer and in both answers.
abbrev pub fresh_state : State
fresh_state = state fresh (replicate buffer_length Zero) (replicate first_length Zero) (replicate second_length 0)

-- How many bytes of its input `rig` reads at most: one more than a stream may have.
abbrev pub input_bytes : ℕ
input_bytes = suc max_stream
