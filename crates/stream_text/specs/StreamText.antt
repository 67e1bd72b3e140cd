-- A stream obeyed from an offset on, command after command, with what it prints put into lent text of so many bytes, as far as the text surely
-- holds it. Rests on one call of the session, and on the lines of `listing`.
use Rattle.std.specs.Prelude.{ℕ, zero, suc, ◌-◌, ◌≡◌, ◌&&◌, cond, List, [], ◌++◌, length, leb, ltb, Float}
use Rattle.std.specs.Prelude.{Option, None, Some}
use Rattle.refusal.specs.declared.Refusal.{Refusal}
use Rattle.refusal.specs.declared.Refusal.TheVariants.{TooLong, WrongLength}
use Rattle.inputs.specs.Inputs.{checked_of}
use Rattle.session_commands.specs.Obeyed.{State}
use Rattle.session.specs.Call.{max_stream, call_refusal, call}
use Rattle.listing.specs.Listing.{refusal_line, listing_bytes, printed_by}
use Rattle.listing.specs.Writing.{Front}
use Rattle.stream_text.specs.declared.StreamText.{StreamText}

-- How far a stream was obeyed: what then stands in the record, the buffer and both answers, where the next command begins, and what was printed.
pub record Part : Type 0 where
  pub after : State
  pub next : ℕ
  pub text : List ℕ

abbrev pub part : State → ℕ → List ℕ → Part
part t n l = record { after = t; next = n; text = l }

-- A part that something was printed before.
abbrev pub behind : List ℕ → Part → Part
behind text p = part p.after p.next (text ++ p.text)

-- While a command is left, and the room surely holds its reply: what the call there prints, and then the same from the state that it leaves, the offset
-- that it names and the room that is left. At most so many calls.
unfoldable pub part_within : ℕ → State → List ℕ → ℕ → ℕ → Part
part_within zero t stream at room = part t at []
part_within (suc most) t stream at room =
    let r = call t stream at in
    cond (ltb at (length stream) && leb listing_bytes room)
    (behind (printed_by r) (part_within most r.after stream r.next (room - length (printed_by r))))
    (part t at [])

-- What every call checks before all else is told at once, and ends the stream; each command takes a byte or more, so that the stream's length is
-- enough calls.
unfoldable pub part_from : State → List ℕ → ℕ → ℕ → Part
part_from t stream at room =
    elim (call_refusal t stream at) [ Some r ↦ part t (length stream) (refusal_line r) | None ↦ part_within (length stream) t stream at room ]

-- Text that may not hold every reply is refused before anything is obeyed: with 5, as an answer that is too short, behind 13.
unfoldable pub text_refusal : List ℕ → ℕ → Option Refusal
text_refusal stream room = cond (leb listing_bytes room) None (Some (cond (ltb max_stream (length stream)) TooLong WrongLength))

-- "5, 10, 11 and 13 end the stream: the next offset is then its length."
unfoldable pub part_in : State → List ℕ → ℕ → ℕ → Part
part_in t stream at room = elim (text_refusal stream room) [ Some r ↦ part t (length stream) [] | None ↦ part_from t stream at room ]

-- The code's answer, and the memory lent to it, are those of a part: its text stands at the front of `new`, and `old` beyond it.
pub record Leaves (p : Part) (answer : StreamText) (buffer first : List Float) (second old new : List ℕ) : Type 0 where
  pub session : answer.session ≡ p.after.session
  pub buffer_after_is : buffer ≡ p.after.buffer
  pub first_after_is : first ≡ p.after.first
  pub second_after_is : second ≡ p.after.second
  pub next : answer.next ≡ p.next
  pub front : Front old p.text new answer.length

-- One call of the entry: what it refuses of the text, and what it leaves.
pub record ObeyedInto (t : State) (stream : List ℕ) (at : ℕ) (answer : StreamText) (buffer first : List Float) (second old new : List ℕ) : Type 0 where
  pub refused : answer.refused ≡ checked_of (text_refusal stream (length old))
  pub leaves : Leaves (part_in t stream at (length old)) answer buffer first second old new
