-- The calls of `placer_step` that a caller makes on a stream, one after the other. Rests on what one call leaves, in `placer`.
use Rattle.std.specs.Prelude.{ℕ, ◌≡◌, true, false, List, [], ◌∷◌, replicate, Float}
use Rattle.claims_streams.specs.Stream.{Answer, ends_stream}
use Rattle.record_words.specs.Words.{record_words}
use Rattle.placer.specs.Step.{Stepped}
use Rattle.placer.specs.Reading.{reply_in}
use Rattle.claims_exports.specs.InHand.{answer_in}

-- Words, an offset, a buffer and both answers, and the answers that the calls from there on give: each call is made on the memory that the
-- one before it left, at the offset that it named, until a reply ends the stream ("5, 10, 11 and 13 end the stream", and so does its end).
pub data Steps (stream : List ℕ) : List ℕ → ℕ → List Float → List Float → List ℕ → List Answer → Type 0 where
  the_last : {words : List ℕ} {at : ℕ} {buffer first : List Float} {second : List ℕ} {r next : ℕ} {words' : List ℕ} {buffer' first' : List Float}
      {second' : List ℕ} → Stepped words stream at buffer first second r next words' buffer' first' second' → ends_stream (reply_in r) ≡ true
      → Steps stream words at buffer first second (answer_in r words' buffer' first' second' ∷ [])
  one_more : {words : List ℕ} {at : ℕ} {buffer first : List Float} {second : List ℕ} {r next : ℕ} {words' : List ℕ} {buffer' first' : List Float}
      {second' : List ℕ} {later : List Answer} → Stepped words stream at buffer first second r next words' buffer' first' second'
      → ends_stream (reply_in r) ≡ false → Steps stream words' next buffer' first' second' later
      → Steps stream words at buffer first second (answer_in r words' buffer' first' second' ∷ later)

-- "A fresh session is all zeros": as many as a record has words.
abbrev pub fresh_words : List ℕ
fresh_words = replicate record_words 0
