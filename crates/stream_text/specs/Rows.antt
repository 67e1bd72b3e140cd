-- Lengths of a stream and of the text that is lent for it, beside the number and the detail that refuse the text, worked out by hand: 10,139 bytes hold every
-- reply, and "a stream longer than 65,536 bytes" is 13, before 5. Limits and lengths are written as numbers, not by the names that the definitions use. Where
-- code and definition change together, the rows hold the definition, at these numbers alone. Rests on the definitions of `StreamText`.
use Rattle.std.specs.Prelude.{ℕ, List, [], ◌∷◌, replicate}
use Rattle.std.specs.Prelude.{Option, None, Some}
use Rattle.refusal.specs.Table.{number_of, detail_of}
use Rattle.refusal.specs.declared.Refusal.{Refusal}
use Rattle.stream_text.specs.StreamText.{text_refusal}

-- So many bytes of a stream and of text, and what refuses the text: number and detail, or nothing.
pub record Row : Type 0 where
  pub stream : ℕ
  pub room : ℕ
  pub refused : List ℕ

abbrev pub row : ℕ → ℕ → List ℕ → Row
row stream room refused = record { stream = stream; room = room; refused = refused }

unfoldable pub told : Option Refusal → List ℕ
told None = []
told (Some r) = number_of r ∷ detail_of r ∷ []

-- Of streams of nothing but Solve; and as the rows say.
unfoldable pub all_refused : List Row → List (List ℕ)
unfolding told text_refusal
all_refused [] = []
all_refused (r ∷ later) = told (text_refusal (replicate r.stream 3) r.room) ∷ all_refused later

unfoldable pub all_said : List Row → List (List ℕ)
all_said [] = []
all_said (r ∷ later) = r.refused ∷ all_said later

-- The last stream that is not too long and the first that is, each with one byte of text too few and with enough; then no text at all, and far more than
-- enough.
unfoldable pub rows : List Row
rows =
    row 65536 10138 (5 ∷ 0 ∷ [])
    ∷ row 65537 10138 (13 ∷ 0 ∷ [])
    ∷ row 65536 10139 []
    ∷ row 65537 10139 []
    ∷ row 0 0 (5 ∷ 0 ∷ [])
    ∷ row 65537 0 (13 ∷ 0 ∷ [])
    ∷ row 0 65536 []
    ∷ []
