-- The query for shared counts, by document 02, change 2: "A new library query gives the entry for two camera bytes; a camera with itself counts its own
-- poses." Rests on the record of `Session` and the table of `refusal`.
use Rattle.std.specs.Prelude.{ℕ, ◌+◌, ◌*◌, not, ◌||◌, [], ◌∷◌, get_or, leb, Option, None, Some, Result, Err, Ok}
use Rattle.refusal.specs.Table.{refuse_if, first_of}
use Rattle.refusal.specs.declared.Refusal.{Refusal}
use Rattle.refusal.specs.declared.Refusal.TheVariants.{WrongLength, NoSize, OutsideRig}
use Rattle.shared_counts.specs.Summary.{entry_place}
use Rattle.session_record.specs.Session.{held_of, has_size, possible}
use Rattle.session_record.specs.declared.Session.{Session}

-- "Refusal 12 for a camera outside the sizes, after 5 and 21; detail is first camera × 256 + second."
unfoldable pub query_refusal : Session → ℕ → ℕ → Option Refusal
unfolding refuse_if first_of
query_refusal s a b =
    first_of
    (refuse_if (not (possible s)) WrongLength
    ∷ refuse_if (not (has_size (held_of s))) NoSize
    ∷ refuse_if (leb s.cameras a || leb s.cameras b) (OutsideRig (a * 256 + b))
    ∷ [])

-- What the query answers: a refusal, or the entry of the two cameras.
abbrev pub Shared : Type 0
Shared = Result ℕ Refusal

unfoldable pub shared_answer : Session → ℕ → ℕ → Shared
shared_answer s a b = elim (query_refusal s a b) [ Some r ↦ Err r | None ↦ Ok (get_or s.shared (entry_place a b) 0) ]
