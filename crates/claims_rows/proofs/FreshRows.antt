-- A fresh session passes 5 (`possible-fresh`), so that of rows which begin with one the check of the record is not computed (`printed-fresh`). Assumes nothing.
use Prim.Native.Nat.{ℕ}
use mathlib.Core.Path.{◌≡◌, refl, ap, ap₂, ◌∙◌}
use mathlib.Core.Bool.{Bool}
use Rattle.std.specs.Prelude.{None, Some}
use mathlib.Core.List.{List, [], ◌∷◌}
use lib.ListN.{length}
use lib.Dec.{ltb}
use Rattle.refusal.specs.Table.{refuse_if, or_else, first_of}
use Rattle.refusal.specs.declared.Refusal.TheVariants.{TooLong, WrongLength}
use Rattle.session_commands.specs.Obeyed.{State}
use Rattle.session.specs.Call.{max_stream}
use Rattle.claims_streams.specs.Stream.{Answer, answer, contents_of, answers_of, stream_refusal, meaning}
use Rattle.claims_streams.proofs.Usable.{check_of_usable}
use Rattle.claims_printing.specs.Printed.{printed, fresh_state}
use Rattle.claims_printing.proofs.Loop.{fresh_usable}
use Rattle.claims_rows.specs.Rows.{Row, stream_of, all_printed}
use Rattle.std.specs.Prelude.{Err}

-- What a stream means from a fresh session: 13, or the answers.
unfoldable pub fresh_answers : List ℕ → List Answer
unfolding refuse_if first_of
fresh_answers stream =
    elim (first_of (refuse_if (ltb max_stream (length stream)) TooLong ∷ [])) [
      | Some r ↦ answer (Err r) fresh_state ∷ []
      | None ↦ answers_of fresh_state (contents_of stream)
    ]

pub meaning-fresh : (stream : List ℕ) → meaning fresh_state stream ≡ fresh_answers stream
unfolding fresh_answers meaning stream_refusal first_of refuse_if or_else
meaning-fresh stream =
    ap
    (λ (b : Bool).
    elim (first_of (refuse_if (ltb max_stream (length stream)) TooLong ∷ refuse_if b WrongLength ∷ [])) [
      | Some r ↦ answer (Err r) fresh_state ∷ []
      | None ↦ answers_of fresh_state (contents_of stream)
    ])
    (check_of_usable fresh_state fresh_usable)

-- Rows that all begin with a fresh session, and what is printed for them.
abbrev pub FromFresh : List Row → Type 0
FromFresh [] = Unit {0}
FromFresh (r ∷ later) = (r.before ≡ fresh_state) × FromFresh later

unfoldable pub fresh_printed : List Row → List (List ℕ)
unfolding fresh_answers
fresh_printed [] = []
fresh_printed (r ∷ later) = printed (fresh_answers (stream_of r.steps)) ∷ fresh_printed later

pub printed-fresh : (rows : List Row) → FromFresh rows → all_printed rows ≡ fresh_printed rows
unfolding all_printed fresh_printed
printed-fresh [] from = refl
printed-fresh (r ∷ later) (same, from) =
    ap₂ (λ (l : List Answer) (m : List (List ℕ)). printed l ∷ m)
    (ap (λ (t : State). meaning t (stream_of r.steps)) same ∙ meaning-fresh (stream_of r.steps))
    (printed-fresh later from)
