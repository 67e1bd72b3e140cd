-- The bytes that a whole stream prints, step by step: what a step prints and what is still to come make up what was to come before it. Rests on the turns of
-- `claims_printing`. Assumes nothing.
use Rattle.std.proofs.Common.{◌≡◌, ℕ, ◌+◌, ◌-◌, ◌%◌, ◌^◌, ◌≤◌, List, ◌++◌, length, zero-add, sym, refl, ap, ◌∙◌, arith, length-append, le-leb}
use lib.Ieee.{Float}
use Rattle.session_record.specs.Session.{held_of}
use Rattle.session_record.specs.declared.Held.{Held}
use Rattle.session_commands.specs.Obeyed.{State, state}
use Rattle.session.specs.Call.{call, Called}
use Rattle.session.specs.declared.Step.{Step}
use Rattle.putting.specs.Putting.{Put}
use Rattle.listing.specs.Listing.{listing_bytes, written, printed_by}
use Rattle.listing.proofs.WrittenCalls.{written-call}
use Rattle.stream_text.specs.StreamText.{Part, ObeyedInto}
use Rattle.stream_text.specs.declared.StreamText.{StreamText}
use Rattle.claims_printing.proofs.Loop.{at_end_from, meaning_from_beginning, OneRound, round_of}
use Rattle.test_calls.proofs.Turns.{round_of_call}
use Rattle.test_probe.specs.Streams.{printed_bytes, bytes_from, Took}

-- A turn is a step from its offset on, if as many bytes are counted as it prints.
pub took : {t : State} {stream : List ℕ} {at : ℕ} {p : Part} {many : ℕ} → OneRound t stream at p → many ≡ length p.text → Took t stream at p.after p.next many
unfolding bytes_from
took {t} {stream} {at} {p} {many} round long =
    let whole = ap (λ (q : Part). length q.text) (at_end_from t stream at) in
    record {
      advances = round.advances;
      goes_on = λ inside.
          ap (λ (n : ℕ). n + bytes_from p.after stream p.next) long
          ∙ sym (length-append p.text _)
          ∙ ap (λ (q : Part). length (p.text ++ q.text)) (sym (at_end_from p.after stream p.next))
          ∙ ap (λ (q : Part). length q.text) (round.goes_on inside)
          ∙ whole;
      ends = λ past. long ∙ ap (λ (q : Part). length q.text) (round.ends past) ∙ whole;
    }

-- At the beginning all that the stream prints is still to come.
pub counts_whole : (t : State) (stream : List ℕ) → (0 + bytes_from t stream 0) % 2 ^ 64 ≡ printed_bytes t stream
unfolding bytes_from printed_bytes
counts_whole t stream = rw (meaning_from_beginning t stream, zero-add) refl

-- ---- a step, from what the code's functions promise

pub took_part : {t : State} {stream : List ℕ} {at : ℕ} {answer : StreamText} {buffer first : List Float} {second old new : List ℕ} → ObeyedInto t stream at answer buffer first second old new
    → listing_bytes ≤ length old → Took t stream at (state answer.session buffer first second) answer.next answer.length
took_part o holds = took (round_of holds o) o.leaves.front.text_length

module _ {t : State} {stream : List ℕ} {at : ℕ} {step : Step} {buffer first : List Float} {second : List ℕ} (called : Called t stream at step buffer first second) where
  pub written-whole : {h : Held} → h ≡ held_of step.session → (room : ℕ) → listing_bytes ≤ room
      → written step.reply h first second room ≡ printed_by (call t stream at)
  written-whole same room holds =
      rw (same, called.reply, called.session, called.first_after_is, called.second_after_is)
      (written-call t stream at room ∙ rw (le-leb listing_bytes room holds) refl)

  -- Where the text may hold any reply, as many bytes are put as the call prints.
  pub took_command : {h : Held} {old new : List ℕ} {from next : ℕ} → Put old from (written step.reply h first second (length old - from)) new next
      → h ≡ held_of step.session → from + listing_bytes ≤ length old → Took t stream at (state step.session buffer first second) step.next (next - from)
  took_command {h} {old} {new} {from} {next} put same holds =
      took (round_of_call called) (omega (arith, put.behind, ap length (written-whole same (length old - from) (omega arith))))
