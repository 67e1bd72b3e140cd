-- One call of the session in a loop over calls, from what the code's `obey` promises. Rests on the turns of `claims_printing`. Assumes nothing.
use Rattle.std.proofs.Common.{◌≡◌, ℕ, ◌≤◌, ◌<◌, List, length, sym, ap, ◌∙◌}
use lib.Ieee.{Float}
use Rattle.session_commands.specs.Obeyed.{State, state}
use Rattle.session.specs.Call.{call, Called}
use Rattle.session.specs.declared.Step.{Step}
use Rattle.listing.specs.Listing.{printed_by}
use Rattle.stream_text.specs.StreamText.{Part, part}
use Rattle.claims_streams.specs.Stream.{last_state}
use Rattle.claims_printing.specs.Printed.{meaning_from}
use Rattle.claims_printing.proofs.Loop.{at_end_from, OneRound, one-call}

-- What the calls from an offset on leave in the end.
abbrev pub left_from : State → List ℕ → ℕ → State
left_from t stream at = last_state t (meaning_from t stream at)

module _ {t : State} {stream : List ℕ} {at : ℕ} {step : Step} {buffer first : List Float} {second : List ℕ} (called : Called t stream at step buffer first second) where
  pub round_of_call : OneRound t stream at (part (state step.session buffer first second) step.next (printed_by (call t stream at)))
  round_of_call =
      rw (called.session, called.buffer_after_is, called.first_after_is, called.second_after_is, called.next) (one-call t stream at)

  pub call_leaves : step.next < length stream → left_from (state step.session buffer first second) stream step.next ≡ left_from t stream at
  call_leaves inside =
      ap (λ (p : Part). p.after) (sym (at_end_from _ stream step.next))
      ∙ ap (λ (p : Part). p.after) (round_of_call.goes_on inside)
      ∙ ap (λ (p : Part). p.after) (at_end_from t stream at)

  pub call_ends : length stream ≤ step.next → state step.session buffer first second ≡ left_from t stream at
  call_ends past = ap (λ (p : Part). p.after) (round_of_call.ends past ∙ at_end_from t stream at)
