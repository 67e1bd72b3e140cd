-- Whole streams obeyed with what they print in lent text: one step of it, and what is answered. Rests on what a whole stream prints, in `claims_printing`, what is refused of the
-- text, in `stream_text`, and the replies of `placer`.
use Rattle.std.specs.Prelude.{◌≡◌, ℕ, ◌+◌, ◌%◌, ◌^◌, ◌≤◌, ◌<◌, List, length}
use Rattle.std.specs.Prelude.{None, Some}
use Rattle.refusal.specs.declared.Refusal.{Refusal}
use Rattle.session_commands.specs.Obeyed.{State}
use Rattle.claims_streams.specs.Stream.{meaning}
use Rattle.stream_text.specs.StreamText.{text_refusal}
use Rattle.claims_printing.specs.Printed.{printed, meaning_from, fresh_state}
use Rattle.placer.specs.Code.{code_of}

-- How many bytes a whole stream prints from a state on, in 64 bits.
unfoldable pub printed_bytes : State → List ℕ → ℕ
printed_bytes t stream = length (printed (meaning t stream)) % 2 ^ 64

-- How many bytes are printed from an offset on, until the stream's end.
unfoldable pub bytes_from : State → List ℕ → ℕ → ℕ
bytes_from t stream at = length (printed (meaning_from t stream at))

-- One step from an offset on, to a state and the next offset: where commands are left, those bytes are as many as it printed and are still to come.
pub record Took (t : State) (stream : List ℕ) (at : ℕ) (after : State) (next many : ℕ) : Type 0 where
  pub advances : next < length stream → at < next
  pub goes_on : next < length stream → many + bytes_from after stream next ≡ bytes_from t stream at
  pub ends : length stream ≤ next → many ≡ bytes_from t stream at

-- The reply r, and the lent text after it. Text that is too short is refused, and left as it is.
pub record Printed (stream old : List ℕ) (r : ℕ) (new : List ℕ) : Type 0 where
  pub refused : (e : Refusal) → text_refusal stream (length old) ≡ Some e → (r ≡ code_of e) × (new ≡ old)
  pub counted : text_refusal stream (length old) ≡ None → r ≡ printed_bytes fresh_state stream
