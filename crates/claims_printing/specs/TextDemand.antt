-- What the whole-stream entry refuses of the text that is lent to it, in words: by which number, with which detail, and in which order; and what it leaves
-- then. Rests on the checks of `Deciding`, in `claims_direct`, on the limits of a stream and of a listing, and on the entry's own answer.
use Rattle.std.specs.Prelude.{ℕ, ◌≤◌, ◌<◌, ◌≡◌, ◌↔◌, List, [], ◌∷◌, length, Float}
use Rattle.refusal.specs.Table.{number_of, detail_of}
use Rattle.refusal.specs.declared.Refusal.{Refusal}
use Rattle.inputs.specs.Inputs.{Checked}
use Rattle.claims_direct.specs.Deciding.{Check, plain, Decides}
use Rattle.session_commands.specs.Obeyed.{State}
use Rattle.session.specs.Call.{max_stream}
use Rattle.listing.specs.Listing.{listing_bytes}
use Rattle.stream_text.specs.declared.StreamText.{StreamText}
use Rattle.std.specs.Prelude.{Err, Ok}

-- The text has fewer bytes than the longest reply may take.
abbrev pub TooShort : List ℕ → Type 0
TooShort text = length text < listing_bytes

-- "Each call checks 13, then 5, before all else": 13 is "a stream longer than 65,536 bytes", 5 "an answer is too short".
abbrev pub text_checks : List ℕ → List ℕ → List Check
text_checks stream text = plain 13 (TooShort text × (max_stream < length stream)) ∷ plain 5 (TooShort text) ∷ []

-- Refused by a number of the table, with a detail.
abbrev pub RefusedWith : Checked → ℕ → ℕ → Type 0
RefusedWith c n d = (q : Refusal) × (c ≡ Err q) × (number_of q ≡ n) × (detail_of q ≡ d)

-- Record, buffer, both answers and every byte of the text are as they were. "5, 10, 11 and 13 end the stream: the next offset is then its length."
pub record NothingObeyed (t : State) (stream : List ℕ) (answer : StreamText) (buffer first : List Float) (second old new : List ℕ) : Type 0 where
  pub same_session : answer.session ≡ t.session
  pub same_buffer : buffer ≡ t.buffer
  pub same_first : first ≡ t.first
  pub same_second : second ≡ t.second
  pub same_text : new ≡ old
  pub next_at_end : answer.next ≡ length stream
  pub none_in_use : answer.length ≡ 0

-- What is demanded of one call of the entry in a state, on a stream: `old` is the text that was lent, and `new` what then stands there.
pub record TextDemand (t : State) (stream : List ℕ) (answer : StreamText) (buffer first : List Float) (second old new : List ℕ) : Type 0 where
  -- By number n and detail d exactly when the words of n say so, and no words before them say anything.
  pub refused_exactly : (n d : ℕ) → RefusedWith answer.refused n d ↔ Decides (text_checks stream old) n d
  -- Text that is long enough passes, and no other does.
  pub passed_exactly : (answer.refused ≡ Ok tt) ↔ (listing_bytes ≤ length old)
  pub refusal_changes_nothing : (n d : ℕ) → RefusedWith answer.refused n d → NothingObeyed t stream answer buffer first second old new
