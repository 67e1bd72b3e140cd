-- What a caller reads in a reply, as include/placer.h has it: the number of a refusal in its upper 32 bits and the detail in its lower,
-- and so the outcome of the direct call, what the session replies, what the query answers, or what packed frames came to. Then what the replies of `placer_estimate` and `placer_step` are in
-- terms of the direct call and of the session's call. Rests on the table of refusals and on both calls.
use Rattle.std.specs.Prelude.{ℕ, ◌*◌, ◌/◌, ◌%◌, ◌^◌, ◌≤◌, ◌<◌, ◌≡◌, cond, List, [], ◌∷◌, length, eqb, ltb, Float, Err, Ok}
use Rattle.refusal.specs.Table.{number_of}
use Rattle.refusal.specs.declared.Refusal.{Refusal}
use Rattle.refusal.specs.declared.Refusal.TheVariants.{InsufficientData, TooMany, InvalidReference, CountDiffers, WrongLength, BadMark, NotFinite, Unreached, EmptyView, UnknownCommand, Truncated, OutsideRig, TooLong, BrokenFrame, TooManyFrames, NoSize, SizeAgain, HeldAlready, NotHeld}
use Rattle.extrinsics.specs.Direct.{Direct}
use Rattle.extrinsics.specs.Outcome.{Outcome}
use Rattle.session_commands.specs.Obeyed.{State}
use Rattle.session.specs.Call.{call, max_stream}
use Rattle.session_commands.specs.Reply.{Reply}
use Rattle.shared_query.specs.Query.{Shared}
use Rattle.telemetry.specs.Frames.{Imported}
use Rattle.record_words.specs.Words.{words_of}
use Rattle.placer.specs.Code.{code_of_outcome, code_of_reply}
use Rattle.session_commands.specs.declared.Done.TheVariants.{Accepted, End, Solved}

abbrev pub number_in : ℕ → ℕ
number_in r = r / 2 ^ 32

abbrev pub detail_in : ℕ → ℕ
detail_in r = r % 2 ^ 32

-- The cases of the table, with that detail where they name one.
abbrev pub refusals_with : ℕ → List Refusal
refusals_with detail =
    InsufficientData
    ∷ TooMany
    ∷ InvalidReference
    ∷ CountDiffers detail
    ∷ WrongLength
    ∷ BadMark detail
    ∷ NotFinite detail
    ∷ Unreached detail
    ∷ EmptyView detail
    ∷ UnknownCommand detail
    ∷ Truncated detail
    ∷ OutsideRig detail
    ∷ TooLong
    ∷ BrokenFrame
    ∷ TooManyFrames
    ∷ NoSize
    ∷ SizeAgain
    ∷ HeldAlready detail
    ∷ NotHeld detail
    ∷ []

-- The one of these with that number; for a number that the table does not have, any.
unfoldable pub with_number : ℕ → List Refusal → Refusal
with_number number [] = WrongLength
with_number number (q ∷ later) = cond (eqb (number_of q) number) q (with_number number later)

abbrev pub refusal_in : ℕ → Refusal
refusal_in r = with_number (number_in r) (refusals_with (detail_in r))

-- What the direct call came to, by the reply of `placer_estimate`.
unfoldable pub outcome_in : ℕ → Outcome
unfolding with_number
outcome_in r = cond (eqb r 0) (Ok tt) (Err (refusal_in r))

-- What the session replied, by the reply of `placer_step`.
unfoldable pub reply_in : ℕ → Reply
unfolding with_number
reply_in r = cond (eqb r 0) (Ok End) (cond (eqb r 1) (Ok Accepted) (cond (eqb r 2) (Ok Solved) (Err (refusal_in r))))

-- What the query answered, by the reply of `placer_shared`.
unfoldable pub shared_in : ℕ → Shared
unfolding with_number
shared_in r = cond (ltb r (2 ^ 32)) (Ok r) (Err (refusal_in r))

-- What packed frames came to, by the reply of `placer_frames`.
unfoldable pub imported_in : ℕ → Imported
unfolding with_number
imported_in r = cond (ltb r (2 ^ 32)) (Ok r) (Err (refusal_in r))

-- A reply of `placer_estimate` is the direct call's: some outcome of it, and both answers as that call leaves them. The reply is the
-- outcome's number, and the outcome is read back from it.
pub record DirectReply (counts marks : List ℕ) (floats : List Float) (reference : ℕ) (first : List Float) (second : List ℕ) (r : ℕ) (first' : List Float) (second' : List ℕ) : Type 0 where
  pub outcome : Outcome
  pub direct : Direct counts marks floats reference first second outcome first' second'
  pub reply : r ≡ code_of_outcome outcome
  pub read_back : outcome_in r ≡ outcome

-- A reply of `placer_step` is the session's, of the call at that offset in that state: the call's reply as one number, its next offset, its
-- record as words, and the buffer and both answers as it leaves them.
pub record CallReply (t : State) (stream : List ℕ) (at : ℕ) (r next : ℕ) (words' : List ℕ) (buffer' first' : List Float) (second' : List ℕ) : Type 0 where
  pub reply : r ≡ code_of_reply (call t stream at).reply
  pub next-is : next ≡ (call t stream at).next
  pub words_after_is : words' ≡ words_of (call t stream at).after.session
  pub buffer_after_is : buffer' ≡ (call t stream at).after.buffer
  pub first_after_is : first' ≡ (call t stream at).after.first
  pub second_after_is : second' ≡ (call t stream at).after.second

-- A reply of `placer_step` to words that are no record: 13 for too long a stream and 5 for any other, the stream's length as the next
-- offset, and nothing changed.
pub record NoRecordReply (words stream : List ℕ) (buffer first : List Float) (second : List ℕ) (r next : ℕ) (words' : List ℕ) (buffer' first' : List Float) (second' : List ℕ) : Type 0 where
  pub too_long : max_stream < length stream → r ≡ 13 * 2 ^ 32
  pub any_other : length stream ≤ max_stream → r ≡ 5 * 2 ^ 32
  pub next-is : next ≡ length stream
  pub same_words : words' ≡ words
  pub same_buffer : buffer' ≡ buffer
  pub same_first : first' ≡ first
  pub same_second : second' ≡ second
