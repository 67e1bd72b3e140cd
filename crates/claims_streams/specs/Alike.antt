-- What floats of cells that are not held can change: nothing but themselves. States that differ in such floats alone, and answers and calls that
-- differ in no more. Rests on one call in `Call` and the answers of `Stream`.
use Rattle.std.specs.Prelude.{ℕ, ◌+◌, ◌*◌, ◌<◌, ◌≡◌, true, List, [], ◌∷◌, length, get_or, Float}
use Rattle.std.specs.Float.{nan}
use Rattle.limits.specs.Limits.{max_cameras}
use Rattle.lists.specs.Masks.{in_mask}
use Rattle.session_commands.specs.Obeyed.{State, Result}
use Rattle.session.specs.Call.{call}
use Rattle.claims_streams.specs.Stream.{Answer}

-- ---- states

-- Two buffers have the same floats in every cell that these masks hold.
abbrev pub SameHeld : List ℕ → List Float → List Float → Type 0
SameHeld masks b b' =
    (v c : ℕ) → c < max_cameras → in_mask (get_or masks c 0) v ≡ true
    → (k : ℕ) → k < 7 → get_or b (7 * (v * 16 + c) + k) nan ≡ get_or b' (7 * (v * 16 + c) + k) nan

-- Two states that differ in nothing but floats of cells that are not held. Sixteen masks are what the record's type says.
pub record Alike (t t' : State) : Type 0 where
  pub sixteen : length t.session.masks ≡ max_cameras
  pub same_session : t.session ≡ t'.session
  pub same_first : t.first ≡ t'.first
  pub same_second : t.second ≡ t'.second
  pub same_length : length t.buffer ≡ length t'.buffer
  pub same_held : SameHeld t.session.masks t.buffer t'.buffer

-- The buffers a and a' differ at no place where b and b', which stood before them, did not: every difference left is an old one.
abbrev pub NoNewDifference : List Float → List Float → List Float → List Float → Type 0
NoNewDifference b b' a a' = (i : ℕ) → get_or b i nan ≡ get_or b' i nan → get_or a i nan ≡ get_or a' i nan

-- States alike, without a new difference since the buffers were b and b'.
pub record AlikeSince (b b' : List Float) (t t' : State) : Type 0 where
  pub alike : Alike t t'
  pub no_new_difference : NoNewDifference b b' t.buffer t'.buffer

-- ---- answers and calls

-- Answer for answer: the same reply, and such states after it.
pub data AnswersAlike (b b' : List Float) : List Answer → List Answer → Type 0 where
  no_answers : AnswersAlike b b' [] []
  one_answer : {a a' : Answer} {later later' : List Answer} → a.reply ≡ a'.reply → AlikeSince b b' a.after a'.after
      → AnswersAlike b b' later later' → AnswersAlike b b' (a ∷ later) (a' ∷ later')

-- The same reply, the same next offset, and such states after the call.
pub record CallsAlike (b b' : List Float) (r r' : Result) : Type 0 where
  pub same_reply : r.reply ≡ r'.reply
  pub same_next : r.next ≡ r'.next
  pub alike_after : AlikeSince b b' r.after r'.after

-- "the same commands from there on", in calls one after the other, each on a stream and at an offset of its own.
pub record Asked : Type 0 where
  pub stream : List ℕ
  pub offset : ℕ

abbrev pub EachAlike : List Float → List Float → State → State → List Asked → Type 0
EachAlike b b' t t' [] = Unit {0}
EachAlike b b' t t' (asked ∷ later) =
    let r = call t asked.stream asked.offset in
    let r' = call t' asked.stream asked.offset in
    CallsAlike b b' r r' × EachAlike b b' r.after r'.after later
