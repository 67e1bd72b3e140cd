-- Where accepted commands could leave the record, they could after every call (`call-left`), after every answer of a stream (`stream-left`) and after every
-- call of the whole-stream entry (`part_left`): so no entry is ever false again (`call_summarises`, and the same of the others). Assumes nothing.
use Prim.Native.Nat.{ℕ, zero, suc, ◌+◌, ◌-◌}
use mathlib.Core.Path.{◌≡◌, refl, sym, subst}
use mathlib.Core.Bool.{Bool, true, false, ◌&&◌, cond}
use Rattle.std.specs.Prelude.{Option, None, Some}
use mathlib.Core.List.{List, [], ◌∷◌}
use lib.ListN.{length}
use lib.Dec.{ltb, leb}
use Rattle.refusal.specs.declared.Refusal.{Refusal}
use Rattle.command.specs.Command.{Command, Parsed, complete, broken, unknown, parse}
use Rattle.session_commands.specs.Commands.{Left, left_after}
use Rattle.session_commands.specs.Obeyed.{State, Result, state_after, obeyed}
use Rattle.session.specs.Call.{call, call_refusal, read}
use Rattle.session_commands.proofs.Obeying.{obeyed_cases}
use Rattle.session.proofs.Calling.{call_cases}
use Rattle.listing.specs.Listing.{listing_bytes, printed_by, refusal_line}
use Rattle.stream_text.specs.StreamText.{Part, part, behind, part_within, part_from, text_refusal, part_in}
use Rattle.claims_streams.specs.Stream.{Answer, ends_stream, meaning, calls_from, calls}
use Rattle.claims_streams.proofs.Streams.{calls_from-ends, calls_from_goes_on, calls_give_meaning}
use Rattle.claims_shared.specs.Summaries.{Summarises}
use Rattle.claims_shared.proofs.Summarised.{left_summarises}

abbrev pub LeftIn : State → Type 0
LeftIn t = Left t.session

module _ (t : State) (left : LeftIn t) where
  left-obeyed : (command : Command) (next : ℕ) → LeftIn (obeyed t command next).after
  unfolding state_after
  left-obeyed command next = obeyed_cases t command next (λ (r : Result). LeftIn r.after) (λ _ _. left) (left_after t.buffer command left)

  left-read : (stream : List ℕ) (at : ℕ) (p : Parsed) → LeftIn (read t stream at p).after
  unfolding read
  left-read stream at (complete command width) = left-obeyed command (at + width)
  left-read stream at broken = left
  left-read stream at (unknown byte) = left

  pub call-left : (stream : List ℕ) (at : ℕ) → LeftIn (call t stream at).after
  call-left stream at = call_cases t stream at (λ (r : Result). LeftIn r.after) (λ _ _. left) (λ _ _. left) (λ _ _. left-read stream at (parse stream at))

pub call_summarises : (t : State) → Left t.session → (stream : List ℕ) (at : ℕ) → Summarises (call t stream at).after.session
call_summarises t left stream at = left_summarises (call-left t left stream at)

-- Each answer leaves a state of that kind.
pub data Each (P : State → Type 0) : List Answer → Type 0 where
  no_more : Each P []
  one_more : {a : Answer} {later : List Answer} → P a.after → Each P later → Each P (a ∷ later)

calls-left : (most : ℕ) (t : State) → LeftIn t → (stream : List ℕ) (at : ℕ) → Each LeftIn (calls_from most t stream at)
unfolding calls_from
calls-left zero t h stream at = no_more
calls-left (suc most) t h stream at =
    go (ends_stream (call t stream at).reply) refl (calls-left most (call t stream at).after (call-left t h stream at) stream (call t stream at).next)
  where
    r : Result
    r = call t stream at

    go : (b : Bool) → ends_stream r.reply ≡ b → Each LeftIn (calls_from most r.after stream r.next) → Each LeftIn (calls_from (suc most) t stream at)
    go true e later = subst (Each LeftIn) (sym (calls_from-ends most t stream at r refl e)) (one_more (call-left t h stream at) no_more)
    go false e later = subst (Each LeftIn) (sym (calls_from_goes_on most t stream at r refl e)) (one_more (call-left t h stream at) later)

pub stream-left : (t : State) → Left t.session → (stream : List ℕ) → Each LeftIn (meaning t stream)
unfolding calls
stream-left t h stream = subst (Each LeftIn) (calls_give_meaning t stream) (calls-left (suc (length stream)) t h stream 0)

abbrev pub LeftPart : Part → Type 0
LeftPart p = LeftIn p.after

within-left : (most : ℕ) (t : State) → LeftIn t → (stream : List ℕ) (at room : ℕ) → LeftPart (part_within most t stream at room)
unfolding part_within
within-left zero t h stream at room = h
within-left (suc most) t h stream at room =
    go (ltb at (length stream) && leb listing_bytes room) (within-left most r.after (call-left t h stream at) stream r.next (room - length (printed_by r)))
  where
    r : Result
    r = call t stream at

    go : (on : Bool) → LeftPart (part_within most r.after stream r.next (room - length (printed_by r)))
        → LeftPart (cond on (behind (printed_by r) (part_within most r.after stream r.next (room - length (printed_by r)))) (part t at []))
    go true later = later
    go false later = h

pub part_left : (t : State) → Left t.session → (stream : List ℕ) (at room : ℕ) → LeftPart (part_in t stream at room)
unfolding part_in part_from
part_left t h stream at room = refused (text_refusal stream room)
  where
    from : (o : Option Refusal) → LeftPart (elim o [ Some r ↦ part t (length stream) (refusal_line r) | None ↦ part_within (length stream) t stream at room ])
    from (Some r) = h
    from None = within-left (length stream) t h stream at room

    refused : (o : Option Refusal) → LeftPart (elim o [ Some r ↦ part t (length stream) [] | None ↦ part_from t stream at room ])
    refused (Some r) = h
    refused None = from (call_refusal t stream at)
