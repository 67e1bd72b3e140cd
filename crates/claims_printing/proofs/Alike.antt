-- States that differ in nothing but floats of cells that are not held print the same: for answers alike (`printed-alike`), and so one call
-- (`same_text`), a whole stream (`same_lines`), one from any offset on (`same_lines_from`), one call of the whole-stream entry (`part-alike`), and its calls
-- one after the other (`rounds_alike`). Assumes nothing.
use Prim.Native.Nat.{ℕ, zero, suc, ◌-◌}
use mathlib.Core.Path.{◌≡◌, refl, sym, ap₂, subst, ◌∙◌}
use mathlib.Core.Bool.{Bool, true, false, ◌&&◌, cond}
use Rattle.std.specs.Prelude.{Option, None, Some}
use mathlib.Core.List.{List, [], ◌++◌}
use lib.ListN.{length}
use lib.Dec.{leb, ltb}
use lib.Ieee.{Float}
use Rattle.refusal.specs.declared.Refusal.{Refusal}
use Rattle.session_commands.specs.Obeyed.{State, Result}
use Rattle.session.specs.Call.{call_refusal, call}
use Rattle.session_commands.specs.Reply.{Reply}
use Rattle.listing.specs.Listing.{refusal_line, listing_bytes, printed_text, printed_by}
use Rattle.claims_streams.specs.Stream.{rest_of, Answer, meaning}
use Rattle.claims_streams.specs.Alike.{Alike, AlikeSince, AnswersAlike, no_answers, one_answer, CallsAlike}
use Rattle.claims_streams.proofs.Alike.{since_now, since_then, answers_of-alike, call_refusal-alike, call-alike, meaning-alike}
use Rattle.claims_streams.proofs.CallWords.{usable_of_call}
use Rattle.stream_text.specs.StreamText.{Part, part, behind, part_within, part_from, text_refusal, part_in}
use Rattle.claims_printing.specs.Printed.{printed, meaning_from, rounds_from, PartsAlike}
use Rattle.claims_printing.proofs.Loop.{meaning_from-refused, meaning_from_passes}

-- The text of a reply reads no buffer.
text-alike : (r r' : Reply) (t t' : State) → r ≡ r' → Alike t t' → printed_text r t ≡ printed_text r' t'
text-alike r r' t t' e same = cc (e, same.same_session, same.same_first, same.same_second)

pub printed-alike : {b b' : List Float} {l l' : List Answer} → AnswersAlike b b' l l' → printed l ≡ printed l'
unfolding printed
printed-alike no_answers = refl
printed-alike (one_answer {a = a} {a' = a'} e h later) =
    ap₂ ◌++◌ (text-alike a.reply a'.reply a.after a'.after e h.alike) (printed-alike later)

module _ (t t' : State) (same : Alike t t') (stream : List ℕ) where
  pub same_text : (at : ℕ) → printed_by (call t stream at) ≡ printed_by (call t' stream at)
  same_text at = let h = call-alike t t' same stream at in text-alike _ _ _ _ h.same_reply h.alike_after.alike

  pub same_lines : printed (meaning t stream) ≡ printed (meaning t' stream)
  same_lines = printed-alike (meaning-alike t t' same stream)

  module _ (at : ℕ) where
    pub meaning_from-alike : AnswersAlike t.buffer t'.buffer (meaning_from t stream at) (meaning_from t' stream at)
    meaning_from-alike = go (call_refusal t stream at) refl
      where
        also : {o : Option Refusal} → call_refusal t stream at ≡ o → call_refusal t' stream at ≡ o
        also e = sym (call_refusal-alike t t' same stream at) ∙ e

        go : (o : Option Refusal) → call_refusal t stream at ≡ o
            → AnswersAlike t.buffer t'.buffer (meaning_from t stream at) (meaning_from t' stream at)
        go (Some r) e =
            rw (meaning_from-refused t stream at r e, meaning_from-refused t' stream at r (also e)) (one_answer refl (since_now same) no_answers)
        go None e =
            rw (meaning_from_passes t stream at e, meaning_from_passes t' stream at (also e))
            (answers_of-alike t t' same (usable_of_call t stream at e).0 (rest_of stream at))

    pub same_lines_from : printed (meaning_from t stream at) ≡ printed (meaning_from t' stream at)
    same_lines_from = printed-alike meaning_from-alike

-- ---- the whole-stream entry

-- Since the buffers were b and b'.
module _ (b b' : List Float) where
  -- Something printed before both.
  behind-alike : (l l' : List ℕ) (p p' : Part) → l ≡ l' → PartsAlike b b' p p' → PartsAlike b b' (behind l p) (behind l' p')
  behind-alike l l' p p' e h = record { same_next = h.same_next; same_text = ap₂ ◌++◌ e h.same_text; alike_after = h.alike_after }

  nothing_yet : (t t' : State) (next : ℕ) (text : List ℕ) → AlikeSince b b' t t' → PartsAlike b b' (part t next text) (part t' next text)
  nothing_yet t t' next text h = record { same_next = refl; same_text = refl; alike_after = h }

  within-alike : (most : ℕ) (t t' : State) → AlikeSince b b' t t' → (stream : List ℕ) (at room : ℕ)
      → PartsAlike b b' (part_within most t stream at room) (part_within most t' stream at room)
  unfolding part_within
  within-alike zero t t' h stream at room = nothing_yet t t' at [] h
  within-alike (suc most) t t' h stream at room =
      go (ltb at (length stream) && leb listing_bytes room) (within-alike most r.after r'.after after stream r.next (room - length (printed_by r)))
    where
      r : Result
      r = call t stream at

      r' : Result
      r' = call t' stream at

      both : CallsAlike t.buffer t'.buffer r r'
      both = call-alike t t' h.alike stream at

      after : AlikeSince b b' r.after r'.after
      after = since_then h.no_new_difference both.alike_after

      text : printed_by r ≡ printed_by r'
      text = same_text t t' h.alike stream at

      rest : PartsAlike b b' (part_within most r.after stream r.next (room - length (printed_by r)))
          (part_within most r'.after stream r.next (room - length (printed_by r)))
          → PartsAlike b b' (part_within most r.after stream r.next (room - length (printed_by r)))
          (part_within most r'.after stream r'.next (room - length (printed_by r')))
      rest later =
          subst (λ (p : Part). PartsAlike b b' (part_within most r.after stream r.next (room - length (printed_by r))) p)
          (ap₂ (λ (n : ℕ) (l : List ℕ). part_within most r'.after stream n (room - length l)) both.same_next text) later

      go : (on : Bool)
          → PartsAlike b b' (part_within most r.after stream r.next (room - length (printed_by r)))
          (part_within most r'.after stream r.next (room - length (printed_by r)))
          → PartsAlike b b'
          (cond on (behind (printed_by r) (part_within most r.after stream r.next (room - length (printed_by r)))) (part t at []))
          (cond on (behind (printed_by r') (part_within most r'.after stream r'.next (room - length (printed_by r')))) (part t' at []))
      go true later = behind-alike (printed_by r) (printed_by r') _ _ text (rest later)
      go false later = nothing_yet t t' at [] h

  in_alike : (t t' : State) → AlikeSince b b' t t' → (stream : List ℕ) (at room : ℕ) → PartsAlike b b' (part_in t stream at room) (part_in t' stream at room)
  unfolding part_in part_from
  in_alike t t' h stream at room = refused (text_refusal stream room)
    where
      from : (o : Option Refusal) → PartsAlike b b'
          (elim o [ Some r ↦ part t (length stream) (refusal_line r) | None ↦ part_within (length stream) t stream at room ])
          (elim o [ Some r ↦ part t' (length stream) (refusal_line r) | None ↦ part_within (length stream) t' stream at room ])
      from (Some r) = nothing_yet t t' (length stream) (refusal_line r) h
      from None = within-alike (length stream) t t' h stream at room

      passed : PartsAlike b b' (part_from t stream at room) (part_from t' stream at room)
      passed =
          subst (λ (o : Option Refusal). PartsAlike b b' (part_from t stream at room)
          (elim o [ Some r ↦ part t' (length stream) (refusal_line r) | None ↦ part_within (length stream) t' stream at room ]))
          (call_refusal-alike t t' h.alike stream at) (from (call_refusal t stream at))

      refused : (o : Option Refusal) → PartsAlike b b'
          (elim o [ Some r ↦ part t (length stream) [] | None ↦ part_from t stream at room ])
          (elim o [ Some r ↦ part t' (length stream) [] | None ↦ part_from t' stream at room ])
      refused (Some r) = nothing_yet t t' (length stream) [] h
      refused None = passed

  rounds_since : (most : ℕ) (rooms : ℕ → ℕ) (t t' : State) → AlikeSince b b' t t' → (stream : List ℕ) (at : ℕ)
      → PartsAlike b b' (rounds_from most rooms t stream at) (rounds_from most rooms t' stream at)
  unfolding rounds_from
  rounds_since zero rooms t t' h stream at = in_alike t t' h stream at (rooms 0)
  rounds_since (suc most) rooms t t' h stream at =
      subst (λ (n : ℕ). PartsAlike b b' (round p p.next) (round p' n)) first.same_next
      (go (ltb p.next (length stream)) (rounds_since most (λ i. rooms (suc i)) p.after p'.after first.alike_after stream p.next))
    where
      p : Part
      p = part_in t stream at (rooms 0)

      p' : Part
      p' = part_in t' stream at (rooms 0)

      first : PartsAlike b b' p p'
      first = in_alike t t' h stream at (rooms 0)

      later : Part → ℕ → Part
      later q next = rounds_from most (λ i. rooms (suc i)) q.after stream next

      round : Part → ℕ → Part
      round q next = cond (ltb next (length stream)) (behind q.text (later q next)) q

      go : (on : Bool) → PartsAlike b b' (later p p.next) (later p' p.next)
          → PartsAlike b b' (cond on (behind p.text (later p p.next)) p) (cond on (behind p'.text (later p' p.next)) p')
      go true rest = behind-alike p.text p'.text (later p p.next) (later p' p.next) first.same_text rest
      go false rest = first

-- From states that are alike: one call of the entry, and its calls one after the other, with text of any lengths.
module _ (t t' : State) (same : Alike t t') (stream : List ℕ) (at : ℕ) where
  pub part-alike : (room : ℕ) → PartsAlike t.buffer t'.buffer (part_in t stream at room) (part_in t' stream at room)
  part-alike room = in_alike t.buffer t'.buffer t t' (since_now same) stream at room

  pub rounds_alike : (most : ℕ) (rooms : ℕ → ℕ) → PartsAlike t.buffer t'.buffer (rounds_from most rooms t stream at) (rounds_from most rooms t' stream at)
  rounds_alike most rooms = rounds_since t.buffer t'.buffer most rooms t t' (since_now same) stream at
