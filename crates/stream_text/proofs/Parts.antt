-- Laws of a stream obeyed in parts: one command more (`part_within-turn`), where a part ends (`part_within-ends`), that any number of calls that is
-- enough gives the same (`part_within_enough`), and that a call leaves a state that the next may use unchecked (`call_keeps_passing`). Assumes nothing.
use Prim.Native.Nat.{ℕ, zero, suc, ◌+◌, ◌-◌, ◌≤◌, ◌<◌}
use native.Mathlib.Decide.{dec_le}
use native.Mathlib.Omega.{arith}
use mathlib.Core.Path.{◌≡◌, refl, sym, ap, ◌∙◌, subst}
use mathlib.Core.Logic.{◌⊎◌, inl, inr}
use mathlib.Core.Bool.{Bool, true, false, false≢true, ◌&&◌, cond}
use Rattle.std.specs.Prelude.{None, Some}
use mathlib.Core.List.{List, [], ◌++◌, append-nil, append_assoc}
use lib.ListN.{length}
use lib.Dec.{T, leb, ltb}
use lib.Ieee.{Float}
use borrow.Author.Tests.{lt-ltb, le-ltb, le-leb, lt-leb, ltb-true, ltb-false, leb-true, leb-false}
use Rattle.lists.proofs.Tests.{and-true}
use Rattle.refusal.specs.declared.Refusal.{Refusal}
use Rattle.refusal.specs.declared.Refusal.TheVariants.{TooLong, WrongLength}
use Rattle.inputs.specs.Inputs.{Checked}
use Rattle.command.specs.Command.{Parsed, complete, broken, unknown, parse}
use Rattle.session_record.specs.Session.{held_of, session_of}
use Rattle.session_commands.specs.Obeyed.{State, state, Result}
use Rattle.session.specs.Call.{max_stream, call_refusal, read, call}
use Rattle.session_commands.specs.Inner.Turns.{Turned, turn_result}
use Rattle.session_record.specs.declared.Session.{Session}
use Rattle.session.proofs.PassedCalls.{call_passed}
use Rattle.session.proofs.Calling.{call-read}
use Rattle.command.proofs.Decoding.{parse-complete}
use Rattle.session.proofs.Advancing.{call_advances}
use Rattle.listing.specs.Listing.{refusal_line, listing_bytes, written, printed_by}
use Rattle.listing.specs.Writing.{Front}
use Rattle.putting.specs.Putting.{Put}
use Rattle.putting.proofs.Putting.{put_nothing, put_length, put_then}
use Rattle.listing.proofs.WrittenCalls.{written-call}
use Rattle.claims_streams.specs.Stream.{Usable}
use Rattle.claims_streams.proofs.Streams.{call_refusal_passes, passes_of_usable, obeyed-answer_to}
use Rattle.claims_streams.proofs.Usable.{usable_answer}
use Rattle.stream_text.specs.declared.StreamText.{StreamText}
use Rattle.stream_text.specs.StreamText.{Part, part, behind, part_within, part_from, text_refusal, part_in, Leaves}

-- ---- the test of a turn

-- A command is left, and the room surely holds its reply.
pub test_goes_on : (at end room : ℕ) → ltb at end && leb listing_bytes room ≡ true → (at < end) × (listing_bytes ≤ room)
test_goes_on at end room e = let (left, holds) = and-true (ltb at end) (leb listing_bytes room) e in (ltb-true at end left, leb-true listing_bytes room holds)

pub test_stops : (at end room : ℕ) → ltb at end && leb listing_bytes room ≡ false → (end ≤ at) ⊎ (room < listing_bytes)
test_stops at end room e = go (ltb at end) refl
  where
    go : (b : Bool) → ltb at end ≡ b → (end ≤ at) ⊎ (room < listing_bytes)
    go false f = inl (ltb-false at end f)
    go true f = inr (leb-false listing_bytes room (rw f at e))

-- ---- one part

module _ (stream : List ℕ) where
  pub part_within-turn : (most : ℕ) (t : State) (at room : ℕ) → at < length stream → listing_bytes ≤ room
      → let r = call t stream at in
      part_within (suc most) t stream at room ≡ behind (printed_by r) (part_within most r.after stream r.next (room - length (printed_by r)))
  unfolding part_within
  part_within-turn most t at room h holds = rw (lt-ltb at (length stream) h, le-leb listing_bytes room holds)

  and-false : (a b : Bool) → (a ≡ false) ⊎ (b ≡ false) → (a && b) ≡ false
  and-false false b h = refl
  and-false true b (inl e) = absurd (false≢true (sym e))
  and-false true b (inr e) = e

  pub part_within-ends : (most : ℕ) (t : State) (at room : ℕ) → (length stream ≤ at) ⊎ (room < listing_bytes) → part_within most t stream at room ≡ part t at []
  unfolding part_within
  part_within-ends zero t at room h = refl
  part_within-ends (suc most) t at room (inl h) = rw (le-ltb at (length stream) h)
  part_within-ends (suc most) t at room (inr h) =
      rw (and-false (ltb at (length stream)) (leb listing_bytes room) (inr (lt-leb listing_bytes room h)))

  pub part_within-nothing : (t : State) (at room : ℕ) → part_within zero t stream at room ≡ part t at []
  unfolding part_within
  part_within-nothing t at room = refl

  -- Each call goes on by a byte or more.
  pub part_within_enough : (m n : ℕ) (t : State) (at room : ℕ) → length stream ≤ m + at → length stream ≤ n + at
      → part_within m t stream at room ≡ part_within n t stream at room
  part_within_enough zero n t at room em en = part_within-ends zero t at room (inl (omega arith)) ∙ sym (part_within-ends n t at room (inl (omega arith)))
  part_within_enough (suc m) zero t at room em en =
      part_within-ends (suc m) t at room (inl (omega arith)) ∙ sym (part_within-ends zero t at room (inl (omega arith)))
  part_within_enough (suc m) (suc n) t at room em en =
      go (dec_le (length stream) at) (dec_le listing_bytes room)
      (part_within_enough m n (call t stream at).after (call t stream at).next (room - length (printed_by (call t stream at))))
    where
      go : Dec (length stream ≤ at) → Dec (listing_bytes ≤ room)
          → (length stream ≤ m + (call t stream at).next → length stream ≤ n + (call t stream at).next
          → part_within m (call t stream at).after stream (call t stream at).next (room - length (printed_by (call t stream at)))
          ≡ part_within n (call t stream at).after stream (call t stream at).next (room - length (printed_by (call t stream at))))
          → part_within (suc m) t stream at room ≡ part_within (suc n) t stream at room
      go (yes h) d later = part_within-ends (suc m) t at room (inl h) ∙ sym (part_within-ends (suc n) t at room (inl h))
      go (no h) (no short) later =
          part_within-ends (suc m) t at room (inr (omega arith)) ∙ sym (part_within-ends (suc n) t at room (inr (omega arith)))
      go (no h) (yes holds) later =
          let on = call_advances t stream at (omega arith) in
          part_within-turn m t at room (omega arith) holds
          ∙ ap (behind (printed_by (call t stream at))) (later (omega (arith, on)) (omega (arith, on)))
          ∙ sym (part_within-turn n t at room (omega arith) holds)

-- ---- the state that a call leaves

abbrev PassesNext : List ℕ → Result → Type 0
PassesNext stream r = call_refusal r.after stream r.next ≡ None

module _ (t : State) (stream : List ℕ) (at : ℕ) (passes : call_refusal t stream at ≡ None) where
  usable : Usable t
  usable =
      let ready = call_passed t stream at passes in
      record {
        buffer_fits = ready.buffer_fits;
        first_fits = ready.first_fits;
        second_fits = ready.second_fits;
        record_possible = subst T (sym ready.record_possible) tt;
      }

  passes_at : (t' : State) → Usable t' → (at' : ℕ) → at' ≤ length stream → call_refusal t' stream at' ≡ None
  passes_at t' u at' h = call_refusal_passes t' stream at' (passes_of_usable t' stream (call_passed t stream at passes).stream_fits u) h

  -- Whatever the command answers, the next call finds nothing to refuse before all else.
  pub call_keeps_passing : at < length stream → call_refusal (call t stream at).after stream (call t stream at).next ≡ None
  unfolding read
  call_keeps_passing h = go (parse stream at) refl
    where
      reads : call t stream at ≡ read t stream at (parse stream at)
      reads = call-read t stream at passes (λ e. omega arith)

      go : (p : Parsed) → parse stream at ≡ p → PassesNext stream (call t stream at)
      go (complete command width) e =
          subst (PassesNext stream) (sym (reads ∙ ap (read t stream at) e ∙ obeyed-answer_to t command (at + width)))
          (passes_at _ (usable_answer t usable command) (at + width) (parse-complete stream at command width e).1)
      go broken e = subst (PassesNext stream) (sym (reads ∙ ap (read t stream at) e)) (passes_at t usable (length stream) (omega arith))
      go (unknown byte) e = subst (PassesNext stream) (sym (reads ∙ ap (read t stream at) e)) (passes_at t usable (length stream) (omega arith))

-- ---- where a part leaves off

-- What holds where a call finds no more to do, and is kept by each call, holds where a part leaves off.
module _ (stream : List ℕ) (Kept : State → ℕ → Type 0) (call-keeps : (t : State) (at : ℕ) → at < length stream → Kept t at → Kept (call t stream at).after (call t stream at).next) where
  pub part_within_keeps : (most : ℕ) (t : State) (at room : ℕ) → Kept t at → Kept (part_within most t stream at room).after (part_within most t stream at room).next
  part_within_keeps zero t at room k = subst (λ (p : Part). Kept p.after p.next) (sym (part_within-nothing stream t at room)) k
  part_within_keeps (suc most) t at room k =
      go (dec_le (length stream) at) (dec_le listing_bytes room)
      (part_within_keeps most (call t stream at).after (call t stream at).next (room - length (printed_by (call t stream at))))
    where
      go : Dec (length stream ≤ at) → Dec (listing_bytes ≤ room)
          → (Kept (call t stream at).after (call t stream at).next
          → let later = part_within most (call t stream at).after stream (call t stream at).next (room - length (printed_by (call t stream at))) in
          Kept later.after later.next)
          → Kept (part_within (suc most) t stream at room).after (part_within (suc most) t stream at room).next
      go (yes h) d later = rw (part_within-ends stream (suc most) t at room (inl h)) k
      go (no h) (no short) later = rw (part_within-ends stream (suc most) t at room (inr (omega arith))) k
      go (no h) (yes holds) later = rw (part_within-turn stream most t at room (omega arith) holds) (later (call-keeps t at (omega arith) k))

-- No part goes back, and one that begins before the stream's end goes on.
pub part_within-next : (stream : List ℕ) (most : ℕ) (t : State) (at room : ℕ) → at ≤ (part_within most t stream at room).next
part_within-next stream most t at room =
    part_within_keeps stream (λ (t' : State) (n : ℕ). at ≤ n) (λ t' n h k. omega (arith, call_advances t' stream n h)) most t at room (omega arith)

pub part_within_advances : (stream : List ℕ) (most : ℕ) (t : State) (at room : ℕ) → at < length stream → listing_bytes ≤ room
    → at < (part_within (suc most) t stream at room).next
part_within_advances stream most t at room h holds =
    rw (part_within-turn stream most t at room h holds)
    (omega (arith, call_advances t stream at h, part_within-next stream most (call t stream at).after (call t stream at).next (room - length (printed_by (call t stream at)))))

-- The next part may begin unchecked.
pub part_within_keeps_passing : (stream : List ℕ) (most : ℕ) (t : State) (at room : ℕ) → call_refusal t stream at ≡ None
    → call_refusal (part_within most t stream at room).after stream (part_within most t stream at room).next ≡ None
part_within_keeps_passing stream most t at room passes =
    part_within_keeps stream (λ (t' : State) (n : ℕ). call_refusal t' stream n ≡ None) (λ t' n h k. call_keeps_passing t' stream n k h) most t at room passes

-- ---- a part in the making

left_over : (room used more : ℕ) → room - used - more ≡ room - (used + more)
left_over room used more = omega arith

-- What was printed stands at the front of the text, the next call may go on unchecked, and a part p is what was printed and then what is still to come.
pub record Going (p : Part) (t : State) (stream : List ℕ) (at used : ℕ) (old new : List ℕ) : Type 0 where
  pub said : List ℕ
  pub put : Put old 0 said new used
  pub passes : call_refusal t stream at ≡ None
  pub goes : p ≡ behind said (part_within (length stream) t stream at (length old - used))

whole : (room : ℕ) → room ≡ room - 0
whole room = omega arith

pub going_first : (t : State) (stream : List ℕ) (at : ℕ) (old : List ℕ) → call_refusal t stream at ≡ None
    → Going (part_within (length stream) t stream at (length old)) t stream at 0 old old
going_first t stream at old passes =
    record {
      said = [];
      put = put_nothing old 0 (omega arith);
      passes = passes;
      goes = ap (λ (room : ℕ). behind [] (part_within (length stream) t stream at room)) (whole (length old));
    }

module _ {p : Part} {t : State} {stream : List ℕ} {at used : ℕ} {old new : List ℕ} (g : Going p t stream at used old new) where
  pub going_length : length new ≡ length old
  going_length = put_length g.put

  pub going_inside : used ≤ length old
  going_inside = omega (arith, g.put.room, g.put.behind)

  -- One command more.
  pub going_on : at < length stream → listing_bytes ≤ length old - used → (new' : List ℕ) (used' : ℕ)
      → Put new used (printed_by (call t stream at)) new' used'
      → Going p (call t stream at).after stream (call t stream at).next used' old new'
  going_on h holds new' used' put' =
      let printed = printed_by (call t stream at) in
      record {
        said = g.said ++ printed;
        put = put_then g.put put';
        passes = call_keeps_passing t stream at g.passes h;
        goes =
            g.goes
            ∙ ap (behind g.said)
            (part_within_enough stream (length stream) (suc (length stream)) t at (length old - used) (omega arith) (omega arith)
            ∙ part_within-turn stream (length stream) t at (length old - used) h holds)
            ∙ rw (put'.behind, left_over (length old) used (length printed), append_assoc g.said printed);
      }

  pub going_ends : (length stream ≤ at) ⊎ (length old - used < listing_bytes) → p ≡ part t at g.said
  going_ends h =
      g.goes
      ∙ ap (behind g.said) (part_within-ends stream (length stream) t at (length old - used) h)
      ∙ ap (part t at) (append-nil g.said)

  -- The same from what the code's functions promise: the command obeyed, and its reply's text behind the others.
  pub going_step : at < length stream → listing_bytes ≤ length new - used → (turn : Turned) (shared : List ℕ) (buffer first : List Float) (second new' : List ℕ) (used' : ℕ)
      → turn_result turn shared buffer first second ≡ read t stream at (parse stream at)
      → Put new used (written turn.reply turn.held first second (length new - used)) new' used'
      → Going p (state (session_of turn.held shared) buffer first second) stream turn.next used' old new'
  going_step h holds turn shared buffer first second new' used' obeyed put' =
      let called : turn_result turn shared buffer first second ≡ call t stream at = obeyed ∙ sym (call-read t stream at g.passes (λ e. omega arith)) in
      subst (λ (r : Result). Going p r.after stream r.next used' old new') (sym called)
      (going_on h (omega (arith, going_length)) new' used'
      (subst (λ (text : List ℕ). Put new used text new' used') (printed-written called) put'))
    where
      printed-written : turn_result turn shared buffer first second ≡ call t stream at
          → written turn.reply turn.held first second (length new - used) ≡ printed_by (call t stream at)
      printed-written called =
          ap (λ (r : Result). written r.reply (held_of r.after.session) r.after.first r.after.second (length new - used)) called
          ∙ written-call t stream at (length new - used)
          ∙ rw (le-leb listing_bytes (length new - used) holds)

  pub going_advances : at < length stream → (turn : Turned) (shared : List ℕ) (buffer first : List Float) (second : List ℕ)
      → turn_result turn shared buffer first second ≡ read t stream at (parse stream at) → at < turn.next
  going_advances h turn shared buffer first second obeyed =
      subst (λ (r : Result). at < r.next) (sym (obeyed ∙ sym (call-read t stream at g.passes (λ e. omega arith)))) (call_advances t stream at h)

-- ---- what the code's answer says

-- An answer that has a part's record and offset, and its text at the front.
pub leaves_of : {t : State} {next : ℕ} {text : List ℕ} {p : Part} → part t next text ≡ p → {s : Session} → s ≡ t.session
    → {count : ℕ} {old new : List ℕ} (x : Checked) → Front old text new count
    → Leaves p (record { session = s; refused = x; next = next; length = count }) t.buffer t.first t.second old new
leaves_of e same {count} {old} {new} x f =
    record {
      session = same ∙ ap (λ (p : Part). p.after.session) e;
      buffer_after_is = ap (λ (p : Part). p.after.buffer) e;
      first_after_is = ap (λ (p : Part). p.after.first) e;
      second_after_is = ap (λ (p : Part). p.after.second) e;
      next = ap (λ (p : Part). p.next) e;
      front = subst (λ (p : Part). Front old p.text new count) e f;
    }

module _ (t : State) (stream : List ℕ) (at room : ℕ) where
  pub text_refusal-short : room < listing_bytes → text_refusal stream room ≡ Some (cond (ltb max_stream (length stream)) TooLong WrongLength)
  unfolding text_refusal
  text_refusal-short h = rw (lt-leb listing_bytes room h)

  pub text_refusal-holds : listing_bytes ≤ room → text_refusal stream room ≡ None
  unfolding text_refusal
  text_refusal-holds h = rw (le-leb listing_bytes room h)

  pub part_in-short : room < listing_bytes → part_in t stream at room ≡ part t (length stream) []
  unfolding part_in
  part_in-short h = rw (text_refusal-short h, part_in)

  pub part_in-refused : listing_bytes ≤ room → (r : Refusal) → call_refusal t stream at ≡ Some r → part_in t stream at room ≡ part t (length stream) (refusal_line r)
  unfolding part_in part_from
  part_in-refused h r e = rw (text_refusal-holds h, part_in) (rw (e, part_from))

  pub part_in_passes : listing_bytes ≤ room → call_refusal t stream at ≡ None → part_in t stream at room ≡ part_within (length stream) t stream at room
  unfolding part_in part_from
  part_in_passes h e = rw (text_refusal-holds h, part_in) (rw (e, part_from))

pub leaves_same : {p q : Part} {answer : StreamText} {buffer first : List Float} {second old new : List ℕ} → p ≡ q
    → Leaves p answer buffer first second old new → Leaves q answer buffer first second old new
leaves_same {answer} {buffer} {first} {second} {old} {new} e l = subst (λ (p : Part). Leaves p answer buffer first second old new) e l

-- The same of the lent text that a writer was made of, and that then holds what the writer put.
pub leaves_lent : {p : Part} {answer : StreamText} {buffer first : List Float} {second old new lent lent' : List ℕ} → old ≡ lent → lent' ≡ new
    → Leaves p answer buffer first second old new → Leaves p answer buffer first second lent lent'
leaves_lent {p} {answer} {buffer} {first} {second} {old} {new} {lent} {lent'} e f l =
    subst (λ (x : List ℕ). Leaves p answer buffer first second lent x) (sym f) (subst (λ (x : List ℕ). Leaves p answer buffer first second x new) e l)

-- A refusal's line where any reply has room.
pub front-refusal : (r : Refusal) {old new : List ℕ} {count used : ℕ} → used ≡ 0 → listing_bytes ≤ length old
    → Front old (cond (leb listing_bytes (length old - used)) (refusal_line r) []) new count → Front old (refusal_line r) new count
front-refusal r {old} {used = used} unused h f = rw (le-leb listing_bytes (length old - used) (omega arith)) at f
