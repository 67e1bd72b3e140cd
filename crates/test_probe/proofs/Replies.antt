-- What an export replies follows from what its check answers: the refusal's code and nothing written, or 0 and the answer written; and what
-- a check of lengths that finds nothing has shown. Assumes nothing.
use Rattle.std.proofs.Common.{◌≡◌, ℕ, ◌%◌, ◌≤◌, List, ◌++◌, length, drop, sym, refl, ap, ◌∙◌, arith, ltb-false, eqb-true}
use native.Mathlib.Decide.{dec_le}
use Rattle.std.specs.Prelude.{Option, None, Some}
use borrow.Author.Tests.{not-false}
use lib.Ieee.{Float}
use Rattle.refusal.specs.declared.Refusal.{Refusal}
use Rattle.inputs.specs.Inputs.{checked_of}
use Rattle.inputs.specs.Inputs.{Checked}
use Rattle.extrinsics.specs.Outcome.{answered}
use Rattle.listing.specs.Listing.{listing_bytes}
use Rattle.stream_text.specs.StreamText.{text_refusal}
use Rattle.stream_text.proofs.Parts.{text_refusal-short}
use Rattle.claims_printing.specs.Printed.{fresh_state}
use Rattle.placer.specs.Code.{code_of, code_of_refusal}
use Rattle.test_probe.specs.Poses.{poses_refusal}
use Rattle.test_probe.specs.Exports.{Replied}
use Rattle.test_probe.specs.Streams.{printed_bytes, Printed}
use Rattle.inputs.proofs.Answering.{checked_of-refused, checked_of_passed, refuse_if-none}
use Rattle.lists.proofs.Tests.{or-false}
use Rattle.std.specs.Prelude.{Err, Ok}

pub poses_refusal-none : (floats room needed : ℕ) → poses_refusal floats room needed ≡ None → (floats % 7 ≡ 0) × (needed ≤ room)
unfolding poses_refusal
poses_refusal-none floats room needed e =
    let h = or-false _ _ (refuse_if-none _ _ e) in
    (eqb-true (floats % 7) 0 (not-false _ h.0), ltb-false room needed h.1)

module _ {refusal : Option Refusal} {new old : List Float} {checked : Checked} (checked-is : checked ≡ checked_of refusal) where
  replied_some : (r : Refusal) → refusal ≡ Some r → {code : ℕ} → code ≡ code_of r → Replied refusal new old code old
  unfolding code_of_refusal answered
  replied_some r e f = record { reply = f ∙ simp e; answer = simp e }

  replied_none : refusal ≡ None → {after : List Float} → after ≡ new ++ drop (length new) old → Replied refusal new old 0 after
  unfolding code_of_refusal answered
  replied_none e f = record { reply = simp e; answer = f ∙ simp e }

  pub replied_refused : {r : Refusal} → checked ≡ Err r → {code : ℕ} → code ≡ code_of r → Replied refusal new old code old
  replied_refused {r} e f = replied_some r (checked_of-refused refusal r (sym checked-is ∙ e)) f

  pub replied_written : checked ≡ Ok tt → {after : List Float} → after ≡ new ++ drop (length new) old → Replied refusal new old 0 after
  replied_written e f = replied_none (checked_of_passed refusal (sym checked-is ∙ e)) f

-- The answer has the room that it needs.
pub room_holds : (floats : ℕ) {room needed : ℕ} {checked : Checked} → checked ≡ checked_of (poses_refusal floats room needed) → checked ≡ Ok tt → needed ≤ room
room_holds floats {room} {needed} checked-is e = (poses_refusal-none floats room needed (checked_of_passed _ (sym checked-is ∙ e))).1

-- ---- streams

module _ {stream old : List ℕ} {checked : Checked} (checked-is : checked ≡ checked_of (text_refusal stream (length old))) where
  pub printed_refused : {r : Refusal} → checked ≡ Err r → {code : ℕ} → code ≡ code_of r → Printed stream old code old
  printed_refused {r} e {code} f =
      let is = checked_of-refused (text_refusal stream (length old)) r (sym checked-is ∙ e) in
      record {
        refused = λ q g. let same : r ≡ q = cc in (f ∙ ap code_of same, refl);
        counted = λ g. let z : ◌≡◌ {A = ℕ} 0 1 = cc in absurd (omega arith);
      }

  pub printed_counted : checked ≡ Ok tt → {r : ℕ} → r ≡ printed_bytes fresh_state stream → {new : List ℕ} → Printed stream old r new
  printed_counted e f {new} =
      let is = checked_of_passed (text_refusal stream (length old)) (sym checked-is ∙ e) in
      record {
        refused = λ q g. let z : ◌≡◌ {A = ℕ} 0 1 = cc in absurd (omega arith);
        counted = λ g. f;
      }

-- The text may hold every reply.
pub text_holds : (stream : List ℕ) {room : ℕ} {checked : Checked} → checked ≡ checked_of (text_refusal stream room) → checked ≡ Ok tt → listing_bytes ≤ room
text_holds stream {room} checked-is e = go (dec_le listing_bytes room)
  where
    go : Dec (listing_bytes ≤ room) → listing_bytes ≤ room
    go (yes h) = h
    go (no h) =
        let short = text_refusal-short fresh_state stream 0 room (omega arith) in
        let passed = checked_of_passed (text_refusal stream room) (sym checked-is ∙ e) in
        let z : ◌≡◌ {A = ℕ} 0 1 = cc in
        absurd (omega arith)
