-- A reply gives back what it was made of: the number and the detail of a refusal, where the detail has no more than 32 bits, and whether
-- anything was refused at all. Assumes nothing.
use Prim.Native.Nat.{ℕ, ◌^◌, ◌≤◌, ◌<◌}
use native.Mathlib.Omega.{arith}
use mathlib.Core.Path.{◌≡◌, refl, ap, ap₂, ◌∙◌}
use mathlib.Core.Logic.{◌↔◌}
use mathlib.Core.Bool.{Bool, cond}
use Rattle.std.specs.Prelude.{Option, None, Some, Err, Ok}
use borrow.Author.Tests.{ne_eqb, lt-ltb, le-ltb}
use Rattle.refusal.specs.Table.{number_of, detail_of}
use Rattle.refusal.specs.declared.Refusal.{Refusal}
use Rattle.refusal.specs.declared.Refusal.TheVariants.{InsufficientData, TooMany, InvalidReference, CountDiffers, WrongLength, BadMark, NotFinite, Unreached, EmptyView, UnknownCommand, Truncated, OutsideRig, TooLong, BrokenFrame, TooManyFrames, NoSize, SizeAgain, HeldAlready, NotHeld}
use Rattle.extrinsics.specs.Outcome.{Outcome}
use Rattle.session_commands.specs.Reply.{Reply}
use Rattle.shared_query.specs.Query.{Shared}
use Rattle.telemetry.specs.Frames.{Imported}
use Rattle.placer.specs.Code.{code_of, code_of_outcome, code_of_refusal, code_of_reply, code_of_shared, code_of_imported}
use Rattle.placer.specs.Reading.{number_in, detail_in, refusals_with, with_number, refusal_in, outcome_in, reply_in, shared_in, imported_in}
use Rattle.session_commands.specs.declared.Done.TheVariants.{Accepted, End, Solved}

-- ---- refusals

-- A refusal is told by its number and its detail.
pub with_number_number_of : (q : Refusal) → with_number (number_of q) (refusals_with (detail_of q)) ≡ q
unfolding with_number
with_number_number_of InsufficientData = refl
with_number_number_of TooMany = refl
with_number_number_of InvalidReference = refl
with_number_number_of (CountDiffers view) = refl
with_number_number_of WrongLength = refl
with_number_number_of (BadMark cell) = refl
with_number_number_of (NotFinite cell) = refl
with_number_number_of (Unreached cameras) = refl
with_number_number_of (EmptyView view) = refl
with_number_number_of (UnknownCommand byte) = refl
with_number_number_of (Truncated offset) = refl
with_number_number_of (OutsideRig cell) = refl
with_number_number_of TooLong = refl
with_number_number_of BrokenFrame = refl
with_number_number_of TooManyFrames = refl
with_number_number_of NoSize = refl
with_number_number_of SizeAgain = refl
with_number_number_of (HeldAlready cell) = refl
with_number_number_of (NotHeld cell) = refl

number-above_0 : (q : Refusal) → 1 ≤ number_of q
number-above_0 InsufficientData = omega arith
number-above_0 TooMany = omega arith
number-above_0 InvalidReference = omega arith
number-above_0 (CountDiffers view) = omega arith
number-above_0 WrongLength = omega arith
number-above_0 (BadMark cell) = omega arith
number-above_0 (NotFinite cell) = omega arith
number-above_0 (Unreached cameras) = omega arith
number-above_0 (EmptyView view) = omega arith
number-above_0 (UnknownCommand byte) = omega arith
number-above_0 (Truncated offset) = omega arith
number-above_0 (OutsideRig cell) = omega arith
number-above_0 TooLong = omega arith
number-above_0 BrokenFrame = omega arith
number-above_0 TooManyFrames = omega arith
number-above_0 NoSize = omega arith
number-above_0 SizeAgain = omega arith
number-above_0 (HeldAlready cell) = omega arith
number-above_0 (NotHeld cell) = omega arith

-- "A reply of 2^32 or more is a refusal".
pub code_of_above : (q : Refusal) → 2 ^ 32 ≤ code_of q
code_of_above q = omega (arith, number-above_0 q)

module _ (q : Refusal) (small : detail_of q < 2 ^ 32) where
  pub number_in_code_of : number_in (code_of q) ≡ number_of q
  number_in_code_of = omega (arith, small)

  pub detail_in_code_of : detail_in (code_of q) ≡ detail_of q
  detail_in_code_of = omega (arith, small)

  pub refusal_in_code_of : refusal_in (code_of q) ≡ q
  refusal_in_code_of = ap₂ (λ (n d : ℕ). with_number n (refusals_with d)) number_in_code_of detail_in_code_of ∙ with_number_number_of q

-- ---- what a check finds

-- 0 is the reply where nothing is refused, and nowhere else.
pub code_of_refusal_0 : (o : Option Refusal) → (code_of_refusal o ≡ 0) ↔ (o ≡ None)
unfolding code_of_refusal
code_of_refusal_0 None = (λ e. refl, λ e. refl)
code_of_refusal_0 (Some q) = (λ e. absurd (omega (arith, code_of_above q)), λ e. let z : ◌≡◌ {A = ℕ} 0 1 = cc in absurd (omega arith))

pub code_of_refusal_both : (o : Option Refusal) (q : Refusal) → o ≡ Some q → detail_of q < 2 ^ 32
    → (number_in (code_of_refusal o) ≡ number_of q) × (detail_in (code_of_refusal o) ≡ detail_of q)
unfolding code_of_refusal
code_of_refusal_both o q e small = rw e (number_in_code_of q small, detail_in_code_of q small)

-- ---- outcomes

-- 0 is the reply of a solved rig and of nothing else.
pub code_of_outcome_0 : (o : Outcome) → (code_of_outcome o ≡ 0) ↔ (o ≡ Ok tt)
unfolding code_of_outcome
code_of_outcome_0 (Err q) = (λ e. absurd (omega (arith, code_of_above q)), λ e. let z : ◌≡◌ {A = ℕ} 0 1 = cc in absurd (omega arith))
code_of_outcome_0 (Ok tt) = (λ e. refl, λ e. refl)

-- The detail of an outcome, 0 where nothing is refused, has no more than 32 bits.
abbrev pub SmallOutcome : Outcome → Type 0
SmallOutcome (Err q) = detail_of q < 2 ^ 32
SmallOutcome (Ok tt) = Unit {0}

pub outcome_in-code_of_outcome : (o : Outcome) → SmallOutcome o → outcome_in (code_of_outcome o) ≡ o
unfolding outcome_in code_of_outcome
outcome_in-code_of_outcome (Err q) small = rw (ne_eqb (code_of q) 0 (omega (arith, code_of_above q)), refusal_in_code_of q small)
outcome_in-code_of_outcome (Ok tt) small = refl

-- ---- the session's replies

abbrev pub SmallReply : Reply → Type 0
SmallReply (Ok End) = Unit {0}
SmallReply (Ok Accepted) = Unit {0}
SmallReply (Ok Solved) = Unit {0}
SmallReply (Err q) = detail_of q < 2 ^ 32

pub reply_in-code_of_reply : (p : Reply) → SmallReply p → reply_in (code_of_reply p) ≡ p
unfolding reply_in code_of_reply
reply_in-code_of_reply (Ok End) small = refl
reply_in-code_of_reply (Ok Accepted) small = refl
reply_in-code_of_reply (Ok Solved) small = refl
reply_in-code_of_reply (Err q) small =
    let above = code_of_above q in
    rw (
      ne_eqb (code_of q) 0 (omega (arith, above)),
      ne_eqb (code_of q) 1 (omega (arith, above)),
      ne_eqb (code_of q) 2 (omega (arith, above)),
      refusal_in_code_of q small,
    )

-- ---- counts: the query's answers, and packed frames

abbrev pub SmallShared : Shared → Type 0
SmallShared (Err q) = detail_of q < 2 ^ 32
SmallShared (Ok n) = n < 2 ^ 32

pub shared_in-code_of_shared : (p : Shared) → SmallShared p → shared_in (code_of_shared p) ≡ p
unfolding shared_in code_of_shared
shared_in-code_of_shared (Err q) small =
    ap (λ (b : Bool). cond b (Ok (code_of q)) (Err (refusal_in (code_of q)))) (le-ltb (code_of q) (2 ^ 32) (omega (arith, code_of_above q)))
    ∙ ap Err (refusal_in_code_of q small)
shared_in-code_of_shared (Ok n) small = rw (lt-ltb n (2 ^ 32) small)

abbrev pub SmallImported : Imported → Type 0
SmallImported = SmallShared

pub imported_in-code_of_imported : (p : Imported) → SmallImported p → imported_in (code_of_imported p) ≡ p
unfolding imported_in code_of_imported shared_in code_of_shared
imported_in-code_of_imported (Err q) small = shared_in-code_of_shared (Err q) small
imported_in-code_of_imported (Ok n) small = shared_in-code_of_shared (Ok n) small
