-- What checks refuse with, if anything, is such: check after check, each given that those before it found nothing. Assumes nothing.
use Prim.Native.Nat.{ℕ, ◌^◌, ◌<◌}
use native.Mathlib.Omega.{arith}
use mathlib.Core.Path.{◌≡◌, refl}
use mathlib.Core.Bool.{Bool, true, false}
use Rattle.std.specs.Prelude.{Option, None, Some}
use mathlib.Core.List.{List, [], ◌∷◌}
use Rattle.refusal.specs.Table.{detail_of, refuse_if, refuse_at, first_of}
use Rattle.refusal.specs.declared.Refusal.{Refusal}
use Rattle.refusal.specs.declared.Refusal.TheVariants.{InsufficientData, TooMany, InvalidReference}
use Rattle.inputs.specs.Inputs.{size_refusal}

-- What is refused, if anything, is such.
abbrev pub If : (Refusal → Type 0) → Option Refusal → Type 0
If Such None = Unit {0}
If Such (Some q) = Such q

-- Each check of a list refuses with such, if at all, given that those before it found nothing.
abbrev pub InTurn : (Refusal → Type 0) → List (Option Refusal) → Type 0
InTurn Such [] = Unit {0}
InTurn Such (check ∷ later) = If Such check × (check ≡ None → InTurn Such later)

module _ (Such : Refusal → Type 0) where
  pub if_first_of : (checks : List (Option Refusal)) → InTurn Such checks → If Such (first_of checks)
  unfolding first_of
  if_first_of [] h = tt
  if_first_of (Some q ∷ later) (h, k) = h
  if_first_of (None ∷ later) (h, k) = if_first_of later (k refl)

  pub if_refuse_if : (b : Bool) (q : Refusal) → Such q → If Such (refuse_if b q)
  unfolding refuse_if
  if_refuse_if true q h = h
  if_refuse_if false q h = tt

  pub if_refuse_at : (o : Option ℕ) (refusal : ℕ → Refusal) → ((n : ℕ) → o ≡ Some n → Such (refusal n)) → If Such (refuse_at o refusal)
  unfolding refuse_at
  if_refuse_at None refusal h = tt
  if_refuse_at (Some n) refusal h = h n refl

  pub if_size_refusal : Such InsufficientData → Such TooMany → Such InvalidReference
      → (views cameras reference : ℕ) → If Such (size_refusal views cameras reference)
  unfolding size_refusal
  if_size_refusal too_few too_many outside views cameras reference = grind arith

-- ---- "a 32-bit detail"

abbrev pub ShortDetail : Refusal → Type 0
ShortDetail q = detail_of q < 2 ^ 32

-- What is refused, if anything, has a detail of no more than 32 bits.
abbrev pub Small : Option Refusal → Type 0
Small o = If ShortDetail o

pub small_size : (views cameras reference : ℕ) → Small (size_refusal views cameras reference)
small_size views cameras reference = if_size_refusal ShortDetail (omega arith) (omega arith) (omega arith) views cameras reference
