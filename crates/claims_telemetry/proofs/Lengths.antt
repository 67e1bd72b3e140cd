-- Lengths that are refused alike are both refused with 14, or both with 15, or they are equal: `alike-lengths`. Where 59 bytes a frame are lent, a length that passes is refused with nothing, and
-- no other length fits them. Assumes nothing.
use Prim.Native.Nat.{ℕ, ◌+◌, ◌*◌, ◌/◌, ◌%◌, ◌≤◌, ◌<◌}
use native.Mathlib.Decide.{ℕ_discrete, dec_le}
use native.Mathlib.Omega.{arith}
use mathlib.Core.Path.{◌≡◌, sym, ap, ◌∙◌}
use Rattle.std.specs.Prelude.{Option, None, Some}
use Rattle.refusal.specs.Table.{number_of}
use Rattle.refusal.specs.declared.Refusal.{Refusal}
use Rattle.telemetry.specs.Frames.{frame_bytes, max_frames, frames_refusal, RefusedAlike}
use Rattle.telemetry.proofs.Frames.{frames-broken, frames_many, frames_pass, frames_passed}
use Rattle.claims_telemetry.specs.Import.{LengthsAlike}

-- The number that is told, 0 where nothing is.
abbrev told : Option Refusal → ℕ
told None = 0
told (Some r) = number_of r

module _ (a b : ℕ) (alike : RefusedAlike a b) where
  same : (lent : ℕ) → frames_refusal a lent ≡ frames_refusal b lent
  same lent = ap (λ (n : ℕ). frames_refusal n lent) nothing_a ∙ alike 0 lent ∙ ap (λ (n : ℕ). frames_refusal n lent) nothing_b
    where
      nothing_a : a ≡ a + 0
      nothing_a = omega arith

      nothing_b : b + 0 ≡ b
      nothing_b = omega arith

  same_told : (lent : ℕ) → told (frames_refusal a lent) ≡ told (frames_refusal b lent)
  same_told lent = ap told (same lent)

  -- Where b passes with 59 bytes a frame lent, a does.
  passes_too : b % frame_bytes ≡ 0 → b / frame_bytes ≤ max_frames → frames_refusal a (59 * (b / frame_bytes)) ≡ None
  passes_too whole few = same (59 * (b / frame_bytes)) ∙ frames_pass b (59 * (b / frame_bytes)) whole few (omega arith)

  broken_too : (a % frame_bytes ≡ 0 → ⊥) → b % frame_bytes ≡ 0 → ⊥
  broken_too h whole = go (dec_le (b / frame_bytes) max_frames)
    where
      go : Dec (b / frame_bytes ≤ max_frames) → ⊥
      go (yes few) = h (frames_passed a (59 * (b / frame_bytes)) (passes_too whole few)).whole
      go (no many) =
          let z : ◌≡◌ {A = ℕ} 14 15 = sym (ap told (frames-broken a 0 h)) ∙ same_told 0 ∙ ap told (frames_many b 0 whole (omega arith)) in
          omega arith

  many_too : a % frame_bytes ≡ 0 → max_frames < a / frame_bytes → (b % frame_bytes ≡ 0) × (max_frames < b / frame_bytes)
  many_too whole many = go (ℕ_discrete (b % frame_bytes) 0) (dec_le (b / frame_bytes) max_frames)
    where
      go : Dec (b % frame_bytes ≡ 0) → Dec (b / frame_bytes ≤ max_frames) → (b % frame_bytes ≡ 0) × (max_frames < b / frame_bytes)
      go (no h) few =
          let z : ◌≡◌ {A = ℕ} 15 14 = sym (ap told (frames_many a 0 whole many)) ∙ same_told 0 ∙ ap told (frames-broken b 0 h) in
          absurd (omega arith)
      go (yes h) (yes few) = absurd (omega (arith, (frames_passed a (59 * (b / frame_bytes)) (passes_too h few)).few))
      go (yes h) (no few) = (h, omega arith)

  equal_else : b % frame_bytes ≡ 0 → b / frame_bytes ≤ max_frames → a ≡ b
  equal_else whole few = let passed = frames_passed a (59 * (b / frame_bytes)) (passes_too whole few) in omega (arith, passed.whole, passed.exact)

alike_back : (a b : ℕ) → RefusedAlike a b → RefusedAlike b a
alike_back a b alike more lent = sym (alike more lent)

broken_words : (a b : ℕ) → RefusedAlike a b → ((n : ℕ) → a ≡ 30 * n → ⊥) → (n : ℕ) → b ≡ 30 * n → ⊥
broken_words a b alike h n e = broken_too a b alike (λ z. h (a / frame_bytes) (omega arith)) (omega arith)

many_words : (a b : ℕ) → RefusedAlike a b → (n : ℕ) × (a ≡ 30 * n) × (1024 < n) → (n : ℕ) × (b ≡ 30 * n) × (1024 < n)
many_words a b alike (n, e, l) = let both = many_too a b alike (omega arith) (omega arith) in (b / frame_bytes, omega (arith, both.0), both.1)

pub alike-lengths : (a b : ℕ) → RefusedAlike a b → LengthsAlike a b
alike-lengths a b alike = record {
  both_broken = (broken_words a b alike, broken_words b a (alike_back a b alike));
  both_many = (many_words a b alike, many_words b a (alike_back a b alike));
  else_equal = λ n e l. equal_else a b alike (omega arith) (omega arith);
}
