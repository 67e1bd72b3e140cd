-- The bytes of a number, low byte first: one more is the next digit to base 256, behind those before it (`low_bytes_next`), and eight are the digits of
-- a number of at most 64 bits (`word-low_bytes`). Assumes nothing.
use Prim.Native.Nat.{ℕ, zero, suc, ◌+◌, ◌*◌, ◌/◌, ◌%◌, ◌^◌, ◌<◌}
use native.Mathlib.Nat.{div-one, div-div-eq-div-mul, pow-succ'}
use native.Mathlib.Omega.{arith}
use mathlib.Core.Path.{◌≡◌, sym, ap, ◌∙◌}
use mathlib.Core.List.{List, [], ◌∷◌, ◌++◌}
use Rattle.command.specs.Writing.{low_bytes}

shift-first : (n i : ℕ) → n / 256 / 256 ^ i ≡ n / 256 ^ suc i
shift-first n i = div-div-eq-div-mul n 256 (256 ^ i) ∙ ap (λ (x : ℕ). n / x) (sym (pow-succ' 256 i))

pub low_bytes_next : (i n : ℕ) → low_bytes (suc i) n ≡ low_bytes i n ++ (n / 256 ^ i % 256 ∷ [])
unfolding low_bytes
low_bytes_next zero n = ap (λ (x : ℕ). x % 256 ∷ []) (sym (div-one n))
low_bytes_next (suc i) n =
    ap (λ (l : List ℕ). n % 256 ∷ l)
    (low_bytes_next i (n / 256) ∙ ap (λ (x : ℕ). low_bytes i (n / 256) ++ (x % 256 ∷ [])) (shift-first n i))

halves : (n : ℕ) → n ≡ n % 256 + 256 * (n / 256)
halves n = omega arith

sum-bytes : (q₀ q₁ q₂ q₃ q₄ q₅ q₆ q₇ r₀ r₁ r₂ r₃ r₄ r₅ r₆ : ℕ) → q₀ ≡ r₀ + 256 * q₁ → q₁ ≡ r₁ + 256 * q₂ → q₂ ≡ r₂ + 256 * q₃ → q₃ ≡ r₃ + 256 * q₄
    → q₄ ≡ r₄ + 256 * q₅ → q₅ ≡ r₅ + 256 * q₆ → q₆ ≡ r₆ + 256 * q₇
    → r₀
    + 256 * r₁
    + 65536 * r₂
    + 16777216 * r₃
    + 4294967296 * r₄
    + 1099511627776 * r₅
    + 281474976710656 * r₆
    + 72057594037927936 * q₇ ≡ q₀
sum-bytes q₀ q₁ q₂ q₃ q₄ q₅ q₆ q₇ r₀ r₁ r₂ r₃ r₄ r₅ r₆ e₀ e₁ e₂ e₃ e₄ e₅ e₆ = omega arith

-- Eight bytes of a number of at most 64 bits.
module _ (n : ℕ) (small : n < 18446744073709551616) where
  last_byte : n / 256 / 256 / 256 / 256 / 256 / 256 / 256 % 256 ≡ n / 256 / 256 / 256 / 256 / 256 / 256 / 256
  last_byte = small_byte (n / 256 / 256 / 256 / 256 / 256 / 256 / 256) below
    where
      small_byte : (q : ℕ) → q < 256 → q % 256 ≡ q
      small_byte q h = omega arith

      part : (q most : ℕ) → q < 256 * most → q / 256 < most
      part q most h = omega arith

      below : n / 256 / 256 / 256 / 256 / 256 / 256 / 256 < 256
      below =
          part _ 256 (part _ 65536 (part _ 16777216 (part _ 4294967296 (part _ 1099511627776 (part _ 281474976710656 (part n 72057594037927936 small))))))

  pub word-low_bytes :
      n % 256
      + 256 * (n / 256 % 256)
      + 65536 * (n / 256 / 256 % 256)
      + 16777216 * (n / 256 / 256 / 256 % 256)
      + 4294967296 * (n / 256 / 256 / 256 / 256 % 256)
      + 1099511627776 * (n / 256 / 256 / 256 / 256 / 256 % 256)
      + 281474976710656 * (n / 256 / 256 / 256 / 256 / 256 / 256 % 256)
      + 72057594037927936 * (n / 256 / 256 / 256 / 256 / 256 / 256 / 256 % 256) ≡ n
  word-low_bytes =
      ap (λ (last : ℕ).
      n % 256
      + 256 * (n / 256 % 256)
      + 65536 * (n / 256 / 256 % 256)
      + 16777216 * (n / 256 / 256 / 256 % 256)
      + 4294967296 * (n / 256 / 256 / 256 / 256 % 256)
      + 1099511627776 * (n / 256 / 256 / 256 / 256 / 256 % 256)
      + 281474976710656 * (n / 256 / 256 / 256 / 256 / 256 / 256 % 256)
      + 72057594037927936 * last) last_byte
      ∙ sum-bytes n (n / 256) (n / 256 / 256) (n / 256 / 256 / 256) (n / 256 / 256 / 256 / 256) (n / 256 / 256 / 256 / 256 / 256)
      (n / 256 / 256 / 256 / 256 / 256 / 256) (n / 256 / 256 / 256 / 256 / 256 / 256 / 256) _ _ _ _ _ _ _
      (halves n) (halves (n / 256)) (halves (n / 256 / 256)) (halves (n / 256 / 256 / 256)) (halves (n / 256 / 256 / 256 / 256))
      (halves (n / 256 / 256 / 256 / 256 / 256)) (halves (n / 256 / 256 / 256 / 256 / 256 / 256))
