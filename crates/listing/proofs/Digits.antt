-- Laws of numbers as text: `io`'s fewest digits are the decimal text, its 16 hexadecimal digits the float's, and how long both are. Assumes nothing.
use Prim.Native.Nat.{ℕ, zero, suc, ◌-◌, ◌*◌, ◌/◌, ◌%◌, ◌^◌, ◌≤◌, ◌<◌}
use native.Mathlib.Nat.{pow-succ', one-le-pow, pow-le-pow_right}
use native.Mathlib.Decide.{dec_lt}
use native.Mathlib.Omega.{arith}
use mathlib.Core.Path.{◌≡◌, refl, sym, ap, ◌∙◌, subst}
use mathlib.Core.Bool.{true}
use mathlib.Core.List.{List, [], ◌∷◌, ◌++◌}
use lib.ListN.{length, length-append}
use lib.Ieee.{Float, nan, inf, fin, binary64, is_nan, to_bits}
use borrow.Author.Tests.{lt-ltb, le-ltb}
use Rattle.io.specs.Digits.{hex_digit_ascii, last_digits, IsDigitCount}
use Rattle.listing.specs.Listing.{decimal_within, decimal_text, float_text}

pub length_digits : (b k n : ℕ) → length (last_digits b k n) ≡ k
length_digits b zero n = refl
length_digits b (suc k) n = simp (length-append, length_digits b k (n / b)) (omega arith)

tenth_below : (n p : ℕ) → n < 10 * p → n / 10 < p
tenth_below n p h = omega arith

tenth_above : (n p : ℕ) → 10 * p ≤ n → p ≤ n / 10
tenth_above n p h = omega arith

one_digit : (most n : ℕ) → n < 10 → decimal_within (suc most) n ≡ hex_digit_ascii n ∷ []
unfolding decimal_within
one_digit most n h = simp (lt-ltb n 10 h)

digit_more : (most n : ℕ) → 10 ≤ n → decimal_within (suc most) n ≡ decimal_within most (n / 10) ++ (hex_digit_ascii (n % 10) ∷ [])
unfolding decimal_within
digit_more most n h = simp (le-ltb n 10 h)

-- The fewest digits that hold n, where so many are enough, are its decimal text.
pub decimal_within_digits : (most k n : ℕ) → k ≤ most → IsDigitCount 10 1 n k → decimal_within most n ≡ last_digits 10 k n
decimal_within_digits most zero n h f = absurd (omega (arith, f.0))
decimal_within_digits zero (suc k) n h f = absurd (omega arith)
decimal_within_digits (suc most) (suc zero) n h f =
    let small : n < 10 = f.1 in
    let same : n ≡ n % 10 = omega arith in
    one_digit most n small ∙ ap (λ (d : ℕ). hex_digit_ascii d ∷ []) same
decimal_within_digits (suc most) (suc (suc k)) n h f =
    let enough : 10 ^ suc k ≤ n = subst (λ (j : ℕ). 10 ^ j ≤ n) (omega arith) (f.2 (omega arith)) in
    let above : 10 * 10 ^ k ≤ n = omega (arith, enough, pow-succ' 10 k) in
    let below : n < 10 * 10 ^ suc k = omega (arith, f.1, pow-succ' 10 (suc k)) in
    let same : k ≡ suc k - 1 = omega arith in
    let fewest : IsDigitCount 10 1 (n / 10) (suc k) = (omega arith, tenth_below n (10 ^ suc k) below, λ _. rw (← same) (tenth_above n (10 ^ k) above)) in
    digit_more most n (omega (arith, above, one-le-pow k 10 (omega arith))) ∙ ap (λ (l : List ℕ). l ++ (hex_digit_ascii (n % 10) ∷ [])) (decimal_within_digits most (suc k) (n / 10) (omega arith) fewest)

pub length-decimal_within-le : (most k n : ℕ) → n < 10 ^ suc k → length (decimal_within most n) ≤ suc k
length-decimal_within-le zero k n h = unfold decimal_within in omega arith
length-decimal_within-le (suc most) zero n h = simp (one_digit most n h) (omega arith)
length-decimal_within-le (suc most) (suc k) n h =
    go (length-decimal_within-le most k (n / 10) (tenth_below n (10 ^ suc k) (omega (arith, pow-succ' 10 (suc k))))) (dec_lt n 10)
  where
    go : length (decimal_within most (n / 10)) ≤ suc k → Dec (n < 10) → length (decimal_within (suc most) n) ≤ suc (suc k)
    go tenth (yes small) = simp (one_digit most n small) (omega arith)
    go tenth (no large) = simp (digit_more most n (omega arith), length-append) (omega arith)

-- The fewest digits of a number are no more than any number of digits that hold it.
fewest_le : (b least n k m : ℕ) → 0 < b → least ≤ m → n < b ^ m → IsDigitCount b least n k → k ≤ m
fewest_le b least n k m h l below f = go (dec_lt m k)
  where
    go : Dec (m < k) → k ≤ m
    go (yes more) =
        let rises : b ^ m ≤ b ^ (k - 1) = pow-le-pow_right h (omega arith) in
        absurd (omega (arith, f.2 (omega arith)))
    go (no most) = omega arith

pub digits_decimal_text : (n k : ℕ) → n < 2 ^ 64 → IsDigitCount 10 1 n k → last_digits 10 k n ≡ decimal_text n
unfolding decimal_text
digits_decimal_text n k h f = sym (decimal_within_digits 20 k n (fewest_le 10 1 n k 20 (omega arith) (omega arith) (omega arith) f) f)

pub length-decimal_text-le : (k n : ℕ) → n < 10 ^ suc k → length (decimal_text n) ≤ suc k
unfolding decimal_text
length-decimal_text-le k n h = length-decimal_within-le 20 k n h

-- A number of 8 bits has at most three digits, and one of 32 bits ten.
pub length_small : (n : ℕ) → n < 256 → length (decimal_text n) ≤ 3
length_small n h = length-decimal_text-le 2 n (omega arith)

pub length_number : (n : ℕ) → n < 2 ^ 32 → length (decimal_text n) ≤ 10
length_number n h = length-decimal_text-le 9 n (omega arith)

-- ---- a float's bits

-- A NaN's text is that of one pattern.
pub to_bits_nan : (x : Float) → is_nan x ≡ true → 0x7ff8_0000_0000_0000 ≡ to_bits binary64 x
unfolding is_nan to_bits
to_bits_nan nan h = refl
to_bits_nan (inf s) h = cc
to_bits_nan (fin s m e) h = cc

pub fewest_sixteen : (n k : ℕ) → n < 2 ^ 64 → IsDigitCount 16 16 n k → k ≡ 16
fewest_sixteen n k h f = omega (arith, f.0, fewest_le 16 16 n k 16 (omega arith) (omega arith) h f)

pub digits_float_text : (x : Float) (n k : ℕ) → n ≡ to_bits binary64 x → k ≡ 16 → last_digits 16 k n ≡ float_text x
unfolding float_text
digits_float_text x n k e f = rw (f, e)

pub length-float_text : (x : Float) → length (float_text x) ≡ 16
unfolding float_text
length-float_text x = length_digits 16 16 (to_bits binary64 x)
