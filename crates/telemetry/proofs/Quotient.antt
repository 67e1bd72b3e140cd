-- Laws of signed counts and their quotients: a word's count, by the half that it lies in; a count and its divisor as doubles, which are exact; and these doubles divided, which
-- is the count's quotient, since equal fractions round alike. Assumes nothing.
use Prim.Native.Nat.{ℕ, zero, suc, ◌+◌, ◌-◌, ◌*◌, ◌/◌, ◌%◌, ◌^◌, ◌≤◌, ◌<◌, compare}
use native.Mathlib.Nat.{mul-one, mul-pos, mul-le-mul_right, le_trans, le_of_eq, lt_of_lt_of_le, lt_of_le_of_lt, div-le_self, div-div-eq-div-mul}
use native.Mathlib.Decide.{dec_lt}
use native.Mathlib.Omega.{arith}
use mathlib.Core.Path.{◌≡◌, refl, sym, ap, ◌∙◌, subst}
use mathlib.Core.Bool.{Bool, true, false, cond}
use lib.Dec.{eqb, lit<, lit≤}
use lib.IntN.{ℤ, pos, negsuc, nat_abs}
use lib.Pow.{pow-add, pow_mono, pow-lt, shl_lt}
use lib.Ieee.{Float, nan, inf, fin, binary64, up, down, minus, unlike, size, odd, units, round, div, of_int}
use lib.Ieee.Digits.{size-le}
use lib.Ieee.Fits.{round_is, nearest-le, kept-lt, down_pos}
use lib.Ieee.Exact.{HasValue, round_exact}
use lib.Ieee.Scale.{round_same, finite}
use Rattle.std.specs.Int.{w32, cast_signed}
use borrow.Author.Tests.{lt-ltb, le-ltb, lt-leb, ne_eqb}
use Rattle.telemetry.specs.Quotient.{count_of, quotient}

-- ---- a word's count

pub count_of_low : (word : ℕ) → word < 2 ^ 31 → count_of word ≡ pos word
unfolding count_of
count_of_low word h = ap (λ (b : Bool). cond b (pos word) (minus word (2 ^ 32))) (lt-ltb word (2 ^ 31) h)

pub count_of_high : (word : ℕ) → 2 ^ 31 ≤ word → word < 2 ^ 32 → count_of word ≡ negsuc (2 ^ 32 - suc word)
unfolding count_of
count_of_high word h k =
    ap (λ (b : Bool). cond b (pos word) (minus word (2 ^ 32))) (le-ltb word (2 ^ 31) h)
    ∙ ap (λ (b : Bool). cond b (pos (word - 2 ^ 32)) (negsuc (2 ^ 32 - suc word))) (lt-leb (2 ^ 32) word k)

-- ---- a whole number as a double

whole_value : (s : Bool) (n : ℕ) → n < 2 ^ 53 → HasValue (round binary64 s n 1) s n 1
whole_value s n h =
    round_exact binary64 s n 1 n 1074 (lit< tt) h (lt_of_lt_of_le (shl_lt 53 1074 h) (pow_mono {i = 53 + 1074} {j = 1074 + 1024} (lit≤ tt))) (sym (mul-one (n * 2 ^ 1074)))

-- ---- divided

unlike_plus : (s : Bool) → unlike s false ≡ s
unlike_plus true = refl
unlike_plus false = refl

cross : (M K n d a b : ℕ) → M * 1 ≡ n * a → K * 1 ≡ d * b → M * b * d ≡ n * (K * a)
cross M K n d a b p q =
    let k : M ≡ n * a = omega arith in
    let l : K ≡ d * b = omega arith in
    rw (k, l) (omega arith)

-- x is n with the sign s, and y is d.
divided : (x y : Float) (s : Bool) (n d : ℕ) → HasValue x s n 1 → HasValue y false d 1 → 0 < d → div binary64 x y ≡ round binary64 s n d
unfolding div
divided nan y s n d v w h = absurd v
divided (inf t) y s n d v w h = absurd v
divided (fin t p e) nan s n d v w h = absurd w
divided (fin t p e) (inf u) s n d v w h = absurd w
divided (fin t p e) (fin u q g) s n d v w h =
    let above : 0 < d * down g = mul-pos h (down_pos g) in
    let some : q ≡ 0 → ⊥ = λ z. omega (arith, w.1, ap (λ (x : ℕ). x * up g * 1) z) in
    let below : 0 < q * up g * down e = mul-pos (omega (arith, w.1)) (down_pos e) in
    ap (λ (b : Bool). cond b (cond (eqb p 0) nan (inf (unlike t u))) (round binary64 (unlike t u) (p * up e * down g) (q * up g * down e))) (ne_eqb q 0 some)
    ∙ ap (λ (b : Bool). round binary64 (unlike t b) (p * up e * down g) (q * up g * down e)) w.0
    ∙ ap (λ (b : Bool). round binary64 b (p * up e * down g) (q * up g * down e)) (unlike_plus t ∙ v.0)
    ∙ round_same binary64 s (p * up e * down g) (q * up g * down e) n d below h (cross (p * up e) (q * up g) n d (down e) (down g) v.1 w.1)

div-quotient : (count : ℤ) (units : ℕ) → nat_abs count ≤ 2 ^ 31 → 0 < units → units < 2 ^ 32
    → div binary64 (of_int binary64 count) (of_int binary64 (pos units)) ≡ quotient count units
unfolding quotient of_int
div-quotient (pos n) units h k l = divided (round binary64 false n 1) (round binary64 false units 1) false n units (whole_value false n (lt_of_le_of_lt h (lit< tt))) (whole_value false units (lt_of_lt_of_le l (lit≤ tt))) k
div-quotient (negsuc n) units h k l = divided (round binary64 true (suc n) 1) (round binary64 false units 1) true (suc n) units (whole_value true (suc n) (lt_of_le_of_lt h (lit< tt))) (whole_value false units (lt_of_lt_of_le l (lit≤ tt))) k

-- ---- over the range of a word

pub count_of_size : (word : ℕ) → word < 2 ^ 32 → nat_abs (count_of word) ≤ 2 ^ 31
count_of_size word h = go (dec_lt word (2 ^ 31))
  where
    go : Dec (word < 2 ^ 31) → nat_abs (count_of word) ≤ 2 ^ 31
    go (yes low) = rw (count_of_low word low) (omega arith)
    go (no high) = let above : 2 ^ 31 ≤ word = omega arith in rw (count_of_high word above h) (omega arith)

-- ---- finite: far from the largest double

finite_odd : (s : Bool) (q k : ℕ) → finite (odd 54 s q k 1074) ≡ true
unfolding odd
finite_odd s zero k = refl
finite_odd s (suc q) k = refl

finite_units : (s : Bool) (q k : ℕ) → q ≤ 2 ^ 53 → k ≤ 2000 → finite (units binary64 s q k) ≡ true
unfolding units
finite_units s q k h l =
    ap (λ (b : Bool). finite (cond b (odd 54 s q k 1074) (inf s))) (lt-ltb (q * 2 ^ k) (2 ^ (1074 + 1024)) under) ∙ finite_odd s q k
  where
    under : q * 2 ^ k < 2 ^ (1074 + 1024)
    under =
        lt_of_le_of_lt (le_trans (mul-le-mul_right (2 ^ k) h) (le_of_eq (sym (pow-add 2 53 k)))) (pow-lt {i = 53 + k} {j = 1074 + 1024} (omega arith))

finite_round : (s : Bool) (n d : ℕ) → n ≤ 2 ^ 31 → finite (round binary64 s n d) ≡ true
finite_round s n d h =
    let N = n * 2 ^ 1074 in
    let k = size (N / d) - 53 in
    let few : k ≤ 2000 = fewer (size (N / d)) (size-le (N / d) 1106 (lt_of_le_of_lt (div-le_self N d) (below n h))) in
    let kept : N / (d * 2 ^ k) < 2 ^ 53 = subst (λ (x : ℕ). x < 2 ^ 53) (div-div-eq-div-mul N d (2 ^ k)) (kept-lt 53 (N / d)) in
    ap finite (round_is binary64 s n d) ∙ finite_units s _ k (le_trans (nearest-le (N / (d * 2 ^ k)) (compare (N % (d * 2 ^ k) * 2) (d * 2 ^ k))) kept) few
  where
    fewer : (z : ℕ) → z ≤ 1106 → z - 53 ≤ 2000
    fewer z l = omega arith

    below : (m : ℕ) → m ≤ 2 ^ 31 → m * 2 ^ 1074 < 2 ^ 1106
    below m l = shl_lt 32 1074 (lt_of_le_of_lt l (lit< tt))

pub quotient_finite : (word d : ℕ) → word < 2 ^ 32 → finite (quotient (count_of word) d) ≡ true
unfolding quotient
quotient_finite word d h = go (count_of word) (count_of_size word h)
  where
    go : (count : ℤ) → nat_abs count ≤ 2 ^ 31 → finite (quotient count d) ≡ true
    go (pos n) l = finite_round false n d l
    go (negsuc n) l = finite_round true (suc n) d l

-- ---- a word in units

-- The count is what the word is as a signed number.
count_of_signed : (word : ℕ) → word < 2 ^ 32 → count_of word ≡ cast_signed w32 word
count_of_signed word h = go (dec_lt word (2 ^ 31))
  where
    go : Dec (word < 2 ^ 31) → count_of word ≡ cast_signed w32 word
    go (yes low) = rw (count_of_low word low, lt-ltb word (2 ^ 31) low)
    go (no high) = let above : 2 ^ 31 ≤ word = omega arith in rw (count_of_high word above h, le-ltb word (2 ^ 31) above)

pub scaled_word : (word units : ℕ) → word < 2 ^ 32 → 0 < units → units < 2 ^ 32
    → div binary64 (of_int binary64 (cast_signed w32 word)) (of_int binary64 (pos units)) ≡ quotient (count_of word) units
scaled_word word units h k l = rw (← count_of_signed word h) (div-quotient (count_of word) units (count_of_size word h) k l)
