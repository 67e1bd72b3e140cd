-- A count n below 2 ^ 53, by a divisor o * 2 ^ j with o odd, rounded to 53 digits: every other double is further from the exact quotient (`nearer`).
-- All is said of whole numbers. In units the quotient is N / D, for N = n * 2 ^ 1074 and D = o * 2 ^ j. Of its whole part the rounding drops k digits:
-- with u = D * 2 ^ k it is r * 2 ^ k, where r is N / u to the nearest whole number.
-- 1. N / u has 53 digits: 2 ^ 52 * u is at most N (`count_ge`). And N is below 2 ^ (53 + 1074), so j + k is at most 1074 (`dropped-le`).
-- 2. N / u is never midway between two whole numbers: 2 * N would be an odd number times 2 ^ (j + k), and it is a multiple of 2 ^ 1075 (`no_half`).
--    So r * u is less than half of u away from N (`Rounded`).
-- 3. A double other than r * 2 ^ k is at least 2 ^ k away from it, or r is 2 ^ 52 and it is a smaller one (`apart_below`, `apart_above`, by the `grid` of `root`).
-- 4. From one that is at least 2 ^ k away the midpoint is half of that away or more: N / D is on r * 2 ^ k's side of it (`nearer-below`, `nearer-above`).
--    And where r is 2 ^ 52, N / D is at least r * 2 ^ k, and so above its midpoint with a smaller double (`at_the_power`).
-- Assumes nothing.
use mathlib.Core.Path.{◌≡◌, sym, ap, ◌∙◌, subst}
use mathlib.Core.Logic.{◌⊎◌, inl, inr, ⊎_elim}
use mathlib.Core.Bool.{not}
use Prim.Native.Nat.{ℕ, ◌+◌, ◌-◌, ◌*◌, ◌/◌, ◌%◌, ◌^◌, ◌≤◌, ◌<◌, compare, Ordering}
use native.Mathlib.Nat.{le_trans, le_of_eq, le_of_lt, le_of_suc-le-suc, lt_of_lt_of_le, lt_of_le_of_lt, lt_of_not-le, not-le_of_lt, eq-or-lt_of_le, one-mul, mul_assoc, mul_right_comm, mul-pos, mul-le-mul_left, mul-le-mul_right, mul-lt-mul_of_pos_right, eq_of_mul-eq-mul_right, div-add-mod', mod-lt, le-div_iff_mul-le, div-div-eq-div-mul}
use native.Mathlib.Omega.{arith}
use lib.Dec.{T, is_le, compare_is_eq, leb→le, nleb→lt, eqb→eq, lit<}
use lib.Pow.{pow-add, pow_pos, pow_mono, shl_lt}
use lib.Ieee.{binary64, size, nearest}
use lib.Ieee.Digits.{size_reaches}
use lib.Ieee.Fits.{nearest-le, kept-lt}
use lib.Ieee.Nearest.{closest, nearest-ge}
use lib.Ieee.Order.{drop, kept}
use lib.Ieee.Scale.{normal_of_fraction}
use Rattle.root.proofs.Nearest.{grid, step}
use Rattle.claims_telemetry.specs.Nearest.{Nearer}

-- ---- N / u to the nearest whole number, where it is not midway between two

record Rounded (N u r : ℕ) : Type 0 where
  below : 2 * (r * u) < 2 * N + u
  above : 2 * N < 2 * (r * u) + u

closest_rounded : (N u : ℕ) → 0 < u → (N % u * 2 ≡ u → ⊥) → Rounded N u (closest N u)
closest_rounded N u u-pos midway = go (compare (N % u * 2) u) (leb→le (N % u * 2) u) (nleb→lt (N % u * 2) u) (eqb→eq (N % u * 2) u)
  where
    go : (o : Ordering) → (T (is_le o) → N % u * 2 ≤ u) → (T (not (is_le o)) → u < N % u * 2) → (T (compare_is_eq o) → N % u * 2 ≡ u) → Rounded N u (nearest (N / u) o)
    go Ordering.lt at_most past same = let e = div-add-mod' N u in let a = at_most tt in record { below = omega arith; above = omega arith }
    go Ordering.eq at_most past same = absurd (midway (same tt))
    go Ordering.gt at_most past same =
        let e = div-add-mod' N u in
        let a = past tt in
        let l = mod-lt N u-pos in
        record { below = omega arith; above = omega arith }

-- ---- 2 * N is no odd number times o * 2 ^ (j + k)

odd_product_not_even : (q o a : ℕ) → o % 2 ≡ 1 → 2 * a ≡ (2 * q + 1) * o → ⊥
odd_product_not_even q o a h e = omega arith

no_half : (l n o j k q : ℕ) → o % 2 ≡ 1 → j + k ≤ l → 2 * (n * 2 ^ l) ≡ (2 * q + 1) * (o * 2 ^ j * 2 ^ k) → ⊥
no_half l n o j k q o-odd most e =
    let i = l - (j + k) in
    let P = 2 ^ (j + k) in
    let back : i + (j + k) ≡ l = omega arith in
    let left : 2 * (n * 2 ^ l) ≡ 2 * (n * 2 ^ i) * P = ap (λ (x : ℕ). 2 * (n * x)) (ap (λ (x : ℕ). 2 ^ x) (sym back) ∙ pow-add 2 i (j + k)) ∙ simp mul_assoc in
    let right : (2 * q + 1) * (o * 2 ^ j * 2 ^ k) ≡ (2 * q + 1) * o * P = simp (mul_assoc, pow-add) in
    odd_product_not_even q o (n * 2 ^ i) o-odd (eq_of_mul-eq-mul_right P (pow_pos (j + k)) (2 * (n * 2 ^ i)) ((2 * q + 1) * o) (sym left ∙ e ∙ right))

-- ---- the doubles about r * 2 ^ k, for an r of 53 digits or more: the double is z * 2 ^ j units

module _ (r k z j : ℕ) (r-ge : 2 ^ 52 ≤ r) (z-lt : z < 2 ^ 53) where
  apart_below : z * 2 ^ j < r * 2 ^ k → (z * 2 ^ j + 2 ^ k ≤ r * 2 ^ k) ⊎ (2 ^ 52 ≡ r)
  apart_below l =
      ⊎_elim
      (λ (g : (w : ℕ) × (z * 2 ^ j ≡ w * 2 ^ k)).
      inl (subst (λ (x : ℕ). x + 2 ^ k ≤ r * 2 ^ k) (sym g.1) (step g.0 r (2 ^ k) (subst (λ (x : ℕ). x < r * 2 ^ k) g.1 l))))
      (λ (g : z * 2 ^ j < 2 ^ 52 * 2 ^ k).
      ⊎_elim (λ (e : 2 ^ 52 ≡ r). inr e)
      (λ (m : 2 ^ 52 < r). inl (room (z * 2 ^ j) (2 ^ 52 * 2 ^ k) (2 ^ k) (r * 2 ^ k) g (step (2 ^ 52) r (2 ^ k) (mul-lt-mul_of_pos_right m (pow_pos k)))))
      (eq-or-lt_of_le r-ge))
      (grid k z j z-lt)
    where
      room : (Z A P R : ℕ) → Z < A → A + P ≤ R → Z + P ≤ R
      room Z A P R f g = omega arith

  apart_above : r * 2 ^ k < z * 2 ^ j → r * 2 ^ k + 2 ^ k ≤ z * 2 ^ j
  apart_above l =
      ⊎_elim
      (λ (g : (w : ℕ) × (z * 2 ^ j ≡ w * 2 ^ k)).
      subst (λ (x : ℕ). r * 2 ^ k + 2 ^ k ≤ x) (sym g.1) (step r g.0 (2 ^ k) (subst (λ (x : ℕ). r * 2 ^ k < x) g.1 l)))
      (λ (g : z * 2 ^ j < 2 ^ 52 * 2 ^ k). absurd (not-le_of_lt (lt_of_lt_of_le l (le_of_lt g)) (mul-le-mul_right (2 ^ k) r-ge)))
      (grid k z j z-lt)

-- ---- on which side of a midpoint N / D is; P is 2 ^ k

nearer-below : (N D P r Z : ℕ) → Rounded N (D * P) r → Z + P ≤ r * P → (r * P + Z) * D < 2 * N
nearer-below N D P r Z a g =
    let m : (r * P + Z + P) * D ≤ 2 * (r * P) * D = mul-le-mul_right D (twice (r * P) Z P g) in
    omega arith
  where
    twice : (R Z P : ℕ) → Z + P ≤ R → R + Z + P ≤ 2 * R
    twice R Z P g = omega arith

nearer-above : (N D P r Z : ℕ) → Rounded N (D * P) r → r * P + P ≤ Z → 2 * N < (r * P + Z) * D
nearer-above N D P r Z a g =
    let m : (2 * (r * P) + P) * D ≤ (r * P + Z) * D = mul-le-mul_right D (twice (r * P) Z P g) in
    omega arith
  where
    twice : (R Z P : ℕ) → R + P ≤ Z → 2 * R + P ≤ R + Z
    twice R Z P g = omega arith

at_the_power : (N D P r Z : ℕ) → 0 < D → r * (D * P) ≤ N → Z < r * P → (r * P + Z) * D < 2 * N
at_the_power N D P r Z D-pos g l =
    let m : (r * P + Z) * D < 2 * (r * P) * D = mul-lt-mul_of_pos_right (twice (r * P) Z l) D-pos in
    omega arith
  where
    twice : (R Z : ℕ) → Z < R → R + Z < 2 * R
    twice R Z l = omega arith

-- ---- a count of n by the divisor D, in units

-- how many digits the rounding drops, and the number that it keeps
abbrev pub dropped : ℕ → ℕ → ℕ
dropped n D = drop 53 (n * 2 ^ 1074) D

abbrev pub rounded : ℕ → ℕ → ℕ
rounded n D = kept 53 (n * 2 ^ 1074) D

pub odd_pos : (o : ℕ) → o % 2 ≡ 1 → 0 < o
odd_pos o h = omega arith

-- `normal` says that 1 / D is 2 ^ 52 units at least, so that every quotient but 0 has 53 digits to keep
module _ (n o j : ℕ) (n_pos : 0 < n) (n_lt : n < 2 ^ 53) (o-odd : o % 2 ≡ 1) (normal : 2 ^ 52 * (o * 2 ^ j) ≤ 2 ^ 1074) where
  divisor_pos : 0 < o * 2 ^ j
  divisor_pos = mul-pos (odd_pos o o-odd) (pow_pos j)

  scaled_divisor_pos : 0 < o * 2 ^ j * 2 ^ dropped n (o * 2 ^ j)
  scaled_divisor_pos = mul-pos divisor_pos (pow_pos (dropped n (o * 2 ^ j)))

  count_ge : 2 ^ 52 * (o * 2 ^ j * 2 ^ dropped n (o * 2 ^ j)) ≤ n * 2 ^ 1074
  count_ge =
      let D = o * 2 ^ j in
      let N = n * 2 ^ 1074 in
      let k = dropped n D in
      let one-count : 2 ^ 1074 ≤ N = le_trans (le_of_eq (sym (one-mul (2 ^ 1074)))) (mul-le-mul_right (2 ^ 1074) n_pos) in
      let all_digits : 53 ≤ size (N / D) = normal_of_fraction binary64 n D divisor_pos (le_trans normal one-count) in
      let leading : 2 ^ (52 + k) * D ≤ N = (le-div_iff_mul-le divisor_pos).0 (size_reaches (N / D) (52 + k) (last_digit (size (N / D)) all_digits)) in
      le_trans (le_of_eq (regrouped D k)) leading
    where
      last_digit : (z : ℕ) → 53 ≤ z → 52 + (z - 53) < z
      last_digit z h = omega arith

      regrouped : (D k : ℕ) → 2 ^ 52 * (D * 2 ^ k) ≡ 2 ^ (52 + k) * D
      regrouped D k = sym (mul_assoc (2 ^ 52) D (2 ^ k)) ∙ mul_right_comm (2 ^ 52) D (2 ^ k) ∙ ap (λ (x : ℕ). x * D) (sym (pow-add 2 52 k))

  dropped-le : j + dropped n (o * 2 ^ j) ≤ 1074
  dropped-le =
      let k = dropped n (o * 2 ^ j) in
      le_of_suc-le-suc (lt_of_not-le (λ (g : 1075 ≤ j + k).
      not-le_of_lt (shl_lt 53 1074 n_lt) (le_trans (pow_mono {i = 1127} {j = 52 + (j + k)} (omega arith)) (le_trans (powers k) count_ge))))
    where
      powers : (k : ℕ) → 2 ^ (52 + (j + k)) ≤ 2 ^ 52 * (o * 2 ^ j * 2 ^ k)
      powers k =
          let at_least : 2 ^ j ≤ o * 2 ^ j = le_trans (le_of_eq (sym (one-mul (2 ^ j)))) (mul-le-mul_right (2 ^ j) (odd_pos o o-odd)) in
          le_trans (le_of_eq (pow-add 2 52 (j + k) ∙ ap (λ (x : ℕ). 2 ^ 52 * x) (pow-add 2 j k))) (mul-le-mul_left (2 ^ 52) (mul-le-mul_right (2 ^ k) at_least))

  rounded_is : Rounded (n * 2 ^ 1074) (o * 2 ^ j * 2 ^ dropped n (o * 2 ^ j)) (rounded n (o * 2 ^ j))
  rounded_is =
      let N = n * 2 ^ 1074 in
      let k = dropped n (o * 2 ^ j) in
      let u = o * 2 ^ j * 2 ^ k in
      closest_rounded N u scaled_divisor_pos (λ (e : N % u * 2 ≡ u). no_half 1074 n o j k (N / u) o-odd dropped-le (midway N u e))
    where
      midway : (N u : ℕ) → N % u * 2 ≡ u → 2 * N ≡ (2 * (N / u) + 1) * u
      midway N u e = let d = div-add-mod' N u in omega arith

  rounded_ge : 2 ^ 52 ≤ rounded n (o * 2 ^ j)
  rounded_ge =
      let N = n * 2 ^ 1074 in
      let u = o * 2 ^ j * 2 ^ dropped n (o * 2 ^ j) in
      le_trans ((le-div_iff_mul-le scaled_divisor_pos).1 count_ge) (nearest-ge (N / u) (compare (N % u * 2) u))

  pub no_overflow : rounded n (o * 2 ^ j) * 2 ^ dropped n (o * 2 ^ j) < 2 ^ 2098
  no_overflow =
      let D = o * 2 ^ j in
      let N = n * 2 ^ 1074 in
      let k = dropped n D in
      let u = D * 2 ^ k in
      let l = dropped-le in
      let few_digits : N / u < 2 ^ 53 = subst (λ (x : ℕ). x < 2 ^ 53) (div-div-eq-div-mul N D (2 ^ k)) (kept-lt 53 (N / D)) in
      let at_most : rounded n D ≤ 2 ^ 53 = le_trans (nearest-le (N / u) (compare (N % u * 2) u)) few_digits in
      lt_of_lt_of_le (shl_lt 54 k (lt_of_le_of_lt at_most (lit< tt))) (pow_mono {i = 54 + k} {j = 2098} (omega arith))

  pub nearer : (z i : ℕ) → z < 2 ^ 53 → Nearer n (o * 2 ^ j) (rounded n (o * 2 ^ j) * 2 ^ dropped n (o * 2 ^ j)) (z * 2 ^ i)
  nearer z i z-lt =
      let D = o * 2 ^ j in
      let N = n * 2 ^ 1074 in
      let k = dropped n D in
      let r = rounded n D in
      record {
        from_below = λ (l : z * 2 ^ i < r * 2 ^ k).
            ⊎_elim (λ (g : z * 2 ^ i + 2 ^ k ≤ r * 2 ^ k). nearer-below N D (2 ^ k) r (z * 2 ^ i) rounded_is g)
            (λ (e : 2 ^ 52 ≡ r). at_the_power N D (2 ^ k) r (z * 2 ^ i) divisor_pos (subst (λ (x : ℕ). x * (D * 2 ^ k) ≤ N) e count_ge) l)
            (apart_below r k z i rounded_ge z-lt l);
        from_above = λ (l : r * 2 ^ k < z * 2 ^ i). nearer-above N D (2 ^ k) r (z * 2 ^ i) rounded_is (apart_above r k z i rounded_ge z-lt l);
      }
