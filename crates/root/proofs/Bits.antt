-- Patterns and values: what the pattern of a finite double above zero is worth, that the root of a double follows from that worth alone,
-- and that `pattern` writes the root down. Assumes nothing.
use mathlib.Core.Path.{◌≡◌, refl, sym, ap, ◌∙◌, subst}
use mathlib.Core.Logic.{◌⊎◌, inl, inr}
use mathlib.Core.Bool.{Bool, true, false, not, ◌&&◌, cond, true≢false}
use Prim.Native.Nat.{ℕ, zero, suc, ◌+◌, ◌-◌, ◌*◌, ◌/◌, ◌%◌, ◌^◌, ◌≤◌, ◌<◌}
use native.Mathlib.Nat.{le_refl, le_trans, le_of_eq, le_antisymm, lt_of_lt_of_le, lt_of_le_of_lt, lt_irrefl, eq-or-lt_of_le, zero-add, add_comm, sub-add_cancel, zero-mul, mul-one, mul_assoc, mul_right_comm, mul-pos, mul-le-mul_right, mul-lt-mul_of_pos_right, lt_of_mul-lt-mul_right, mod-eq_of_lt, mul-div_cancel}
use native.Mathlib.Omega.{arith}
use lib.IntN.{ℤ, pos, negsuc}
use lib.Dec.{T, leb, ltb, eqb, not_T, eqb→eq, leb→le, ltb→lt, lit<, lit≤}
use lib.Arith.{lt→nleb}
use lib.Pow.{pow-add, pow_pos, pow_mono, shl_lt}
use lib.Ieee.{Float, nan, inf, fin, binary64, up, down, size, odd, units, fits, of_fields, of_bits, to_bits}
use lib.Ieee.Digits.{size-lt, size-le}
use lib.Ieee.Exact.{HasValue, odd_sign, units_val}
use lib.Ieee.Fits.{odd-fits, down_pos, inf-fits, kept-lt, and_l, and_r}
use lib.Ieee.Bits.{of_bits-to_bits, is_false, cond_no}
use Rattle.root.specs.Root.{units_of, root_square, dropped, rounded, root_of}
use Rattle.root.specs.Inner.Steps.{pattern}
use Rattle.root.proofs.Scale.{split, dropped-le, Rounded-digits, pattern_is, pow-lt_exponent, pow-le_exponent}

-- ---- reading: a finite pattern with the sign clear

abbrev pub infinite : ℕ
infinite = 0x7ff0_0000_0000_0000

of_bits_fields : (b : ℕ) → of_bits binary64 b ≡ of_fields binary64 (leb (2 ^ 63) b) (b % 2 ^ 63 / 2 ^ 52) (b % 2 ^ 52)
unfolding of_bits
of_bits_fields b = refl

of_bits_finite : (b : ℕ) → b < infinite → of_bits binary64 b ≡ of_fields binary64 false (b / 2 ^ 52) (b % 2 ^ 52)
of_bits_finite b h =
    let l : b < 2 ^ 63 = omega arith in
    of_bits_fields b
    ∙ ap (λ (s : Bool). of_fields binary64 s (b % 2 ^ 63 / 2 ^ 52) (b % 2 ^ 52)) (is_false (leb (2 ^ 63) b) (lt→nleb (2 ^ 63) b l))
    ∙ ap (λ (x : ℕ). of_fields binary64 false (x / 2 ^ 52) (b % 2 ^ 52)) (mod-eq_of_lt l)

field_zero : (t : ℕ) → of_fields binary64 false 0 t ≡ odd 53 false t 0 1074
unfolding of_fields
field_zero t = refl

field_suc : (x t : ℕ) → suc x < 2047 → of_fields binary64 false (suc x) t ≡ odd 53 false (2 ^ 52 + t) x 1074
unfolding of_fields
field_suc x t h = cond_no (eqb (suc x) 2047) (cond (eqb t 0) (inf false) nan) (odd 53 false (2 ^ 52 + t) x 1074) (not_all_ones (suc x) h)
  where
    not_all_ones : (y : ℕ) → y < 2047 → T (not (eqb y 2047))
    not_all_ones y l = not_T (eqb y 2047) (λ e. lt_irrefl 2047 (subst (λ (z : ℕ). z < 2047) (eqb→eq y 2047 e) l))

-- a subnormal is its digits in units, and any other is its significand, shifted by the field
pub value_subnormal : (b : ℕ) → b < infinite → b / 2 ^ 52 ≡ 0 → HasValue (of_bits binary64 b) false (b % 2 ^ 52 * 2 ^ 0) (2 ^ 1074)
value_subnormal b h z =
    let t = b % 2 ^ 52 in
    let is = of_bits_finite b h ∙ ap (λ (f : ℕ). of_fields binary64 false f t) z ∙ field_zero t in
    subst (λ (v : Float). HasValue v false (t * 2 ^ 0) (2 ^ 1074)) (sym is) (odd_sign 53 false t 0 1074)

pub value_normal : (b x : ℕ) → b < infinite → b / 2 ^ 52 ≡ suc x → HasValue (of_bits binary64 b) false ((2 ^ 52 + b % 2 ^ 52) * 2 ^ x) (2 ^ 1074)
value_normal b x h z =
    let t = b % 2 ^ 52 in
    let is = of_bits_finite b h ∙ ap (λ (f : ℕ). of_fields binary64 false f t) z ∙ field_suc x t (omega arith) in
    subst (λ (v : Float). HasValue v false ((2 ^ 52 + t) * 2 ^ x) (2 ^ 1074)) (sym is) (odd_sign 53 false (2 ^ 52 + t) x 1074)

-- ---- the root of what is worth a units

pub units_of_value : (m : ℕ) (e : ℤ) (a : ℕ) → m * up e * 2 ^ 1074 ≡ a * down e → units_of m e ≡ a
unfolding units_of
units_of_value m e a h = ap (λ (x : ℕ). x / down e) h ∙ mul-div_cancel a (down_pos e)

pub root_square_is : (m : ℕ) (e : ℤ) → root_square m e ≡ units_of m e * 2 ^ 1074
unfolding root_square
root_square_is m e = refl

pub root_of_positive : (m : ℕ) (e : ℤ) → root_of (fin false (suc m) e) ≡ units binary64 false (rounded (root_square (suc m) e)) (dropped (root_square (suc m) e))
unfolding root_of
root_of_positive m e = refl

pub root_of_value : (x : Float) (a : ℕ) → HasValue x false a (2 ^ 1074) → 0 < a → root_of x ≡ units binary64 false (rounded (a * 2 ^ 1074)) (dropped (a * 2 ^ 1074))
root_of_value nan a h p = absurd h
root_of_value (inf t) a h p = absurd h
root_of_value (fin true m e) a h p = absurd (true≢false h.0)
root_of_value (fin false zero e) a h p =
    let none : a * down e ≡ 0 = sym h.1 ∙ ap (λ (x : ℕ). x * 2 ^ 1074) (zero-mul (up e)) ∙ zero-mul (2 ^ 1074) in
    absurd (lt_irrefl 0 (subst (λ (x : ℕ). 0 < x) none (mul-pos p (down_pos e))))
root_of_value (fin false (suc m) e) a h p =
    root_of_positive m e
    ∙ ap (λ (s : ℕ). units binary64 false (rounded s) (dropped s)) (root_square_is (suc m) e ∙ ap (λ (x : ℕ). x * 2 ^ 1074) (units_of_value (suc m) e a h.1))

-- ---- writing: the pattern of q * 2 ^ k units, with a q of 53 digits

to_bits-fin : (m : ℕ) (e : ℤ) (a : ℕ) → m * up e * 2 ^ 1074 / down e ≡ a → to_bits binary64 (fin false m e) ≡ 0 + (size a - 53) * 2 ^ 52 + a / 2 ^ (size a - 53)
unfolding to_bits
to_bits-fin m e a h = ap (λ (n : ℕ). 0 + (size n - 53) * 2 ^ 52 + n / 2 ^ (size n - 53)) h

pub to_bits_value : (x : Float) (a : ℕ) → HasValue x false a (2 ^ 1074) → to_bits binary64 x ≡ (size a - 53) * 2 ^ 52 + a / 2 ^ (size a - 53)
to_bits_value nan a h = absurd h
to_bits_value (inf t) a h = absurd h
to_bits_value (fin true m e) a h = absurd (true≢false h.0)
to_bits_value (fin false m e) a h =
    to_bits-fin m e a (ap (λ (x : ℕ). x / down e) h.1 ∙ mul-div_cancel a (down_pos e))
    ∙ ap (λ (x : ℕ). x + a / 2 ^ (size a - 53)) (zero-add ((size a - 53) * 2 ^ 52))

size_is : (i n : ℕ) → 2 ^ i ≤ n → n < 2 ^ suc i → size n ≡ suc i
size_is i n lo hi = le_antisymm (size-le n (suc i) hi) (pow-lt_exponent i (size n) (lt_of_le_of_lt lo (size-lt n)))

written : (a k q : ℕ) → size a - 53 ≡ k → a / 2 ^ k ≡ q → (size a - 53) * 2 ^ 52 + a / 2 ^ (size a - 53) ≡ k * 2 ^ 52 + q
written a k q z d = ap (λ (x : ℕ). x * 2 ^ 52 + a / 2 ^ x) z ∙ ap (λ (x : ℕ). k * 2 ^ 52 + x) d

written_digits : (q k : ℕ) → 2 ^ 52 ≤ q → q < 2 ^ 53 → (size (q * 2 ^ k) - 53) * 2 ^ 52 + q * 2 ^ k / 2 ^ (size (q * 2 ^ k) - 53) ≡ k * 2 ^ 52 + q
written_digits q k lo hi =
    let z : size (q * 2 ^ k) ≡ suc (52 + k) =
    size_is (52 + k) (q * 2 ^ k) (le_trans (le_of_eq (pow-add 2 52 k)) (mul-le-mul_right (2 ^ k) lo)) (subst (λ (x : ℕ). q * 2 ^ k < 2 ^ x) (one_more k) (shl_lt 53 k hi)) in
    written (q * 2 ^ k) k q (omega arith) (mul-div_cancel q (pow_pos k))
  where
    one_more : (k : ℕ) → 53 + k ≡ suc (52 + k)
    one_more k = omega arith

-- where rounding carried into a digit more
written_carry : (k : ℕ) → (size (2 ^ 53 * 2 ^ k) - 53) * 2 ^ 52 + 2 ^ 53 * 2 ^ k / 2 ^ (size (2 ^ 53 * 2 ^ k) - 53) ≡ k * 2 ^ 52 + 2 ^ 53
written_carry k =
    let same : 2 ^ 53 * 2 ^ k ≡ 2 ^ 52 * 2 ^ (k + 1) = sym (pow-add 2 53 k) ∙ ap (λ (x : ℕ). 2 ^ x) (shifted k) ∙ pow-add 2 52 (k + 1) in
    ap (λ (a : ℕ). (size a - 53) * 2 ^ 52 + a / 2 ^ (size a - 53)) same ∙ written_digits (2 ^ 52) (k + 1) (le_refl (2 ^ 52)) (lit< tt) ∙ omega arith
  where
    shifted : (k : ℕ) → 53 + k ≡ 52 + (k + 1)
    shifted k = omega arith

pub units-held : (q k : ℕ) → q ≤ 2 ^ 53 → T (fits binary64 (units binary64 false q k))
unfolding units
units-held q k h = go (ltb (q * 2 ^ k) (2 ^ 2098)) (ltb→lt (q * 2 ^ k) (2 ^ 2098))
  where
    go : (b : Bool) → (T b → q * 2 ^ k < 2 ^ 2098) → T (fits binary64 (cond b (odd 54 false q k 1074) (inf false)))
    go true l = odd-fits binary64 54 false q k (lt_of_le_of_lt h (lit< tt)) h (l tt)
    go false l = inf-fits binary64 false

module _ (q k : ℕ) (lo : 2 ^ 52 ≤ q) (hi : q ≤ 2 ^ 53) (k_le : k ≤ 2000) where
  small : q * 2 ^ k < 2 ^ 2098
  small = lt_of_lt_of_le (shl_lt 54 k (lt_of_le_of_lt hi (lit< tt))) (pow_mono {i = 54 + k} {j = 2098} (omega arith))

  pub units_value : HasValue (units binary64 false q k) false (q * 2 ^ k) (2 ^ 1074)
  units_value = units_val binary64 false q k small

  to_bits-units : to_bits binary64 (units binary64 false q k) ≡ k * 2 ^ 52 + q
  to_bits-units = to_bits_value (units binary64 false q k) (q * 2 ^ k) units_value ∙ go (eq-or-lt_of_le hi)
    where
      go : (q ≡ 2 ^ 53) ⊎ (q < 2 ^ 53) → (size (q * 2 ^ k) - 53) * 2 ^ 52 + q * 2 ^ k / 2 ^ (size (q * 2 ^ k) - 53) ≡ k * 2 ^ 52 + q
      go (inl e) = subst (λ (x : ℕ). (size (x * 2 ^ k) - 53) * 2 ^ 52 + x * 2 ^ k / 2 ^ (size (x * 2 ^ k) - 53) ≡ k * 2 ^ 52 + x) (sym e) (written_carry k)
      go (inr l) = written_digits q k lo l

  pub of_bits-units : of_bits binary64 (k * 2 ^ 52 + q) ≡ units binary64 false q k
  of_bits-units = ap (of_bits binary64) (sym to_bits-units) ∙ of_bits-to_bits binary64 (units binary64 false q k) (units-held q k hi)

-- ---- what `root_bits` promises, from the value of its pattern and the pattern that it returns

abbrev RootPattern : ℕ → ℕ → Type 0
RootPattern b r = (of_bits binary64 r ≡ root_of (of_bits binary64 b)) × (r < infinite)

root_pattern : (b r m j a : ℕ) → 0 < m → m < 2 ^ 53 → 1074 ≤ j → j ≤ 3120
    → HasValue (of_bits binary64 b) false a (2 ^ 1074) → 0 < a → a * 2 ^ 1074 ≡ m * 2 ^ j → r ≡ pattern (m * 2 ^ j) → RootPattern b r
root_pattern b r m j a m_pos m-lt j-ge j-le v a_pos e is =
    let s = m * 2 ^ j in
    let j_more : 104 ≤ j = omega arith in
    let c = split m j m_pos m-lt j_more in
    let d = Rounded-digits c.n_ge c.n_lt c.kept in
    let k_le = dropped-le m j m_pos m-lt j_more in
    let l : dropped s ≤ 2000 = omega arith in
    let t : r ≡ dropped s * 2 ^ 52 + rounded s = is ∙ pattern_is s in (
      ap (of_bits binary64) t
          ∙ of_bits-units (rounded s) (dropped s) d.0 d.1 l
          ∙ sym (root_of_value (of_bits binary64 b) a v a_pos ∙ ap (λ (x : ℕ). units binary64 false (rounded x) (dropped x)) e),
      omega arith,
    )

pub root_subnormal : (b r : ℕ) → 0 < b → b < infinite → b / 2 ^ 52 ≡ 0 → r ≡ pattern (b % 2 ^ 52 * 2 ^ 1074) → RootPattern b r
root_subnormal b r b-pos b_lt z is =
    let m = b % 2 ^ 52 in
    let m_pos : 0 < m = omega arith in
    let same : m * 2 ^ 0 * 2 ^ 1074 ≡ m * 2 ^ 1074 = ap (λ (x : ℕ). x * 2 ^ 1074) (mul-one m) in
    root_pattern b r m 1074 (m * 2 ^ 0) m_pos (omega arith) (lit≤ tt) (lit≤ tt) (value_subnormal b b_lt z) (omega arith) same is

pub root_normal : (b r : ℕ) → b < infinite → (b / 2 ^ 52 ≡ 0 → ⊥) → r ≡ pattern ((b % 2 ^ 52 + 2 ^ 52) * 2 ^ (b / 2 ^ 52 + 1073)) → RootPattern b r
root_normal b r b_lt z is =
    let f = b / 2 ^ 52 in
    let t = b % 2 ^ 52 in
    let a_pos : 0 < 2 ^ 52 + t = omega arith in
    let shifted : f - 1 + 1074 ≡ f + 1073 = omega arith in
    let same : (2 ^ 52 + t) * 2 ^ (f - 1) * 2 ^ 1074 ≡ (t + 2 ^ 52) * 2 ^ (f + 1073) =
    mul_assoc (2 ^ 52 + t) (2 ^ (f - 1)) (2 ^ 1074)
    ∙ ap (λ (y : ℕ). (2 ^ 52 + t) * y) (sym (pow-add 2 (f - 1) 1074) ∙ ap (λ (y : ℕ). 2 ^ y) shifted)
    ∙ ap (λ (y : ℕ). y * 2 ^ (f + 1073)) (add_comm (2 ^ 52) t) in
    root_pattern b r (t + 2 ^ 52) (f + 1073) ((2 ^ 52 + t) * 2 ^ (f - 1)) (omega arith) (omega arith) (omega arith) (omega arith)
    (value_normal b (f - 1) b_lt (omega arith)) (mul-pos a_pos (pow_pos (f - 1))) same is

-- ---- what it takes to be a double that is not zero

pub record Held (m : ℕ) (e : ℤ) : Type 0 where
  pub digits : m < 2 ^ 53
  pub depth : down e ≤ 2 ^ 1074
  pub height : m * up e < 2 ^ 1024 * down e

pub fits-held : (t : Bool) (m : ℕ) (e : ℤ) → T (fits binary64 (fin t (suc m) e)) → Held (suc m) e
unfolding fits
fits-held t m e f =
    let a : Bool = eqb (suc m % 2) 1 in
    let b : Bool = ltb (suc m) (2 ^ 53) in
    let c : Bool = leb (down e) (2 ^ 1074) in
    let d : Bool = ltb (suc m * up e) (2 ^ 1024 * down e) in
    let abc : T (a && b && c) = and_l (a && b && c) d f in
    record {
      digits = ltb→lt (suc m) (2 ^ 53) (and_r a b (and_l (a && b) c abc));
      depth = leb→le (down e) (2 ^ 1074) (and_r (a && b) c abc);
      height = ltb→lt (suc m * up e) (2 ^ 1024 * down e) (and_r (a && b && c) d f);
    }

-- its exponent, counted from the unit's
pub held_exponent : (m : ℕ) (e : ℤ) → Held m e → (j : ℕ) × (m * up e * 2 ^ 1074 ≡ m * 2 ^ j * down e)
held_exponent m (pos a) h = (
  a + 1074,
  mul_assoc m (2 ^ a) (2 ^ 1074) ∙ ap (λ (x : ℕ). m * x) (sym (pow-add 2 a 1074)) ∙ sym (mul-one (m * 2 ^ (a + 1074))),
)
held_exponent m (negsuc a) h =
    let j = 1074 - suc a in
    let back : 2 ^ 1074 ≡ 2 ^ j * 2 ^ suc a = ap (λ (x : ℕ). 2 ^ x) (sym (sub-add_cancel (pow-le_exponent (suc a) 1074 h.depth))) ∙ pow-add 2 j (suc a) in
    (j, ap (λ (x : ℕ). x * 2 ^ 1074) (mul-one m) ∙ ap (λ (x : ℕ). m * x) back ∙ sym (mul_assoc m (2 ^ j) (2 ^ suc a)))

-- and it is below 2 ^ 1024
pub held-lt : (m : ℕ) (e : ℤ) (a : ℕ) → Held m e → m * up e * 2 ^ 1074 ≡ a * down e → a < 2 ^ 2098
held-lt m e a h v =
    let top : 2 ^ 1024 * down e * 2 ^ 1074 ≡ 2 ^ 2098 * down e = mul_right_comm (2 ^ 1024) (down e) (2 ^ 1074) in
    lt_of_mul-lt-mul_right (down e) (rw (← v, ← top) (mul-lt-mul_of_pos_right h.height (pow_pos 1074)))

-- the exponent's field of a finite double is not the one of all ones
below_infinite : (a : ℕ) → a < 2 ^ 2098 → (size a - 53) * 2 ^ 52 + a / 2 ^ (size a - 53) < infinite
below_infinite a h = let z = size-le a 2098 h in let k = kept-lt 53 a in omega arith

pub to_bits-fits : (m : ℕ) (e : ℤ) → T (fits binary64 (fin false m e)) → to_bits binary64 (fin false m e) < infinite
to_bits-fits zero e f =
    let v : 0 * up e * 2 ^ 1074 ≡ 0 * down e = ap (λ (x : ℕ). x * 2 ^ 1074) (zero-mul (up e)) ∙ zero-mul (2 ^ 1074) ∙ sym (zero-mul (down e)) in
    subst (λ (x : ℕ). x < infinite) (sym (to_bits_value (fin false 0 e) 0 (refl, v))) (below_infinite 0 (pow_pos 2098))
to_bits-fits (suc m) e f =
    let h = fits-held false m e f in
    let u = held_exponent (suc m) e h in
    let a = suc m * 2 ^ u.0 in
    subst (λ (x : ℕ). x < infinite) (sym (to_bits_value (fin false (suc m) e) a (refl, u.1))) (below_infinite a (held-lt (suc m) e a h u.1))
