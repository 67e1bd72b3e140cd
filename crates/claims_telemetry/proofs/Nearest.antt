-- `quotient` is the double nearest the exact quotient, by both divisors: `metres_nearest`, `units_nearest`. The rotation numbers are the exact quotient: `units-exact`.
-- Nothing else is: `only_nearest`, `only_exact`. No exact quotient in metres is midway between two neighbours: `no_tie`. A zero word gives plus zero: `zero_is_plus`.
-- 1. Where the exact quotient is a double, `quotient` is it (`quotient-exact`, by `round_exact` of the kit): so at 0, and by `rotation_units`. What is exact is nearest
--    (`exact_nearest`).
-- 2. A count other than 0 is rounded to r * 2 ^ k units, which is finite and nearer than every other double (`nearer` of Rounding.antt): `rounded_nearest`.
-- 3. Of two that are each nearer than every other neither is the smaller, and two doubles of one sign and one size are one (`same_double`, by `same_units` of `root`).
-- 4. At a tie between two neighbours the nearest double would be strictly between them.
-- Assumes nothing.
use mathlib.Core.Path.{◌≡◌, refl, sym, ap, ◌∙◌, subst}
use mathlib.Core.Bool.{Bool, true, false, true≢false, false≢true}
use Prim.Native.Nat.{ℕ, zero, suc, ◌+◌, ◌*◌, ◌%◌, ◌^◌, ◌≤◌, ◌<◌}
use native.Mathlib.Nat.{le_refl, le_of_lt, le_of_eq, le_of_suc-le-suc, le_trans, le_antisymm, lt_of_lt_of_le, lt_of_le_of_lt, lt_of_not-le, lt_irrefl, zero-lt-suc, zero-mul, add_comm, add-le-add, mul_assoc, mul_right_comm, mul-pos, mul-le-mul_right, mul-lt-mul_of_pos_right, eq_of_mul-eq-mul_right}
use native.Mathlib.Omega.{arith}
use lib.Dec.{T, lit<, lit≤}
use lib.IntN.{ℤ, pos, negsuc, nat_abs}
use lib.Pow.{pow_pos, pow_mono, shl_lt}
use lib.Ieee.{Float, nan, inf, fin, binary64, up, down, neg, round, fits}
use lib.Ieee.Exact.{HasValue, units_val, round_exact}
use lib.Ieee.Fits.{neg-fits, round_is, round-fits}
use Rattle.root.specs.Root.{units_of, units_in_one, Neighbours}
use Rattle.root.proofs.Bits.{units_of_value}
use Rattle.root.proofs.Nearest.{double-units, same_units}
use Rattle.telemetry.specs.Quotient.{quotient, micrometres, rotation_units}
use Rattle.claims_telemetry.specs.Nearest.{is_negative, Nearer, NearestQuotient, IsNearest, IsExact}
use Rattle.claims_telemetry.proofs.Rounding.{dropped, rounded, odd_pos, no_overflow, nearer}

-- ---- `quotient` by the sign and the size of its count

quotient_is : (count : ℤ) (divisor : ℕ) → quotient count divisor ≡ round binary64 (is_negative count) (nat_abs count) divisor
unfolding quotient
quotient_is (pos n) divisor = refl
quotient_is (negsuc n) divisor = refl

-- The format holds it, whatever the count. That it is finite where the count is in range is part of `IsNearest`.
pub quotient-held : (count : ℤ) (divisor : ℕ) → T (fits binary64 (quotient count divisor))
quotient-held count divisor = subst (λ (x : Float). T (fits binary64 x)) (sym (quotient_is count divisor)) (round-fits binary64 (is_negative count) (nat_abs count) divisor)

-- ---- what is exact is nearest

exact-nearer : (n divisor Y Z : ℕ) → 0 < divisor → Y * divisor ≡ n * units_in_one → Nearer n divisor Y Z
exact-nearer n divisor Y Z p e = record {
  from_below = λ (l : Z < Y). lt_of_lt_of_le (mul-lt-mul_of_pos_right (smaller l) p) (le_of_eq twice);
  from_above = λ (l : Y < Z). lt_of_le_of_lt (le_of_eq (sym twice)) (mul-lt-mul_of_pos_right (larger l) p);
}
  where
    twice : 2 * Y * divisor ≡ 2 * (n * units_in_one)
    twice = mul_assoc 2 Y divisor ∙ ap (λ (x : ℕ). 2 * x) e

    smaller : Z < Y → Y + Z < 2 * Y
    smaller l = omega arith

    larger : Y < Z → 2 * Y < Y + Z
    larger l = omega arith

exact_nearest : (count : ℤ) (divisor : ℕ) → 0 < divisor → (x : Float) → IsExact count divisor x → IsNearest count divisor x
exact_nearest count divisor p nan a = a
exact_nearest count divisor p (inf s) a = a
exact_nearest count divisor p (fin s m e) a = record {
  same_sign = a.same_sign;
  held = a.held;
  nearest_of_all = λ t n c f. exact-nearer (nat_abs count) divisor (units_of m e) (units_of n c) p a.exact;
}

-- ---- where the quotient is a double, q * 2 ^ j units

value_exact : (count : ℤ) (divisor a : ℕ) → 0 < divisor → nat_abs count * 2 ^ 1074 ≡ a * divisor
    → (x : Float) → HasValue x (is_negative count) (nat_abs count) divisor → T (fits binary64 x) → IsExact count divisor x
value_exact count divisor a p e nan v f = v
value_exact count divisor a p e (inf s) v f = v
value_exact count divisor a p e (fin s m c) v f =
    let worth : m * up c * 2 ^ 1074 ≡ a * down c =
    eq_of_mul-eq-mul_right divisor p (m * up c * 2 ^ 1074) (a * down c)
    (mul_right_comm (m * up c) (2 ^ 1074) divisor
    ∙ ap (λ (x : ℕ). x * 2 ^ 1074) v.1
    ∙ mul_right_comm (nat_abs count) (down c) (2 ^ 1074)
    ∙ ap (λ (x : ℕ). x * down c) e
    ∙ mul_right_comm a divisor (down c)) in
    record { same_sign = v.0; held = f; exact = ap (λ (x : ℕ). x * divisor) (units_of_value m c a worth) ∙ sym e }

quotient-exact : (count : ℤ) (divisor q j : ℕ) → 0 < divisor → q < 2 ^ 53 → q * 2 ^ j < 2 ^ 2098 → nat_abs count * 2 ^ 1074 ≡ q * 2 ^ j * divisor
    → IsExact count divisor (quotient count divisor)
quotient-exact count divisor q j p small fine e =
    value_exact count divisor (q * 2 ^ j) p e (quotient count divisor)
    (subst (λ (x : Float). HasValue x (is_negative count) (nat_abs count) divisor) (sym (quotient_is count divisor))
    (round_exact binary64 (is_negative count) (nat_abs count) divisor q j p small fine e))
    (quotient-held count divisor)

zero-quotient : (divisor : ℕ) → 0 < divisor → IsExact (pos 0) divisor (quotient (pos 0) divisor)
zero-quotient divisor p = quotient-exact (pos 0) divisor 0 0 p (lit< tt) (lit< tt) (sym (zero-mul divisor))

pub units-exact : (count : ℤ) → nat_abs count ≤ 2 ^ 31 → IsExact count rotation_units (quotient count rotation_units)
units-exact count h =
    let n = nat_abs count in
    let small : n < 2 ^ 53 = lt_of_le_of_lt h (lit< tt) in
    quotient-exact count rotation_units n 1044 (pow_pos 30) small (lt_of_lt_of_le (shl_lt 53 1044 small) (pow_mono {i = 53 + 1044} {j = 2098} (lit≤ tt)))
    (sym (mul_assoc n (2 ^ 1044) (2 ^ 30)))

-- ---- where it is rounded

rounded_nearest : (count : ℤ) (o j : ℕ) → 0 < nat_abs count → nat_abs count < 2 ^ 53 → o % 2 ≡ 1 → 2 ^ 52 * (o * 2 ^ j) ≤ 2 ^ 1074
    → IsNearest count (o * 2 ^ j) (quotient count (o * 2 ^ j))
rounded_nearest count o j n_pos n_lt o-odd normal =
    go (quotient count D)
    (subst (λ (x : Float). HasValue x (is_negative count) R (2 ^ 1074)) (sym (quotient_is count D ∙ round_is binary64 (is_negative count) n D))
    (units_val binary64 (is_negative count) (rounded n D) (dropped n D) (no_overflow n o j n_pos n_lt o-odd normal)))
    (quotient-held count D)
  where
    n : ℕ
    n = nat_abs count

    D : ℕ
    D = o * 2 ^ j

    R : ℕ
    R = rounded n D * 2 ^ dropped n D

    nearer_of_all : (t : Bool) (m : ℕ) (c : ℤ) → T (fits binary64 (fin t m c)) → Nearer n D R (units_of m c)
    nearer_of_all t m c f = let u = double-units t m c f in subst (λ (Z : ℕ). Nearer n D R Z) (sym u.1) (nearer n o j n_pos n_lt o-odd normal m u.0 u.2)

    go : (x : Float) → HasValue x (is_negative count) R (2 ^ 1074) → T (fits binary64 x) → IsNearest count D x
    go nan v f = v
    go (inf s) v f = v
    go (fin s p d) v f = record {
      same_sign = v.0;
      held = f;
      nearest_of_all = λ t m c g. subst (λ (Y : ℕ). Nearer n D Y (units_of m c)) (sym (units_of_value p d R v.1)) (nearer_of_all t m c g);
    }

-- a count below 2 ^ 53, by an o * 2 ^ j of at most 2 ^ 1022 with o odd
quotient_nearest : (count : ℤ) (o j : ℕ) → nat_abs count < 2 ^ 53 → o % 2 ≡ 1 → 2 ^ 52 * (o * 2 ^ j) ≤ 2 ^ 1074
    → IsNearest count (o * 2 ^ j) (quotient count (o * 2 ^ j))
quotient_nearest (pos zero) o j n_lt o-odd normal =
    let p : 0 < o * 2 ^ j = mul-pos (odd_pos o o-odd) (pow_pos j) in
    exact_nearest (pos 0) (o * 2 ^ j) p (quotient (pos 0) (o * 2 ^ j)) (zero-quotient (o * 2 ^ j) p)
quotient_nearest (pos (suc n)) o j n_lt o-odd normal = rounded_nearest (pos (suc n)) o j (zero-lt-suc n) n_lt o-odd normal
quotient_nearest (negsuc n) o j n_lt o-odd normal = rounded_nearest (negsuc n) o j (zero-lt-suc n) n_lt o-odd normal

pub metres_nearest : (count : ℤ) → nat_abs count ≤ 2 ^ 31 → IsNearest count micrometres (quotient count micrometres)
metres_nearest count h = quotient_nearest count 15625 6 (lt_of_le_of_lt h (lit< tt)) refl (lit≤ tt)

pub units_nearest : (count : ℤ) → nat_abs count ≤ 2 ^ 31 → IsNearest count rotation_units (quotient count rotation_units)
units_nearest count h = quotient_nearest count 1 30 (lt_of_le_of_lt h (lit< tt)) refl (lit≤ tt)

-- ---- nothing else is

-- two doubles of one sign and one size are one
same_double : (s : Bool) (p : ℕ) (d : ℤ) (t : Bool) (q : ℕ) (c : ℤ) → s ≡ t → T (fits binary64 (fin s p d)) → T (fits binary64 (fin t q c)) → units_of p d ≡ units_of q c
    → fin s p d ≡ fin t q c
unfolding neg
same_double false p d false q c z f g e = same_units p d q c f g e
same_double true p d true q c z f g e = ap neg (same_units p d q c (neg-fits binary64 (fin true p d) f) (neg-fits binary64 (fin true q c) g) e)
same_double false p d true q c z f g e = absurd (false≢true z)
same_double true p d false q c z f g e = absurd (true≢false z)

-- of two that are each nearer than every other, neither is the smaller
not_smaller : (n divisor Y Z : ℕ) → Nearer n divisor Y Z → Nearer n divisor Z Y → Y ≤ Z
not_smaller n divisor Y Z a b =
    le_of_suc-le-suc (lt_of_not-le (λ (g : Z < Y).
    let past : 2 * (n * units_in_one) < (Y + Z) * divisor = subst (λ (x : ℕ). 2 * (n * units_in_one) < x * divisor) (add_comm Z Y) (b.from_above g) in
    lt_irrefl (2 * (n * units_in_one)) (lt_of_lt_of_le past (le_of_lt (a.from_below g)))))

pub only_nearest : (count : ℤ) (divisor : ℕ) (x y : Float) → IsNearest count divisor x → IsNearest count divisor y → x ≡ y
only_nearest count divisor nan y a b = absurd a
only_nearest count divisor (inf s) y a b = absurd a
only_nearest count divisor (fin s p d) nan a b = absurd b
only_nearest count divisor (fin s p d) (inf t) a b = absurd b
only_nearest count divisor (fin s p d) (fin t q c) a b =
    let n = nat_abs count in
    let u : Nearer n divisor (units_of p d) (units_of q c) = a.nearest_of_all t q c b.held in
    let v : Nearer n divisor (units_of q c) (units_of p d) = b.nearest_of_all s p d a.held in
    same_double s p d t q c (a.same_sign ∙ sym b.same_sign) a.held b.held
    (le_antisymm (not_smaller n divisor (units_of p d) (units_of q c) u v) (not_smaller n divisor (units_of q c) (units_of p d) v u))

pub only_exact : (count : ℤ) (divisor : ℕ) → 0 < divisor → (x y : Float) → IsExact count divisor x → IsExact count divisor y → x ≡ y
only_exact count divisor p x y a b = only_nearest count divisor x y (exact_nearest count divisor p x a) (exact_nearest count divisor p y b)

-- ---- plus zero

zero-exact : (divisor : ℕ) → IsExact (pos 0) divisor (fin false 0 (pos 0))
zero-exact divisor = record { same_sign = refl; held = unfold fits in tt; exact = unfold units_of in zero-mul divisor }

pub zero_is_plus : (divisor : ℕ) → 0 < divisor → quotient (pos 0) divisor ≡ fin false 0 (pos 0)
zero_is_plus divisor p = only_exact (pos 0) divisor p (quotient (pos 0) divisor) (fin false 0 (pos 0)) (zero-quotient divisor p) (zero-exact divisor)

-- ---- no tie

-- The exact quotient never lies midway between two neighbours: it is nearer to one double than to all others, and that one is not between them.
pub no_tie : (count : ℤ) (n : ℕ) (c : ℤ) (p : ℕ) (d : ℤ) → nat_abs count ≤ 2 ^ 31 → Neighbours n c p d
    → 2 * (nat_abs count * units_in_one) ≡ (units_of n c + units_of p d) * micrometres → ⊥
no_tie count n c p d h two tie = go (quotient count micrometres) (metres_nearest count h)
  where
    -- from the smaller one or below it, or from the larger one or above it, the other would be no further than a tie
    not_low : (s : Bool) (q : ℕ) (b : ℤ) → NearestQuotient count micrometres s q b → units_of n c < units_of q b
    not_low s q b i =
        lt_of_not-le (λ (a : units_of q b ≤ units_of n c).
        lt_irrefl (2 * (nat_abs count * units_in_one))
        (lt_of_lt_of_le ((i.nearest_of_all false p d two.upper_held).from_above (lt_of_le_of_lt a two.apart))
        (le_trans (mul-le-mul_right micrometres (add-le-add a (le_refl (units_of p d)))) (le_of_eq (sym tie)))))

    not_high : (s : Bool) (q : ℕ) (b : ℤ) → NearestQuotient count micrometres s q b → units_of q b < units_of p d
    not_high s q b i =
        lt_of_not-le (λ (a : units_of p d ≤ units_of q b).
        lt_irrefl (2 * (nat_abs count * units_in_one))
        (lt_of_le_of_lt
        (le_trans (le_of_eq (tie ∙ ap (λ (x : ℕ). x * micrometres) (add_comm (units_of n c) (units_of p d)))) (mul-le-mul_right micrometres (add-le-add a (le_refl (units_of n c)))))
        ((i.nearest_of_all false n c two.lower_held).from_below (lt_of_lt_of_le two.apart a))))

    go : (x : Float) → IsNearest count micrometres x → ⊥
    go nan i = i
    go (inf s) i = i
    go (fin s q b) i = two.none_between s q b i.held (not_low s q b i) (not_high s q b i)
