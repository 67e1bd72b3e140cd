-- Squares of whole numbers, and √n to the nearest whole number: it is the only one (`Rounded-unique`), and it is what rounding the whole part of √n
-- by the midpoint's square gives (`Rounded-nearest`). Assumes nothing.
use mathlib.Core.Path.{◌≡◌, sym, ap, ◌∙◌, subst}
use mathlib.Core.Bool.{Bool, true, false, not, cond}
use Prim.Native.Nat.{ℕ, zero, suc, ◌+◌, ◌*◌, ◌/◌, ◌^◌, ◌≤◌, ◌<◌, compare, Ordering}
use native.Mathlib.Nat.{le_of_suc-le-suc, le_antisymm, lt_of_not-le, zero-lt-suc, mul-one, mul-add, add-mul, mul_assoc, mul_left_comm, mul-mul-mul_comm, mul-le-mul, mul-le-mul_left, mul-le-mul_right, mul-pos, le_of_mul-le-mul_right, lt_of_mul-lt-mul_right, eq_of_mul-eq-mul_right, pow-suc, div-lt_iff_lt-mul}
use native.Mathlib.Numerals.{add-one}
use native.Mathlib.Omega.{arith}
use lib.Dec.{T, leb, is_le, compare_is_eq, leb→le, nleb→lt, eqb→eq}
use lib.Ieee.{nearest}
use Rattle.root.specs.Root.{sq, whole_root}
use Rattle.root.specs.Inner.Steps.{Rounded}

-- ---- squares

pub sq-suc : (a : ℕ) → sq (a + 1) ≡ sq a + 2 * a + 1
sq-suc a = simp (mul-add, add-mul) (omega arith)

pub sq_twice : (a : ℕ) → sq (2 * a) ≡ 4 * sq a
sq_twice a = simp (mul_assoc, mul_left_comm) (omega arith)

pub sq_twice_suc : (a : ℕ) → sq (2 * a + 1) ≡ 4 * sq a + 4 * a + 1
sq_twice_suc a = let e = sq-suc (2 * a) in let f = sq_twice a in omega arith

pub sq-mul : (a b : ℕ) → sq (a * b) ≡ sq a * sq b
sq-mul a b = mul-mul-mul_comm a b a b

pub sq-le : {a b : ℕ} → a ≤ b → sq a ≤ sq b
sq-le h = mul-le-mul h h

pub sq-lt : {a b : ℕ} → a < b → sq a < sq b
sq-lt {a} {b} h =
    let e = sq-suc a in
    let g : a + 1 ≤ b = omega arith in
    let l : sq (a + 1) ≤ sq b = sq-le g in
    omega arith

-- ---- the whole part of a root

pub record WholeRoot (n h : ℕ) : Type 0 where
  pub reaches : sq h ≤ n
  pub passes : n < sq (h + 1)

pub whole_root_is : (d n : ℕ) → n < 4 ^ d → WholeRoot n (whole_root d n)
unfolding whole_root
whole_root_is zero n l = omega arith
whole_root_is (suc d) n l = digit_more n (whole_root d (n / 4)) (whole_root_is d (n / 4) ((div-lt_iff_lt-mul (zero-lt-suc 3)).1 (subst (λ (x : ℕ). n < x) (pow-suc 4 d) l)))
  where
    digit_more : (n h : ℕ) → WholeRoot (n / 4) h → WholeRoot n (cond (leb (sq (2 * h + 1)) n) (2 * h + 1) (2 * h))
    digit_more n h w = go (leb (sq (2 * h + 1)) n) (leb→le (sq (2 * h + 1)) n) (nleb→lt (sq (2 * h + 1)) n)
      where
        go : (b : Bool) → (T b → sq (2 * h + 1) ≤ n) → (T (not b) → n < sq (2 * h + 1)) → WholeRoot n (cond b (2 * h + 1) (2 * h))
        go true yes-so no-so =
            let y = yes-so tt in
            let e = sq_twice (h + 1) in
            let g : sq (2 * h + 1 + 1) ≡ sq (2 * (h + 1)) = ap sq (omega arith) in
            omega arith
        go false yes-so no-so =
            let y = no-so tt in
            let e = sq_twice h in
            omega arith

-- ---- √n to the nearest whole number

-- past t the square grows by more than the number
sq_less_self : {t r : ℕ} → suc t ≤ r → sq t + t + r ≤ sq r
sq_less_self {t} {r} h =
    let g : t + 1 ≤ r = omega arith in
    let p : r * (t + 1) ≤ r * r = mul-le-mul_left r g in
    let q : (t + 1) * t ≤ r * t = mul-le-mul_right t g in
    let e : r * (t + 1) ≡ r * t + r = simp (mul-add, mul-one) in
    let f : (t + 1) * t ≡ t * t + t = simp (add-mul) (omega arith) in
    omega arith

-- past r there is no other
Rounded-le : {n r t : ℕ} → Rounded n r → Rounded n t → r ≤ t
Rounded-le {n} {r} {t} a b = le_of_suc-le-suc (lt_of_not-le too_far)
  where
    too_far : suc t ≤ r → ⊥
    too_far h =
        let p = sq_less_self h in
        omega arith

pub Rounded-unique : {n r t : ℕ} → Rounded n r → Rounded n t → r ≡ t
Rounded-unique a b = le_antisymm (Rounded-le a b) (Rounded-le b a)

-- √n's bounds by squares
pub Rounded-ge : {n r t : ℕ} → Rounded n r → sq t ≤ n → t ≤ r
Rounded-ge {n} {r} {t} a l = le_of_suc-le-suc (lt_of_not-le too_low)
  where
    too_low : suc r ≤ t → ⊥
    too_low h =
        let g : r + 1 ≤ t = omega arith in
        let p : sq (r + 1) ≤ sq t = sq-le g in
        let e = sq-suc r in
        omega arith

pub Rounded-le_of : {n r t : ℕ} → Rounded n r → n < sq t → r ≤ t
Rounded-le_of {n} {r} {t} a l = le_of_suc-le-suc (lt_of_not-le too_high)
  where
    too_high : suc t ≤ r → ⊥
    too_high h =
        let p = sq_less_self h in
        omega arith

-- ---- the whole part, rounded by the midpoint's square

-- what `compare` tells, as far as it is asked below
abbrev Compared : Ordering → ℕ → ℕ → Type 0
Compared Ordering.lt a b = a ≤ b
Compared Ordering.eq a b = a ≡ b
Compared Ordering.gt a b = b < a

compared : (a b : ℕ) → Compared (compare a b) a b
compared a b = go (compare a b) (leb→le a b) (nleb→lt a b) (eqb→eq a b)
  where
    go : (o : Ordering) → (T (is_le o) → a ≤ b) → (T (not (is_le o)) → b < a) → (T (compare_is_eq o) → a ≡ b) → Compared o a b
    go Ordering.lt at_most past same = at_most tt
    go Ordering.eq at_most past same = same tt
    go Ordering.gt at_most past same = past tt

-- h is the whole part of √n; both sides of the comparison are in units of sq p
pub Rounded-nearest : (n h p : ℕ) → 0 < p → 0 < h → WholeRoot n h → Rounded n (nearest h (compare (4 * (n * sq p)) (sq ((2 * h + 1) * p))))
Rounded-nearest n h p P H w = go (compare (4 * (n * sq p)) (sq ((2 * h + 1) * p))) (compared (4 * (n * sq p)) (sq ((2 * h + 1) * p)))
  where
    l : 4 * (n * sq p) ≡ 4 * n * sq p
    l = sym (mul_assoc 4 n (sq p))

    r : sq ((2 * h + 1) * p) ≡ sq (2 * h + 1) * sq p
    r = sq-mul (2 * h + 1) p

    go : (o : Ordering) → Compared o (4 * (n * sq p)) (sq ((2 * h + 1) * p)) → Rounded n (nearest h o)
    go Ordering.lt c =
        let d : 4 * n ≤ sq (2 * h + 1) = le_of_mul-le-mul_right (rw (← l, ← r) c) (mul-pos P P) in
        let e = sq_twice_suc h in
        omega arith
    go Ordering.eq c =
        let d : 4 * n ≡ sq (2 * h + 1) = eq_of_mul-eq-mul_right (sq p) (mul-pos P P) (4 * n) (sq (2 * h + 1)) (sym l ∙ c ∙ r) in
        let e = sq_twice_suc h in
        let no_such : ⊥ = omega arith in
        absurd no_such
    go Ordering.gt c =
        let d : sq (2 * h + 1) < 4 * n = lt_of_mul-lt-mul_right (sq p) (rw (← l, ← r) c) in
        let e = sq_twice_suc h in
        let f : sq (suc h) ≡ sq h + 2 * h + 1 = ap sq (sym (add-one h)) ∙ sq-suc h in
        omega arith
