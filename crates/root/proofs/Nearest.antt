-- `root_of` is the double nearest the exact root: `root_of_is`. Nothing else is: `only_root`. And the exact root is never midway between two neighbours: `no_tie`.
-- The root of s = n * 4 ^ k, for an n of 105 or 106 digits, is R = r * 2 ^ k units, where r is √n to the nearest whole number.
-- 1. A double is z * 2 ^ j units with a z of 53 digits: it is a multiple of 2 ^ k, or lies below 2 ^ 52 * 2 ^ k (`grid`).
-- 2. So where r is above 2 ^ 52, a double other than R is at least 2 ^ k away from it, and the midpoint of the two is half of that or more:
--    √s is on R's side of it (`nearer_step_below`, `nearer_step_above`).
-- 3. Where r is 2 ^ 52, doubles below R are closer together. But then √s is at least R, and so above every such midpoint (`at_the_power`).
-- Assumes nothing.
use mathlib.Core.Path.{◌≡◌, refl, sym, ap, ◌∙◌, subst, subst₂}
use mathlib.Core.Logic.{◌⊎◌, inl, inr, ⊎_elim}
use mathlib.Core.Bool.{Bool, true, false, true≢false}
use Prim.Native.Nat.{ℕ, zero, suc, ◌+◌, ◌-◌, ◌*◌, ◌/◌, ◌^◌, ◌≤◌, ◌<◌}
use native.Mathlib.Nat.{le_refl, le_of_lt, le_of_suc-le-suc, add_comm, add-le-add, zero-lt-suc, one-mul, le_trans, le_of_eq, le_antisymm, lt_of_lt_of_le, lt_of_le_of_lt, lt_of_not-le, lt_irrefl, eq-zero-or-pos, eq-or-lt_of_le, zero-mul, zero-div, suc-mul, add-mul, mul_assoc, mul-pos, mul-le-mul_left, mul-le-mul_right, mul-lt-mul_of_pos_right, lt_of_mul-lt-mul_right}
use native.Mathlib.Numerals.{add-one}
use native.Mathlib.Omega.{arith}
use lib.Dec.{T}
use lib.IntN.{ℤ}
use lib.Pow.{pow-add, pow_pos, pow_mono, shl_lt}
use lib.Ieee.{Float, nan, inf, fin, binary64, up, down, size, fits, of_bits, to_bits}
use lib.Ieee.Exact.{HasValue}
use lib.Ieee.Bits.{of_bits-to_bits}
use Rattle.root.specs.Root.{sq, units_of, root_square, dropped, rounded, root_of, Nearer, NearestRoot, IsRootOf, Neighbours}
use Rattle.root.specs.Inner.Steps.{Rounded}
use Rattle.root.proofs.Squares.{sq-suc, sq_twice, sq_twice_suc, sq-mul, sq-le, sq-lt}
use Rattle.root.proofs.Scale.{Split, split, dropped-le, Rounded-digits, pow-lt_exponent}
use Rattle.root.proofs.Bits.{fits-held, held_exponent, held-lt, units_of_value, root_square_is, root_of_positive, units_value, units-held}

-- ---- doubles on the grid of 2 ^ k units

pub grid : (k z j : ℕ) → z < 2 ^ 53 → ((w : ℕ) × (z * 2 ^ j ≡ w * 2 ^ k)) ⊎ (z * 2 ^ j < 2 ^ 52 * 2 ^ k)
grid k z j h = ⊎_elim (λ (e : k - j ≡ 0). inl (z * 2 ^ (j - k), on e)) (λ (l : 0 < k - j). inr (under l)) (eq-zero-or-pos (k - j))
  where
    on : k - j ≡ 0 → z * 2 ^ j ≡ z * 2 ^ (j - k) * 2 ^ k
    on e =
        let s : j ≡ j - k + k = omega arith in
        ap (λ (x : ℕ). z * x) (ap (λ (x : ℕ). 2 ^ x) s ∙ pow-add 2 (j - k) k) ∙ sym (mul_assoc z (2 ^ (j - k)) (2 ^ k))

    under : 0 < k - j → z * 2 ^ j < 2 ^ 52 * 2 ^ k
    under l = lt_of_lt_of_le (shl_lt 53 j h) (le_trans (pow_mono {i = 53 + j} {j = 52 + k} (omega arith)) (le_of_eq (pow-add 2 52 k)))

pub step : (a b P : ℕ) → a * P < b * P → a * P + P ≤ b * P
step a b P h =
    let l : a < b = lt_of_mul-lt-mul_right P h in
    let g : a + 1 ≤ b = omega arith in
    let m : (a + 1) * P ≤ b * P = mul-le-mul_right P g in
    let e : (a + 1) * P ≡ a * P + 1 * P = add-mul a 1 P in
    omega arith

-- ---- a double a step or more away

scaled_four : (n P : ℕ) → 4 * (n * P) ≡ 4 * n * P
scaled_four n P = sym (mul_assoc 4 n P)

nearer_step_below : (n r P Z : ℕ) → 0 < P → Rounded n r → Z + P ≤ r * P → sq (r * P + Z) < 4 * (n * sq P)
nearer_step_below n zero P Z p a g = let e = zero-mul P in absurd (no_room e)
  where
    no_room : 0 * P ≡ 0 → ⊥
    no_room e = omega arith
nearer_step_below n (suc u) P Z p a g =
    let e : suc u * P ≡ u * P + P = suc-mul u P in
    let f : (2 * u + 1) * P ≡ 2 * u * P + 1 * P = add-mul (2 * u) 1 P in
    let f2 : 2 * u * P ≡ 2 * (u * P) = mul_assoc 2 u P in
    let t : suc u * P + Z ≤ (2 * u + 1) * P = omega arith in
    let b : sq (2 * u + 1) < 4 * n = under u n a in
    let w : sq (2 * u + 1) * sq P < 4 * n * sq P = mul-lt-mul_of_pos_right b (mul-pos p p) in
    lt_of_le_of_lt (le_trans (sq-le t) (le_of_eq (sq-mul (2 * u + 1) P))) (lt_of_lt_of_le w (le_of_eq (sym (scaled_four n (sq P)))))
  where
    under : (u n : ℕ) → Rounded n (suc u) → sq (2 * u + 1) < 4 * n
    under u n a =
        let e = sq_twice_suc u in
        let f : sq (suc u) ≡ sq u + 2 * u + 1 = ap sq (sym (add-one u)) ∙ sq-suc u in
        omega arith

nearer_step_above : (n r P Z : ℕ) → 0 < P → Rounded n r → r * P + P ≤ Z → 4 * (n * sq P) < sq (r * P + Z)
nearer_step_above n r P Z p a g =
    let f : (2 * r + 1) * P ≡ 2 * r * P + 1 * P = add-mul (2 * r) 1 P in
    let f2 : 2 * r * P ≡ 2 * (r * P) = mul_assoc 2 r P in
    let t : (2 * r + 1) * P ≤ r * P + Z = omega arith in
    let b : 4 * n < sq (2 * r + 1) = over r n a in
    let w : 4 * n * sq P < sq (2 * r + 1) * sq P = mul-lt-mul_of_pos_right b (mul-pos p p) in
    lt_of_le_of_lt (le_of_eq (scaled_four n (sq P))) (lt_of_lt_of_le w (le_trans (le_of_eq (sym (sq-mul (2 * r + 1) P))) (sq-le t)))
  where
    over : (r n : ℕ) → Rounded n r → 4 * n < sq (2 * r + 1)
    over r n a = let e = sq_twice_suc r in omega arith

-- ---- every double other than R

module _ (n r k : ℕ) (n_ge : 2 ^ 104 ≤ n) (n_lt : n < 2 ^ 106) (a : Rounded n r) where
  at_the_power : r ≡ 2 ^ 52 → (Z : ℕ) → Z < r * 2 ^ k → sq (r * 2 ^ k + Z) < 4 * (n * sq (2 ^ k))
  at_the_power e Z l =
      let R = r * 2 ^ k in
      let t : R + Z < 2 * R = omega arith in
      let b : sq R ≡ sq r * sq (2 ^ k) = sq-mul r (2 ^ k) in
      let c : sq r ≤ n = subst (λ (x : ℕ). sq x ≤ n) (sym e) n_ge in
      let d : sq r * sq (2 ^ k) ≤ n * sq (2 ^ k) = mul-le-mul_right (sq (2 ^ k)) c in
      lt_of_lt_of_le (sq-lt t) (le_trans (le_of_eq (sq_twice R)) (mul-le-mul_left 4 (le_trans (le_of_eq b) d)))

  nearer : (z j : ℕ) → z < 2 ^ 53 → Nearer (n * sq (2 ^ k)) (r * 2 ^ k) (z * 2 ^ j)
  nearer z j h = record { from_below = under; from_above = over }
    where
      low : 2 ^ 52 ≤ r
      low = (Rounded-digits n_ge n_lt a).0

      under : z * 2 ^ j < r * 2 ^ k → sq (r * 2 ^ k + z * 2 ^ j) < 4 * (n * sq (2 ^ k))
      under l =
          ⊎_elim
          (λ (g : (w : ℕ) × (z * 2 ^ j ≡ w * 2 ^ k)).
          nearer_step_below n r (2 ^ k) (z * 2 ^ j) (pow_pos k) a
          (subst (λ (x : ℕ). x + 2 ^ k ≤ r * 2 ^ k) (sym g.1) (step g.0 r (2 ^ k) (subst (λ (x : ℕ). x < r * 2 ^ k) g.1 l))))
          (λ (g : z * 2 ^ j < 2 ^ 52 * 2 ^ k).
          ⊎_elim (λ (e : 2 ^ 52 ≡ r). at_the_power (sym e) (z * 2 ^ j) l)
          (λ (m : 2 ^ 52 < r).
          let s : 2 ^ 52 * 2 ^ k + 2 ^ k ≤ r * 2 ^ k = step (2 ^ 52) r (2 ^ k) (mul-lt-mul_of_pos_right m (pow_pos k)) in
          nearer_step_below n r (2 ^ k) (z * 2 ^ j) (pow_pos k) a (room (z * 2 ^ j) (2 ^ 52 * 2 ^ k) (2 ^ k) (r * 2 ^ k) g s))
          (eq-or-lt_of_le low))
          (grid k z j h)
        where
          room : (Z A Q R : ℕ) → Z < A → A + Q ≤ R → Z + Q ≤ R
          room Z A Q R f g = omega arith

      over : r * 2 ^ k < z * 2 ^ j → 4 * (n * sq (2 ^ k)) < sq (r * 2 ^ k + z * 2 ^ j)
      over l =
          ⊎_elim
          (λ (g : (w : ℕ) × (z * 2 ^ j ≡ w * 2 ^ k)).
          nearer_step_above n r (2 ^ k) (z * 2 ^ j) (pow_pos k) a
          (subst (λ (x : ℕ). r * 2 ^ k + 2 ^ k ≤ x) (sym g.1) (step r g.0 (2 ^ k) (subst (λ (x : ℕ). r * 2 ^ k < x) g.1 l))))
          (λ (g : z * 2 ^ j < 2 ^ 52 * 2 ^ k). absurd (none (z * 2 ^ j) (2 ^ 52 * 2 ^ k) (r * 2 ^ k) g (mul-le-mul_right (2 ^ k) low) l))
          (grid k z j h)
        where
          none : (Z A R : ℕ) → Z < A → A ≤ R → R < Z → ⊥
          none Z A R f g l = omega arith

-- ---- in terms of doubles

units_of-zero : (e : ℤ) → units_of 0 e ≡ 0
unfolding units_of
units_of-zero e = ap (λ (x : ℕ). x / down e) (ap (λ (x : ℕ). x * 2 ^ 1074) (zero-mul (up e)) ∙ zero-mul (2 ^ 1074)) ∙ zero-div (down e)

pub double-units : (t : Bool) (n : ℕ) (c : ℤ) → T (fits binary64 (fin t n c)) → (j : ℕ) × (units_of n c ≡ n * 2 ^ j) × (n < 2 ^ 53)
double-units t zero c f = (0, units_of-zero c, pow_pos 53)
double-units t (suc n) c f =
    let h = fits-held t n c f in
    let u = held_exponent (suc n) c h in
    (u.0, units_of_value (suc n) c (suc n * 2 ^ u.0) u.1, h.digits)

-- the exact root's square, split
module _ (m : ℕ) (e : ℤ) (f : T (fits binary64 (fin false (suc m) e))) where
  exponent : ℕ
  exponent = (held_exponent (suc m) e (fits-held false m e f)).0

  square_is : root_square (suc m) e ≡ suc m * 2 ^ (exponent + 1074)
  unfolding exponent
  square_is =
      root_square_is (suc m) e
      ∙ ap (λ (x : ℕ). x * 2 ^ 1074) (units_of_value (suc m) e (suc m * 2 ^ exponent) (held_exponent (suc m) e (fits-held false m e f)).1)
      ∙ mul_assoc (suc m) (2 ^ exponent) (2 ^ 1074)
      ∙ ap (λ (x : ℕ). suc m * x) (sym (pow-add 2 exponent 1074))

  exponent_le : exponent < 2098
  unfolding exponent
  exponent_le =
      let h = fits-held false m e f in
      let u = held_exponent (suc m) e h in
      let at_least : 2 ^ u.0 ≤ suc m * 2 ^ u.0 = le_trans (le_of_eq (sym (one-mul (2 ^ u.0)))) (mul-le-mul_right (2 ^ u.0) (zero-lt-suc m)) in
      pow-lt_exponent u.0 2098 (lt_of_le_of_lt at_least (held-lt (suc m) e (suc m * 2 ^ u.0) h u.1))

  square_split : Split (root_square (suc m) e)
  square_split = subst Split (sym square_is) (split (suc m) (exponent + 1074) (zero-lt-suc m) (fits-held false m e f).digits (omega arith))

  square_dropped : dropped (root_square (suc m) e) ≤ 2000
  square_dropped =
      let l = exponent_le in
      let d = dropped-le (suc m) (exponent + 1074) (zero-lt-suc m) (fits-held false m e f).digits (omega arith) in
      subst (λ (s : ℕ). dropped s ≤ 2000) (sym square_is) (fewer (dropped (suc m * 2 ^ (exponent + 1074))) exponent d l)
    where
      fewer : (k j : ℕ) → k ≤ (54 + (j + 1074)) / 2 - 53 → j < 2098 → k ≤ 2000
      fewer k j d l = omega arith

  pub root_units : ℕ
  root_units = rounded (root_square (suc m) e) * 2 ^ dropped (root_square (suc m) e)

  pub root_value : HasValue (root_of (fin false (suc m) e)) false root_units (2 ^ 1074)
  unfolding root_units
  root_value =
      let c = square_split in
      let d = Rounded-digits c.n_ge c.n_lt c.kept in
      subst (λ (x : Float). HasValue x false root_units (2 ^ 1074)) (sym (root_of_positive m e))
      (units_value (rounded (root_square (suc m) e)) (dropped (root_square (suc m) e)) d.0 d.1 square_dropped)

  pub root_held : T (fits binary64 (root_of (fin false (suc m) e)))
  root_held =
      let c = square_split in
      subst (λ (x : Float). T (fits binary64 x)) (sym (root_of_positive m e))
      (units-held (rounded (root_square (suc m) e)) (dropped (root_square (suc m) e)) (Rounded-digits c.n_ge c.n_lt c.kept).1)

  root_nearer : (t : Bool) (n : ℕ) (c : ℤ) → T (fits binary64 (fin t n c)) → Nearer (root_square (suc m) e) root_units (units_of n c)
  unfolding root_units
  root_nearer t n c g =
      let s = root_square (suc m) e in
      let b = square_split in
      let u = double-units t n c g in
      subst₂ (λ (x z : ℕ). Nearer x root_units z) (sym b.same) (sym u.1)
      (nearer b.n (rounded s) (dropped s) b.n_ge b.n_lt b.kept n u.0 u.2)

  -- what has the root's value and fits is nearest of all
  value_nearest : (y : Float) → HasValue y false root_units (2 ^ 1074) → T (fits binary64 y) → IsRootOf (fin false (suc m) e) y
  value_nearest nan v g = absurd v
  value_nearest (inf t) v g = absurd v
  value_nearest (fin true p d) v g = absurd (true≢false v.0)
  value_nearest (fin false p d) v g = record {
    held = g;
    nearest_of_all = λ t n c h. subst (λ (Y : ℕ). Nearer (root_square (suc m) e) Y (units_of n c)) (sym (units_of_value p d root_units v.1)) (root_nearer t n c h);
  }

-- ---- the three theorems

pub root_of_is : (x : Float) → T (fits binary64 x) → IsRootOf x (root_of x)
root_of_is nan f = unfold root_of in refl
root_of_is (inf true) f = unfold root_of in refl
root_of_is (inf false) f = unfold root_of in refl
root_of_is (fin s zero e) f = unfold root_of in refl
root_of_is (fin true (suc m) e) f = unfold root_of in refl
root_of_is (fin false (suc m) e) f = value_nearest m e f (root_of (fin false (suc m) e)) (root_value m e f) (root_held m e f)

-- two doubles of one size are one
to_bits-units : (m : ℕ) (e : ℤ) → to_bits binary64 (fin false m e) ≡ 0 + (size (units_of m e) - 53) * 2 ^ 52 + units_of m e / 2 ^ (size (units_of m e) - 53)
unfolding to_bits units_of
to_bits-units m e = refl

pub same_units : (p : ℕ) (d : ℤ) (q : ℕ) (c : ℤ) → T (fits binary64 (fin false p d)) → T (fits binary64 (fin false q c)) → units_of p d ≡ units_of q c → fin false p d ≡ fin false q c
same_units p d q c f g e =
    sym (of_bits-to_bits binary64 (fin false p d) f)
    ∙ ap (of_bits binary64) (to_bits-units p d ∙ ap (λ (a : ℕ). 0 + (size a - 53) * 2 ^ 52 + a / 2 ^ (size a - 53)) e ∙ sym (to_bits-units q c))
    ∙ of_bits-to_bits binary64 (fin false q c) g

-- of two that are each nearer than every other, neither is the smaller
not_smaller : (s Y Z : ℕ) → Nearer s Y Z → Nearer s Z Y → Y ≤ Z
not_smaller s Y Z a b =
    le_of_suc-le-suc (lt_of_not-le (λ (g : Z < Y).
    let past : 4 * s < sq (Y + Z) = subst (λ (x : ℕ). 4 * s < sq x) (add_comm Z Y) (b.from_above g) in
    lt_irrefl (4 * s) (lt_of_lt_of_le past (le_of_lt (a.from_below g)))))

nearest_unique : (m : ℕ) (e : ℤ) (p : ℕ) (d : ℤ) (q : ℕ) (c : ℤ) → NearestRoot m e p d → NearestRoot m e q c → fin false p d ≡ fin false q c
nearest_unique m e p d q c a b =
    let u : Nearer (root_square m e) (units_of p d) (units_of q c) = a.nearest_of_all false q c b.held in
    let v : Nearer (root_square m e) (units_of q c) (units_of p d) = b.nearest_of_all false p d a.held in
    same_units p d q c a.held b.held
    (le_antisymm (not_smaller (root_square m e) (units_of p d) (units_of q c) u v) (not_smaller (root_square m e) (units_of q c) (units_of p d) v u))

positive_unique : (m : ℕ) (e : ℤ) (r y : Float) → IsRootOf (fin false (suc m) e) r → IsRootOf (fin false (suc m) e) y → r ≡ y
positive_unique m e nan y h g = absurd h
positive_unique m e (inf t) y h g = absurd h
positive_unique m e (fin true p d) y h g = absurd h
positive_unique m e (fin false p d) nan h g = absurd g
positive_unique m e (fin false p d) (inf t) h g = absurd g
positive_unique m e (fin false p d) (fin true q c) h g = absurd g
positive_unique m e (fin false p d) (fin false q c) h g = nearest_unique (suc m) e p d q c h g

pub only_root : (x r : Float) → T (fits binary64 x) → IsRootOf x r → r ≡ root_of x
only_root nan r f h = unfold root_of in h
only_root (inf true) r f h = unfold root_of in h
only_root (inf false) r f h = unfold root_of in h
only_root (fin s zero e) r f h = unfold root_of in h
only_root (fin true (suc m) e) r f h = unfold root_of in h
only_root (fin false (suc m) e) r f h = positive_unique m e r (root_of (fin false (suc m) e)) h (root_of_is (fin false (suc m) e) f)

-- The exact root never lies midway between two neighbours: it is nearer to one double than to all others, and that one is not between them.
pub no_tie : (m : ℕ) (e : ℤ) (n : ℕ) (c : ℤ) (p : ℕ) (d : ℤ) → T (fits binary64 (fin false (suc m) e)) → Neighbours n c p d
    → 4 * root_square (suc m) e ≡ sq (units_of n c + units_of p d) → ⊥
no_tie m e n c p d f two tie = go (root_of (fin false (suc m) e)) (root_of_is (fin false (suc m) e) f)
  where
    -- from the smaller one or below it, or from the larger one or above it, the other would be no further than a tie
    not_low : (q : ℕ) (b : ℤ) → NearestRoot (suc m) e q b → units_of n c < units_of q b
    not_low q b i =
        lt_of_not-le (λ (a : units_of q b ≤ units_of n c).
        lt_irrefl (4 * root_square (suc m) e)
        (lt_of_lt_of_le ((i.nearest_of_all false p d two.upper_held).from_above (lt_of_le_of_lt a two.apart))
        (le_trans (sq-le (add-le-add a (le_refl (units_of p d)))) (le_of_eq (sym tie)))))

    not_high : (q : ℕ) (b : ℤ) → NearestRoot (suc m) e q b → units_of q b < units_of p d
    not_high q b i =
        lt_of_not-le (λ (a : units_of p d ≤ units_of q b).
        lt_irrefl (4 * root_square (suc m) e)
        (lt_of_le_of_lt (le_trans (le_of_eq (tie ∙ ap sq (add_comm (units_of n c) (units_of p d)))) (sq-le (add-le-add a (le_refl (units_of n c)))))
        ((i.nearest_of_all false n c two.lower_held).from_below (lt_of_lt_of_le two.apart a))))

    go : (r : Float) → IsRootOf (fin false (suc m) e) r → ⊥
    go nan i = i
    go (inf t) i = i
    go (fin true q b) i = i
    go (fin false q b) i = two.none_between false q b i.held (not_low q b i) (not_high q b i)
