-- One bit more in a mask, or one fewer: what m + 2 ^ v marks where m does not mark view v, and m - 2 ^ v where it does; and how a mask is made bit by bit
-- from the lowest up.
-- Assumes nothing.
use Prim.Native.Nat.{ℕ, zero, suc, ◌+◌, ◌-◌, ◌*◌, ◌/◌, ◌%◌, ◌^◌, ◌≤◌, ◌<◌}
use native.Mathlib.Nat.{suc-mul, add-div_right, add-mul-div_right, mod-lt, div-eq_of_lt, eq-zero-or-pos}
use native.Mathlib.Numerals.{one-add, add-one}
use native.Mathlib.Omega.{arith}
use mathlib.Core.Path.{◌≡◌, sym, ap, subst, ◌∙◌}
use mathlib.Core.Logic.{◌≢◌, ⊎_elim}
use mathlib.Core.Bool.{true, false}
use lib.Arith.{digits_lt}
use lib.Dec.{eqb}
use lib.Pow.{pow_pos, pow-add, shr-shr, shr_lt, split, mod-pow-add}
use borrow.Author.Tests.{eqb-true, eqb-false, eq-eqb, ne_eqb}
use Rattle.lists.specs.Masks.{in_mask}

clear_bit : (m v : ℕ) → in_mask m v ≡ false → m / 2 ^ v % 2 ≡ 0
unfolding in_mask
clear_bit m v e = let other : m / 2 ^ v % 2 ≢ 1 = eqb-false _ _ e in omega arith

set_bit : (m v : ℕ) → in_mask m v ≡ true → m / 2 ^ v % 2 ≡ 1
unfolding in_mask
set_bit m v e = eqb-true _ _ e

-- ---- a bit added

-- A higher power leaves a bit.
bit_below : (m v w : ℕ) → w < v → (m + 2 ^ v) / 2 ^ w % 2 ≡ m / 2 ^ w % 2
bit_below m v w h =
    ap (λ (x : ℕ). (m + x) / 2 ^ w % 2) power
    ∙ ap (λ (x : ℕ). x % 2) (add-mul-div_right m (2 ^ (v - w)) (pow_pos w))
    ∙ even (m / 2 ^ w) (v - w) (omega arith)
  where
    power : 2 ^ v ≡ 2 ^ (v - w) * 2 ^ w
    power = ap (λ (k : ℕ). 2 ^ k) (omega arith) ∙ pow-add 2 (v - w) w

    even : (x k : ℕ) → 0 < k → (x + 2 ^ k) % 2 ≡ x % 2
    even x zero l = absurd (omega arith)
    even x (suc k) l = omega arith

-- A bit leaves those above it, where it was clear.
bit_above : (m v w : ℕ) → m / 2 ^ v % 2 ≡ 0 → v < w → (m + 2 ^ v) / 2 ^ w ≡ m / 2 ^ w
bit_above m v w e h =
    shifted (m + 2 ^ v) ∙ ap (λ (x : ℕ). x / 2 ^ (w - (v + 1))) halves ∙ sym (shifted m)
  where
    shifted : (x : ℕ) → x / 2 ^ w ≡ x / 2 ^ v / 2 ^ 1 / 2 ^ (w - (v + 1))
    shifted x =
        ap (λ (k : ℕ). x / 2 ^ k) (omega arith)
        ∙ sym (shr-shr x (v + 1) (w - (v + 1)))
        ∙ ap (λ (y : ℕ). y / 2 ^ (w - (v + 1))) (sym (shr-shr x v 1))

    halves : (m + 2 ^ v) / 2 ^ v / 2 ^ 1 ≡ m / 2 ^ v / 2 ^ 1
    halves = omega (arith, add-div_right m (pow_pos v))

module _ (m v : ℕ) (clear : in_mask m v ≡ false) where
  pub in_mask_plus_same : in_mask (m + 2 ^ v) v ≡ true
  unfolding in_mask
  in_mask_plus_same = eq-eqb ((m + 2 ^ v) / 2 ^ v % 2) 1 (omega (arith, clear_bit m v clear, add-div_right m (pow_pos v)))

  pub in_mask_plus_other : (w : ℕ) → w ≢ v → in_mask (m + 2 ^ v) w ≡ in_mask m w
  unfolding in_mask
  in_mask_plus_other w different =
      ap (λ (x : ℕ). eqb x 1)
      (⊎_elim (λ e. ap (λ (x : ℕ). x % 2) (bit_above m v w (clear_bit m v clear) (omega arith))) (λ l. bit_below m v w (omega arith)) (eq-zero-or-pos (v - w)))

  -- A mask of n views stays one.
  pub plus_below : (n : ℕ) → v < n → m < 2 ^ n → m + 2 ^ v < 2 ^ n
  plus_below n h l =
      rw (whole, power)
      (digits_lt {q = m / 2 ^ v + 1} {m = 2 ^ (n - v)} {r = m % 2 ^ v} {c = 2 ^ v} (even (m / 2 ^ v) (n - v) (omega arith) (clear_bit m v clear) quotient) (mod-lt m (pow_pos v)))
    where
      power : 2 ^ n ≡ 2 ^ (n - v) * 2 ^ v
      power = ap (λ (k : ℕ). 2 ^ k) (omega arith) ∙ pow-add 2 (n - v) v

      whole : m + 2 ^ v ≡ (m / 2 ^ v + 1) * 2 ^ v + m % 2 ^ v
      whole = omega (arith, split m v, suc-mul (m / 2 ^ v) (2 ^ v), ap (λ (q : ℕ). q * 2 ^ v) (add-one (m / 2 ^ v)))

      quotient : m / 2 ^ v < 2 ^ (n - v)
      quotient = shr_lt (n - v) v (subst (λ (k : ℕ). m < 2 ^ k) (omega arith) l)

      even : (q k : ℕ) → 0 < k → q % 2 ≡ 0 → q < 2 ^ k → q + 1 < 2 ^ k
      even q zero g e f = absurd (omega arith)
      even q (suc k) g e f = omega arith

-- ---- a bit taken away

module _ (m v : ℕ) (set : in_mask m v ≡ true) where
  pub power_below : 2 ^ v ≤ m
  power_below = ⊎_elim (λ e. absurd (omega (arith, set_bit m v set, small (omega arith)))) (λ h. omega arith) (eq-zero-or-pos (m + 1 - 2 ^ v))
    where
      small : m < 2 ^ v → m / 2 ^ v ≡ 0
      small h = div-eq_of_lt h

  -- Put back, it makes the mask that it was.
  pub minus_plus : m - 2 ^ v + 2 ^ v ≡ m
  minus_plus = omega (arith, power_below)

  pub in_mask_minus_same : in_mask (m - 2 ^ v) v ≡ false
  unfolding in_mask
  in_mask_minus_same =
      ne_eqb ((m - 2 ^ v) / 2 ^ v % 2) 1
      (omega (arith, set_bit m v set, add-div_right (m - 2 ^ v) (pow_pos v), ap (λ (x : ℕ). x / 2 ^ v) minus_plus))

  pub in_mask_minus_other : (w : ℕ) → w ≢ v → in_mask (m - 2 ^ v) w ≡ in_mask m w
  in_mask_minus_other w different = sym (in_mask_plus_other (m - 2 ^ v) v in_mask_minus_same w different) ∙ ap (λ (x : ℕ). in_mask x w) minus_plus

-- ---- a mask from its lowest bits up

pub in_mask-mod : (m v : ℕ) → in_mask (m % 2 ^ v) v ≡ false
unfolding in_mask
in_mask-mod m v = ne_eqb (m % 2 ^ v / 2 ^ v % 2) 1 (omega (arith, div-eq_of_lt (mod-lt m (pow_pos v))))

mod-next : (m v : ℕ) → m % 2 ^ suc v ≡ m / 2 ^ v % 2 * 2 ^ v + m % 2 ^ v
mod-next m v = ap (λ (k : ℕ). m % 2 ^ k) (sym (one-add v)) ∙ mod-pow-add m 1 v

pub mod-next-set : (m v : ℕ) → in_mask m v ≡ true → m % 2 ^ suc v ≡ m % 2 ^ v + 2 ^ v
mod-next-set m v e = mod-next m v ∙ rw (set_bit m v e) (omega arith)

pub mod-next_clear : (m v : ℕ) → in_mask m v ≡ false → m % 2 ^ suc v ≡ m % 2 ^ v
mod-next_clear m v e = mod-next m v ∙ rw (clear_bit m v e) (omega arith)
