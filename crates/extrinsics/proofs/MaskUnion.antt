-- Masks joined by or: a view is in the union where it is in one of both, and so in some mask of those joined. Assumes nothing.
use Prim.Native.Nat.{ℕ, zero, suc, ◌+◌, ◌/◌, ◌%◌, ◌^◌, ◌<◌, max}
use native.Mathlib.Nat.{zero-div, eq-or-lt_of_le}
use native.Mathlib.Omega.{arith}
use mathlib.Core.Path.{◌≡◌, refl, sym, subst}
use mathlib.Core.Logic.{◌↔◌, ⊎_elim}
use mathlib.Core.Bool.{Bool, true, false, ◌||◌}
use mathlib.Core.List.{List}
use lib.ListN.{get_or}
use lib.Dec.{T, eqb}
use lib.Bits.{bit_or, or_step, or_shr}
use Rattle.lists.specs.Masks.{in_mask}

bit_or_at : (a b v : ℕ) → bit_or a b / 2 ^ v % 2 ≡ max (a / 2 ^ v % 2) (b / 2 ^ v % 2)
bit_or_at a b v = rw (or_shr a b v) (go (a / 2 ^ v) (b / 2 ^ v))
  where
    go : (x y : ℕ) → bit_or x y % 2 ≡ max (x % 2) (y % 2)
    go x y = omega (arith, or_step x y)

either_bit : (x y : ℕ) → x < 2 → y < 2 → eqb (max x y) 1 ≡ eqb x 1 || eqb y 1
either_bit zero zero h l = refl
either_bit zero (suc zero) h l = refl
either_bit zero (suc (suc y)) h l = absurd (omega arith)
either_bit (suc zero) zero h l = refl
either_bit (suc zero) (suc zero) h l = refl
either_bit (suc zero) (suc (suc y)) h l = absurd (omega arith)
either_bit (suc (suc x)) y h l = absurd (omega arith)

pub in_mask-or : (a b v : ℕ) → in_mask (bit_or a b) v ≡ in_mask a v || in_mask b v
unfolding in_mask
in_mask-or a b v = rw (bit_or_at a b v) (either_bit (a / 2 ^ v % 2) (b / 2 ^ v % 2) (omega arith) (omega arith))

pub in_mask-zero : (v : ℕ) → in_mask 0 v ≡ false
unfolding in_mask
in_mask-zero v = rw (zero-div (2 ^ v))

T-or-left : (a b : Bool) → T a → T (a || b)
T-or-left true b t = tt
T-or-left false b t = absurd t

T-or_right : (a b : Bool) → T b → T (a || b)
T-or_right true b t = tt
T-or_right false b t = t

-- View v is in the mask of one of the first n cameras.
abbrev pub InOneOf : List ℕ → ℕ → ℕ → Type 0
InOneOf masks n v = (c : ℕ) × (c < n) × T (in_mask (get_or masks c 0) v)

pub union_none : (masks : List ℕ) (v : ℕ) → T (in_mask 0 v) ↔ InOneOf masks 0 v
union_none masks v = (λ t. absurd (subst T (in_mask-zero v) t), λ w. absurd (omega (arith, w.1)))

pub union_more : (masks : List ℕ) (n held v : ℕ) → T (in_mask held v) ↔ InOneOf masks n v
    → T (in_mask (bit_or held (get_or masks n 0)) v) ↔ InOneOf masks (n + 1) v
union_more masks n held v (forth, back) = rw (in_mask-or held (get_or masks n 0) v) (go (in_mask held v) refl, come)
  where
    go : (a : Bool) → in_mask held v ≡ a → T (a || in_mask (get_or masks n 0) v) → InOneOf masks (n + 1) v
    go true e t = let (c, l, s) = forth (subst T (sym e) tt) in (c, omega arith, s)
    go false e t = (n, omega arith, t)

    come : InOneOf masks (n + 1) v → T (in_mask held v || in_mask (get_or masks n 0) v)
    come (c, l, s) =
        ⊎_elim (λ e. T-or_right (in_mask held v) (in_mask (get_or masks n 0) v) (subst (λ (i : ℕ). T (in_mask (get_or masks i 0) v)) e s))
        (λ k. T-or-left (in_mask held v) (in_mask (get_or masks n 0) v) (back (c, k, s))) (eq-or-lt_of_le {n = c} {m = n} (omega arith))
