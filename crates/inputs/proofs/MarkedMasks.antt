-- Marks as masks: which bits a sum of powers of two has, and which views the mask that marks make. Assumes nothing.
use Prim.Native.Nat.{ℕ, zero, suc, ◌+◌, ◌-◌, ◌*◌, ◌/◌, ◌%◌, ◌^◌, ◌<◌}
use native.Mathlib.Nat.{eq-or-lt_of_le, le_of_suc-le-suc, add-mul-mod_self_right}
use native.Mathlib.Omega.{arith}
use mathlib.Core.Path.{◌≡◌, refl, sym, ap, ◌∙◌}
use mathlib.Core.Logic.{⊎_elim}
use mathlib.Core.Bool.{Bool, true, false, not, cond}
use mathlib.Core.List.{List}
use lib.ListN.{get_or}
use lib.Dec.{eqb}
use lib.Pow.{pow-add, high, field}
use Rattle.lists.specs.Masks.{in_mask}
use Rattle.lists.specs.Finding.{power_sum}
use Rattle.inputs.specs.Inner.Marks.{mask_of}
use Rattle.lists.proofs.PowerSums.{power_sum-lt}

-- ---- sums of powers of two

-- A higher power leaves a bit.
bit_below : (x n v : ℕ) → v < n → (x + 2 ^ n) / 2 ^ v % 2 ≡ x / 2 ^ v % 2
bit_below x n v h =
    let apart : n ≡ (n - (1 + v)) + (1 + v) = omega arith in
    sym (field (x + 2 ^ n) 1 v)
    ∙ ap (λ (p : ℕ). (x + p) % 2 ^ (1 + v) / 2 ^ v) (ap (λ (k : ℕ). 2 ^ k) apart ∙ pow-add 2 (n - (1 + v)) (1 + v))
    ∙ ap (λ (y : ℕ). y / 2 ^ v) (add-mul-mod_self_right x (2 ^ (n - (1 + v))) (2 ^ (1 + v)))
    ∙ field x 1 v

module _ (test : ℕ → Bool) where
  power_sum_bit_last : (n : ℕ) → power_sum test (suc n) / 2 ^ n % 2 ≡ cond (test n) 1 0
  unfolding power_sum
  power_sum_bit_last n = go (test n)
    where
      go : (t : Bool) → (power_sum test n + cond t (2 ^ n) 0) / 2 ^ n % 2 ≡ cond t 1 0
      go true = grind (arith, high 1 n (power_sum-lt test n))
      go false = grind (arith, high 0 n (power_sum-lt test n))

  power_sum_bit_before : (n v : ℕ) → v < n → power_sum test (suc n) / 2 ^ v % 2 ≡ power_sum test n / 2 ^ v % 2
  unfolding power_sum
  power_sum_bit_before n v h = go (test n)
    where
      go : (t : Bool) → (power_sum test n + cond t (2 ^ n) 0) / 2 ^ v % 2 ≡ power_sum test n / 2 ^ v % 2
      go true = bit_below (power_sum test n) n v h
      go false = grind arith

  pub in_mask-power_sum : (n v : ℕ) → v < n → in_mask (power_sum test n) v ≡ test v
  unfolding in_mask
  in_mask-power_sum zero v h = absurd (omega arith)
  in_mask-power_sum (suc n) v h =
      ⊎_elim
      last
      (λ l. ap (λ (x : ℕ). eqb x 1) (power_sum_bit_before n v l) ∙ in_mask-power_sum n v l)
      (eq-or-lt_of_le (le_of_suc-le-suc h))
    where
      flag : (t : Bool) → eqb (cond t 1 0) 1 ≡ t
      flag true = refl
      flag false = refl

      last : v ≡ n → eqb (power_sum test (suc n) / 2 ^ v % 2) 1 ≡ test v
      last e = rw e (ap (λ (x : ℕ). eqb x 1) (power_sum_bit_last n) ∙ flag (test n))

-- ---- the masks that marks make

module _ (marks : List ℕ) (cameras c : ℕ) where
  pub mask_of_below : (views : ℕ) → mask_of marks cameras views c < 2 ^ views
  unfolding mask_of
  mask_of_below views = power_sum-lt (λ v. not (eqb (get_or marks (v * cameras + c) 0) 0)) views

  -- A view is in the mask where the camera is marked in it.
  pub in_mask_mask_of : (views v : ℕ) → v < views → in_mask (mask_of marks cameras views c) v ≡ not (eqb (get_or marks (v * cameras + c) 0) 0)
  unfolding mask_of
  in_mask_mask_of views v h = in_mask-power_sum (λ u. not (eqb (get_or marks (u * cameras + c) 0) 0)) views v h
