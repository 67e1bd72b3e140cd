-- Laws of `power_sum`: its bound, its next term, and that it depends on the test's values only. Assumes nothing.
use Prim.Native.Nat.{ℕ, zero, suc, ◌+◌, ◌*◌, ◌%◌, ◌^◌, ◌<◌}
use native.Mathlib.Numerals.{add-one}
use native.Mathlib.Omega.{arith}
use mathlib.Core.Path.{◌≡◌, refl, ◌∙◌}
use mathlib.Core.Bool.{Bool, true, false, cond}
use lib.Pow.{shl_exact}
use Rattle.lists.specs.Finding.{power_sum}

pub power_sum-lt : (test : ℕ → Bool) (n : ℕ) → power_sum test n < 2 ^ n
unfolding power_sum
power_sum-lt test zero = omega arith
power_sum-lt test (suc n) = go (test n) (power_sum-lt test n)
  where
    go : (t : Bool) → power_sum test n < 2 ^ n → power_sum test n + cond t (2 ^ n) 0 < 2 ^ suc n
    go true h = omega arith
    go false h = omega arith

-- Number n is the next term where it passes, and none where it does not.
pub power_sum_more : (test : ℕ → Bool) (n : ℕ) → test n ≡ true → power_sum test (n + 1) ≡ power_sum test n + 2 ^ n
unfolding power_sum
power_sum_more test n t = rw (add-one, t)

pub power_sum_same : (test : ℕ → Bool) (n : ℕ) → test n ≡ false → power_sum test (n + 1) ≡ power_sum test n
unfolding power_sum
power_sum_same test n t = rw (add-one, t) (omega arith)

-- Tests that agree below n have the same sum there.
pub power_sum_agree : (f g : ℕ → Bool) (n : ℕ) → ((i : ℕ) → i < n → f i ≡ g i) → power_sum f n ≡ power_sum g n
unfolding power_sum
power_sum_agree f g zero h = refl
power_sum_agree f g (suc n) h = rw (h n (omega arith), power_sum_agree f g n (λ i l. h i (omega arith)))

-- `1 << n` of 32 bits.
pub one_shl : (n : ℕ) → n < 32 → 1 * 2 ^ n % 4294967296 ≡ 2 ^ n
one_shl n h = shl_exact 1 n 32 (omega arith) (omega arith) ∙ omega arith
