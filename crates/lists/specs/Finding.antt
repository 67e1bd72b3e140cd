-- Tests over the numbers below a bound: whether all pass, how many do, the lowest that does, and those that do as a sum of powers of two. Assumes nothing.
use Rattle.std.specs.Prelude.{ℕ, zero, suc, ◌+◌, ◌^◌, Bool, true, ◌&&◌, cond}
use Rattle.std.specs.Prelude.{Option, None, Some}

-- Whether all numbers below n pass the test.
unfoldable pub all_below : (ℕ → Bool) → ℕ → Bool
all_below test zero = true
all_below test (suc n) = all_below test n && test n

-- How many of the first `m` numbers pass the test.
unfoldable pub count : (ℕ → Bool) → ℕ → ℕ
count test zero = zero
count test (suc m) = cond (test m) (suc (count test m)) (count test m)

-- The lowest number below n that passes the test.
unfoldable pub lowest : (ℕ → Bool) → ℕ → Option ℕ
lowest test zero = None
lowest test (suc n) = elim (lowest test n) [ Some i ↦ Some i | None ↦ cond (test n) (Some n) None ]

-- "sums 2 to the power c over those" numbers below n that pass the test.
unfoldable pub power_sum : (ℕ → Bool) → ℕ → ℕ
power_sum test zero = 0
power_sum test (suc n) = power_sum test n + cond (test n) (2 ^ n) 0
