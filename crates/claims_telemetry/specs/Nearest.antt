-- The double nearest an exact quotient, with no quotient computed: document 02, change 3, "Each translation is the nearest double to the count divided by 1,000,000, and each
-- rotation number is exact; a zero word gives plus zero. The sign is kept over the whole range". As with the root, all is said of whole numbers: a finite double is a
-- whole number of units of 2 ^ −1074 (`units_of`), one is `units_in_one` of them, and so the quotient of n by a divisor, in units, is n * units_in_one by the divisor.
-- Rests on the units of `root`.
use Rattle.std.specs.Prelude.{ℕ, ◌+◌, ◌*◌, ◌<◌, ◌≡◌, Bool, true, false, T, ℤ, pos, negsuc, nat_abs, Float}
use Rattle.std.specs.Float.{nan, inf, fin, binary64}
use Rattle.std.specs.Float.Ieee.{fits}
use Rattle.root.specs.Root.{units_in_one, units_of}

-- The sign of a count; `negsuc n` is −(n + 1).
abbrev pub is_negative : ℤ → Bool
is_negative (pos n) = false
is_negative (negsuc n) = true

-- Of Y and Z units, Y is the nearer to n / divisor, strictly: the quotient is below (Y + Z) / 2 where Y is the smaller, and above it where Y is the larger.
pub record Nearer (n divisor Y Z : ℕ) : Type 0 where
  pub from_below : Z < Y → (Y + Z) * divisor < 2 * (n * units_in_one)
  pub from_above : Y < Z → 2 * (n * units_in_one) < (Y + Z) * divisor

-- p * 2 ^ d with the sign s is a double, has the count's sign, plus for 0, and is nearer to the quotient than every double of another size, strictly, so that there is no tie to be settled. A
-- double of the other sign is measured by its size: it is further away still, but at 0, where the sign alone settles it.
pub record NearestQuotient (count : ℤ) (divisor : ℕ) (s : Bool) (p : ℕ) (d : ℤ) : Type 0 where
  pub same_sign : s ≡ is_negative count
  pub held : T (fits binary64 (fin s p d))
  pub nearest_of_all : (t : Bool) (n : ℕ) (c : ℤ) → T (fits binary64 (fin t n c)) → Nearer (nat_abs count) divisor (units_of p d) (units_of n c)

abbrev pub IsNearest : ℤ → ℕ → Float → Type 0
IsNearest count divisor nan = ⊥
IsNearest count divisor (inf s) = ⊥
IsNearest count divisor (fin s p d) = NearestQuotient count divisor s p d

-- The quotient itself, with the count's sign.
pub record ExactQuotient (count : ℤ) (divisor : ℕ) (s : Bool) (p : ℕ) (d : ℤ) : Type 0 where
  pub same_sign : s ≡ is_negative count
  pub held : T (fits binary64 (fin s p d))
  pub exact : units_of p d * divisor ≡ nat_abs count * units_in_one

abbrev pub IsExact : ℤ → ℕ → Float → Type 0
IsExact count divisor nan = ⊥
IsExact count divisor (inf s) = ⊥
IsExact count divisor (fin s p d) = ExactQuotient count divisor s p d
