-- The square root of a double, as IEEE 754 has it: the double nearest the exact root, ties to even. Definitions only.
-- Every finite double is a whole number of the smallest double, the unit. One is 2 ^ 1074 units, so the root of X units is √(X * 2 ^ 1074) units:
-- the exact root's square is a whole number, and all that is said here is said of whole numbers and their squares.
-- `root_of` computes the root: the 53 leading binary digits of √s, then one rounding, by the square of the midpoint.
-- `IsRootOf` says it with no root computed: of all doubles the result is the nearest, strictly. Strictly, since a tie never happens
-- (`no_tie` of proofs/Nearest.antt): so "ties to even" is kept, and `root_of`, which settles a tie so, is the only root (`only_root`). Assumes nothing.
use Rattle.std.specs.Prelude.{◌≡◌, Bool, true, false, cond, T, leb, ℤ, Float}
use Prim.Native.Nat.{ℕ, zero, suc, ◌+◌, ◌-◌, ◌*◌, ◌/◌, ◌^◌, ◌<◌, compare}
use Rattle.std.specs.Float.{nan, inf, fin, binary64}
use Rattle.std.specs.Float.Ieee.{up, down, size, nearest, units, fits}

abbrev pub sq : ℕ → ℕ
sq n = n * n

-- ---- units

abbrev pub units_in_one : ℕ
units_in_one = 2 ^ 1074

-- how many units m * 2 ^ e is, for a double that fits
unfoldable pub units_of : ℕ → ℤ → ℕ
units_of m e = m * up e * units_in_one / down e

-- the square of its root, in units
unfoldable pub root_square : ℕ → ℤ → ℕ
unfolding units_of
root_square m e = units_of m e * units_in_one

-- ---- the root, computed

-- the whole part of √n for an n below 4 ^ d, a binary digit at a time
unfoldable pub whole_root : ℕ → ℕ → ℕ
whole_root zero n = 0
whole_root (suc d) n = let r = 2 * whole_root d (n / 4) in cond (leb (sq (r + 1)) n) (r + 1) r

-- how many binary digits of √s's whole part come after the 53 leading ones
unfoldable pub dropped : ℕ → ℕ
unfolding size
dropped s = (size s + 1) / 2 - 53

-- the 53 leading ones
unfoldable pub leading : ℕ → ℕ
unfolding whole_root dropped
leading s = whole_root 53 (s / sq (2 ^ dropped s))

-- √s in units of 2 ^ dropped s, rounded to nearest, ties to even: h or h + 1, by how √s compares with h and a half
unfoldable pub rounded : ℕ → ℕ
unfolding leading dropped
rounded s = let h = leading s in let k = dropped s in nearest h (compare (4 * s) (sq ((2 * h + 1) * 2 ^ k)))

unfoldable pub root_of : Float → Float
unfolding rounded dropped root_square units
root_of nan = nan
root_of (inf true) = nan
root_of (inf false) = inf false
root_of (fin s zero e) = fin s zero e
root_of (fin true (suc m) e) = nan
root_of (fin false (suc m) e) = let s = root_square (suc m) e in units binary64 false (rounded s) (dropped s)

-- ---- the root, described

-- Of Y and Z units, Y is the nearer to √s: √s is below (Y + Z) / 2 where Y is the smaller, and above it where Y is the larger.
pub record Nearer (s Y Z : ℕ) : Type 0 where
  pub from_below : Z < Y → sq (Y + Z) < 4 * s
  pub from_above : Y < Z → 4 * s < sq (Y + Z)

-- p * 2 ^ d is a double, and is nearer to the root of m * 2 ^ e than every other double. A negative double is measured by its size: it is further away still.
pub record NearestRoot (m : ℕ) (e : ℤ) (p : ℕ) (d : ℤ) : Type 0 where
  pub held : T (fits binary64 (fin false p d))
  pub nearest_of_all : (t : Bool) (n : ℕ) (c : ℤ) → T (fits binary64 (fin t n c)) → Nearer (root_square m e) (units_of p d) (units_of n c)

abbrev pub IsRootOf : Float → Float → Type 0
IsRootOf nan r = r ≡ nan
IsRootOf (inf true) r = r ≡ nan
IsRootOf (inf false) r = r ≡ inf false
IsRootOf (fin s zero e) r = r ≡ fin s zero e
IsRootOf (fin true (suc m) e) r = r ≡ nan
IsRootOf (fin false (suc m) e) nan = ⊥
IsRootOf (fin false (suc m) e) (inf t) = ⊥
IsRootOf (fin false (suc m) e) (fin true p d) = ⊥
IsRootOf (fin false (suc m) e) (fin false p d) = NearestRoot (suc m) e p d

-- Two doubles that are not negative, the first the smaller, with no double between them. A tie would be an exact root midway between such two:
-- the text gives it to the even one, and `no_tie` shows that there is none.
pub record Neighbours (n : ℕ) (c : ℤ) (p : ℕ) (d : ℤ) : Type 0 where
  pub lower_held : T (fits binary64 (fin false n c))
  pub upper_held : T (fits binary64 (fin false p d))
  pub apart : units_of n c < units_of p d
  pub none_between : (t : Bool) (q : ℕ) (b : ℤ) → T (fits binary64 (fin t q b)) → units_of n c < units_of q b → units_of q b < units_of p d → ⊥
