-- Which patterns of 64 bits are those of finite doubles: without the sign's bit they are the numbers below infinity's pattern. Assumes nothing.
use Prim.Native.Nat.{ℕ, zero, suc, ◌+◌, ◌/◌, ◌%◌, ◌^◌, ◌<◌}
use native.Mathlib.Decide.{dec_lt}
use native.Mathlib.Omega.{arith}
use mathlib.Core.Path.{◌≡◌, refl, sym, ap, ◌∙◌}
use mathlib.Core.Bool.{Bool, true, false, not, cond}
use lib.Dec.{T, eqb, leb, ltb}
use borrow.Author.Tests.{ltb-true, lt-ltb, le-ltb, eq-eqb, ne_eqb}
use lib.Ieee.{nan, inf, binary64, odd, of_fields, of_bits, nan_bits}
use lib.Ieee.Scale.{finite}
use Rattle.std.proofs.lemmas.Float.{not_nan_f64_bits}

-- The pattern of infinity, and the bit of the sign.
abbrev pub infinity : ℕ
infinity = 9218868437227405312

abbrev pub sign : ℕ
sign = 9223372036854775808

finite_odd : (d : ℕ) (s : Bool) (q k l : ℕ) → finite (odd d s q k l) ≡ true
unfolding odd
finite_odd d s zero k l = refl
finite_odd d s (suc q) k l = refl

finite_fields : (s : Bool) (x t : ℕ) → finite (of_fields binary64 s x t) ≡ not (eqb x 2047)
unfolding of_fields
finite_fields s zero t = finite_odd 53 s t 0 1074
finite_fields s (suc x) t = go (eqb (suc x) 2047) (eqb t 0)
  where
    go : (a b : Bool) → finite (cond a (cond b (inf s) nan) (odd 53 s (2 ^ 52 + t) x 1074)) ≡ not a
    go true true = refl
    go true false = refl
    go false b = finite_odd 53 s (2 ^ 52 + t) x 1074

-- The exponent's field is all ones exactly from infinity's pattern on.
below-infinity : (r : ℕ) → r < sign → not (eqb (r / 2 ^ 52) 2047) ≡ ltb r infinity
below-infinity r h = go (dec_lt r infinity)
  where
    go : Dec (r < infinity) → not (eqb (r / 2 ^ 52) 2047) ≡ ltb r infinity
    go (yes y) = ap not (ne_eqb (r / 2 ^ 52) 2047 (λ e. omega arith)) ∙ sym (lt-ltb r infinity y)
    go (no n) = ap not (eq-eqb (r / 2 ^ 52) 2047 (omega arith)) ∙ sym (le-ltb r infinity (omega arith))

pub finite_pattern : (n : ℕ) → finite (of_bits binary64 n) ≡ ltb (n % sign) infinity
unfolding of_bits
finite_pattern n = finite_fields (leb sign n) (n % sign / 2 ^ 52) (n % 2 ^ 52) ∙ below-infinity (n % sign) (omega arith)

-- A finite pattern is no NaN's.
pub not_nan_pattern : (n : ℕ) → finite (of_bits binary64 n) ≡ true → T (not (nan_bits binary64 n))
not_nan_pattern n f =
    let below = ltb-true (n % sign) infinity (sym (finite_pattern n) ∙ f) in
    not_nan_f64_bits n (omega arith)
