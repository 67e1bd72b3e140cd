-- The roots that are no computation: of a NaN, of a zero, of +infinity and of a number below zero, as `sqrt` tells them by float comparisons;
-- and that what is left has a finite pattern above zero. Assumes nothing.
use mathlib.Core.Path.{◌≡◌, refl, sym, ap, ◌∙◌, subst}
use mathlib.Core.Logic.{⊎_elim}
use mathlib.Core.Bool.{true, false, not, true≢false, false≢true}
use Prim.Native.Nat.{ℕ, zero, suc, ◌*◌, ◌<◌}
use native.Mathlib.Nat.{eq-zero-or-pos, zero-lt-suc, mul-pos}
use native.Mathlib.Omega.{arith}
use lib.IntN.{ℤ}
use lib.Dec.{T}
use lib.Ieee.{Float, nan, inf, fin, binary64, up, lt, ne, fits, is_nan, of_bits, to_bits}
use lib.Ieee.Fits.{up_pos}
use lib.Ieee.Bits.{of_bits-to_bits}
use Rattle.std.proofs.lemmas.Bool.{ltb-true, ltb-false}
use Rattle.root.specs.Root.{root_of, IsRootOf}
use Rattle.root.proofs.Bits.{infinite, to_bits-fits}
use Rattle.root.proofs.Nearest.{root_of_is}

-- what `sqrt` promises
abbrev pub Promised : Float → Float → Type 0
Promised x r = (r ≡ root_of x) × IsRootOf x r

-- the computed root is one
pub computed_root : (x r : Float) → T (fits binary64 x) → r ≡ root_of x → Promised x r
computed_root x r held e = (e, subst (IsRootOf x) (sym e) (root_of_is x held))

size-pos : (m : ℕ) (e : ℤ) → 0 < suc m * up e * 1
size-pos m e = mul-pos (mul-pos (zero-lt-suc m) (up_pos e)) (zero-lt-suc 0)

-- a NaN and a zero, neither above zero nor below it
pub own_root : (x : Float) → lt (of_bits binary64 0) x ≡ false → lt x (of_bits binary64 0) ≡ false → Promised x x
unfolding root_of lt of_bits
own_root nan a b = (refl, refl)
own_root (inf true) a b = absurd (true≢false b)
own_root (inf false) a b = absurd (true≢false a)
own_root (fin s zero e) a b = (refl, refl)
own_root (fin true (suc m) e) a b = let p = size-pos m e in let l = ltb-false _ _ b in absurd (omega arith)
own_root (fin false (suc m) e) a b = let p = size-pos m e in let l = ltb-false _ _ a in absurd (omega arith)

pub infinite_root : (x : Float) → lt (of_bits binary64 0) x ≡ true → lt x (of_bits binary64 infinite) ≡ false → Promised x x
unfolding root_of lt of_bits
infinite_root nan a b = (refl, refl)
infinite_root (inf true) a b = absurd (false≢true a)
infinite_root (inf false) a b = (refl, refl)
infinite_root (fin s m e) a b = absurd (true≢false b)

pub root_below-zero : (x : Float) → lt x (of_bits binary64 0) ≡ true → Promised x (of_bits binary64 0x7ff8_0000_0000_0000)
unfolding root_of lt of_bits
root_below-zero nan h = absurd (false≢true h)
root_below-zero (inf true) h = (refl, refl)
root_below-zero (inf false) h = absurd (false≢true h)
root_below-zero (fin true (suc m) e) h = (refl, refl)
root_below-zero (fin true zero e) h = let l = ltb-true _ _ h in absurd (omega arith)
root_below-zero (fin false m e) h = let l = ltb-true _ _ h in absurd (omega arith)

pub not-nan : (x : Float) → ne x x ≡ false → T (not (is_nan x))
unfolding ne is_nan
not-nan nan h = absurd (true≢false h)
not-nan (inf s) h = tt
not-nan (fin s m e) h = tt

-- ---- what is left

pub to_bits-pos : (x : Float) → T (fits binary64 x) → lt (of_bits binary64 0) x ≡ true → 0 < to_bits binary64 x
unfolding lt of_bits
to_bits-pos x f a = ⊎_elim (λ (z : to_bits binary64 x ≡ 0). absurd (false≢true (above_itself (ap (of_bits binary64) (sym z) ∙ of_bits-to_bits binary64 x f)))) (λ p. p) (eq-zero-or-pos (to_bits binary64 x))
  where
    above_itself : of_bits binary64 0 ≡ x → false ≡ true
    above_itself e = subst (λ (y : Float). lt (of_bits binary64 0) y ≡ true) (sym e) a

pub to_bits-finite : (x : Float) → T (fits binary64 x) → lt (of_bits binary64 0) x ≡ true → lt x (of_bits binary64 infinite) ≡ true → to_bits binary64 x < infinite
unfolding lt of_bits
to_bits-finite nan f a b = absurd (false≢true a)
to_bits-finite (inf true) f a b = absurd (false≢true a)
to_bits-finite (inf false) f a b = absurd (false≢true b)
to_bits-finite (fin true m e) f a b = absurd (false≢true a)
to_bits-finite (fin false m e) f a b = to_bits-fits m e f
