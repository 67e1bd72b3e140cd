-- Gathered lists of one element or none: their length is a count, those of one element each make a table, and so the numbers of poses
-- that stand in a list are gathered pose by pose.
-- Assumes nothing.
use Rattle.std.proofs.Common.{◌≡◌, ℕ, zero, suc, ◌+◌, ◌<◌, Bool, true, false, cond, List, [], ◌∷◌, ◌++◌, length, refl, ap, ◌∙◌, arith, length-append}
use lib.Ieee.{Float}
use Rattle.arithmetic.specs.Pose.{flat}
use Rattle.arithmetic.specs.declared.pose.Pose.{Pose}
use Rattle.lists.specs.Finding.{count}
use Rattle.lists.specs.Lists.{tabulate, gather}
use Rattle.claims_direct.specs.Encoding.{flat_all}

module _ {A : Type 0} where
  pub gather-tabulate : (n : ℕ) (f : ℕ → A) → gather n (λ i. f i ∷ []) ≡ tabulate n f
  unfolding gather tabulate
  gather-tabulate zero f = refl
  gather-tabulate (suc n) f = rw (gather-tabulate n f)

  -- Lists of one element or none, as a test says.
  pub length-gather : (test : ℕ → Bool) (n : ℕ) (f : ℕ → List A) → ((i : ℕ) → i < n → length (f i) ≡ cond (test i) 1 0)
      → length (gather n f) ≡ count test n
  unfolding gather count
  length-gather test zero f h = refl
  length-gather test (suc n) f h =
      length-append (gather n f) (f n) ∙ go (test n) (h n (omega arith)) (length-gather test n f (λ i l. h i (omega arith)))
    where
      go : (t : Bool) → length (f n) ≡ cond t 1 0 → length (gather n f) ≡ count test n
          → length (gather n f) + length (f n) ≡ cond t (suc (count test n)) (count test n)
      go true e rest = omega arith
      go false e rest = omega arith

-- ---- the numbers of poses

flat_all-append : (l m : List Pose) → flat_all (l ++ m) ≡ flat_all l ++ flat_all m
unfolding flat_all
flat_all-append [] m = refl
flat_all-append (p ∷ l) m = ap (λ (k : List Float). flat p ++ k) (flat_all-append l m)

pub flat_all-tabulate : (n : ℕ) (f : ℕ → Pose) → flat_all (tabulate n f) ≡ gather n (λ i. flat (f i))
unfolding flat_all tabulate gather
flat_all-tabulate zero f = refl
flat_all-tabulate (suc n) f = flat_all-append (tabulate n f) (f n ∷ []) ∙ ap (λ (l : List Float). l ++ flat (f n)) (flat_all-tabulate n f)
