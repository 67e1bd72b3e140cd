-- Laws of `gather`: one list more, its length, that it depends on the lists only, and that an `Average` takes gathered poses list by list.
-- Assumes nothing.
use Prim.Native.Nat.{ℕ, zero, suc, ◌+◌, ◌^◌, ◌≤◌, ◌<◌}
use native.Mathlib.Numerals.{add-one}
use native.Mathlib.Omega.{arith}
use mathlib.Core.Path.{◌≡◌, refl, sym, ap, ◌∙◌}
use mathlib.Core.List.{List, [], ◌∷◌, ◌++◌, append-nil, append_assoc, foldl}
use lib.ListN.{length, length-append}
use Rattle.mean.specs.Inner.Taking.{plus_pose, taken}
use Rattle.arithmetic.specs.declared.pose.Pose.{Pose}
use Rattle.mean.proofs.Averaging.{taken-append}
use Rattle.lists.specs.Lists.{gather}
use Rattle.placing.specs.Estimate.{link_candidate, target_candidate}
use Rattle.placing.specs.Grid.{Cell}
use Rattle.std.specs.Prelude.{None, Some}

module _ {A : Type 0} where
  pub gather-next : (n : ℕ) (f : ℕ → List A) → gather (n + 1) f ≡ gather n f ++ f n
  unfolding gather
  gather-next n f = rw add-one

  pub gather_agree : (n : ℕ) (f g : ℕ → List A) → ((i : ℕ) → i < n → f i ≡ g i) → gather n f ≡ gather n g
  unfolding gather
  gather_agree zero f g h = refl
  gather_agree (suc n) f g h = rw (h n (omega arith), gather_agree n f g (λ i l. h i (omega arith)))

  -- Lists of at most one element gather to no more elements than there are lists.
  pub length-gather-le : (n : ℕ) (f : ℕ → List A) → ((i : ℕ) → length (f i) ≤ 1) → length (gather n f) ≤ n
  unfolding gather
  length-gather-le zero f h = omega arith
  length-gather-le (suc n) f h = simp length-append (omega (arith, h n, length-gather-le n f h))

-- ---- candidates

pub length-link_candidate-le : (p c : Cell) → length (link_candidate p c) ≤ 1
unfolding link_candidate
length-link_candidate-le None c = omega arith
length-link_candidate-le (Some p) None = omega arith
length-link_candidate-le (Some p) (Some q) = omega arith

pub length-target_candidate-le : (p : Pose) (c : Cell) → length (target_candidate p c) ≤ 1
unfolding target_candidate
length-target_candidate-le p None = omega arith
length-target_candidate-le p (Some q) = omega arith

-- ---- what an `Average` has taken

-- The poses of a list more, while the count does not wrap.
pub taken_list : (l m : List Pose) → length l + length m < 2 ^ 32 → foldl plus_pose (taken l) m ≡ taken (l ++ m)
taken_list l [] h = ap taken (sym (append-nil l))
taken_list l (p ∷ m) h =
    ap (λ a. foldl plus_pose a m) (taken-append l p (omega arith))
    ∙ taken_list (l ++ (p ∷ [])) m (simp length-append (omega arith))
    ∙ ap taken (append_assoc l (p ∷ []) m)

-- One gathered list more.
pub taken-gather-next : (n : ℕ) (f : ℕ → List Pose) → ((i : ℕ) → length (f i) ≤ 1) → n + 1 < 2 ^ 32
    → foldl plus_pose (taken (gather n f)) (f n) ≡ taken (gather (n + 1) f)
taken-gather-next n f h k =
    taken_list (gather n f) (f n) (omega (arith, h n, length-gather-le n f h)) ∙ ap taken (sym (gather-next n f))
