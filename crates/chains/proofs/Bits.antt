-- Views of both masks are the ones of both masks joined by and, and they are the shared views of the cameras whose poses the masks mark.
-- Assumes nothing.
use Prim.Native.Nat.{ℕ, zero, suc, ◌+◌, ◌/◌, ◌%◌, ◌^◌, ◌≤◌, ◌<◌, min}
use native.Mathlib.Omega.{arith}
use native.Mathlib.Decide.{le_ind}
use native.Mathlib.Nat.{mod-lt, mod-one, mod-eq_of_lt}
use native.Mathlib.Numerals.{one-add}
use mathlib.Core.Path.{◌≡◌, refl, sym, ap, ap₂, ◌∙◌}
use mathlib.Core.Bool.{Bool, false, cond, ◌&&◌}
use mathlib.Core.List.{List}
use lib.ListN.{get_or}
use lib.Dec.{eqb}
use lib.Bits.{bit_and, and_step, and_shr, and_le_l}
use lib.Count.{ones, ones_cat}
use lib.Pow.{mod-pow-add, pow_pos}
use Rattle.limits.specs.Limits.{max_views}
use Rattle.lists.specs.Finding.{count}
use Rattle.chains.specs.Shared.{shared}
use Rattle.lists.specs.Masks.{in_mask}
use Rattle.chains.specs.Masks.{views_of_both, shared_by}
use Rattle.lists.proofs.Counting.{count-le, count_agree}

-- ---- one bit

bit_and_at : (a b v : ℕ) → bit_and a b / 2 ^ v % 2 ≡ min (a / 2 ^ v % 2) (b / 2 ^ v % 2)
bit_and_at a b v = rw (and_shr a b v) (go (a / 2 ^ v) (b / 2 ^ v))
  where
    go : (x y : ℕ) → bit_and x y % 2 ≡ min (x % 2) (y % 2)
    go x y = omega (arith, and_step x y)

ones_bit : (n : ℕ) → n < 2 → ones n ≡ n
unfolding ones
ones_bit zero h = refl
ones_bit (suc zero) h = refl
ones_bit (suc (suc n)) h = absurd (omega arith)

-- The ones below bit n + 1 are bit n and those below.
ones_below : (z n : ℕ) → ones (z % 2 ^ suc n) ≡ z / 2 ^ n % 2 + ones (z % 2 ^ n)
ones_below z n =
    ap (λ (k : ℕ). ones (z % 2 ^ k)) (sym (one-add n))
    ∙ ap ones (mod-pow-add z 1 n)
    ∙ ones_cat n (z / 2 ^ n % 2) (z % 2 ^ n) (mod-lt z (pow_pos n))
    ∙ ap (λ (x : ℕ). x + ones (z % 2 ^ n)) (ones_bit (z / 2 ^ n % 2) (omega arith))

-- ---- two masks

-- A view is counted by both bits together.
both_bits : (x y k : ℕ) → x < 2 → y < 2 → cond (eqb x 1 && eqb y 1) (suc k) k ≡ min x y + k
both_bits zero y k h l = omega arith
both_bits (suc zero) zero k h l = omega arith
both_bits (suc zero) (suc zero) k h l = omega arith
both_bits (suc zero) (suc (suc y)) k h l = absurd (omega arith)
both_bits (suc (suc x)) y k h l = absurd (omega arith)

count_ones : (a b m : ℕ) → count (λ v. in_mask a v && in_mask b v) m ≡ ones (bit_and a b % 2 ^ m)
unfolding count in_mask ones
count_ones a b zero = sym (ap ones (mod-one (bit_and a b)))
count_ones a b (suc m) =
    both_bits (a / 2 ^ m % 2) (b / 2 ^ m % 2) (count (λ v. in_mask a v && in_mask b v) m) (omega arith) (omega arith)
    ∙ ap₂ (λ (x y : ℕ). x + y) (sym (bit_and_at a b m)) (count_ones a b m)
    ∙ sym (ones_below (bit_and a b) m)

-- The shared count is the number of ones in both masks taken together.
pub views_of_both-ones : (a b : ℕ) → a < 2 ^ max_views → views_of_both a b ≡ ones (bit_and a b)
unfolding views_of_both
views_of_both-ones a b h = count_ones a b max_views ∙ ap ones (mod-eq_of_lt (omega (arith, and_le_l a b)))

pub views_of_both-le : (a b : ℕ) → views_of_both a b ≤ max_views
unfolding views_of_both
views_of_both-le a b = count-le (λ v. in_mask a v && in_mask b v) max_views

-- ---- masks that mark the views holding poses

-- Views past the last one are in no mask.
count_past : (f : ℕ → Bool) (m n : ℕ) → m ≤ n → ((v : ℕ) → m ≤ v → v < n → f v ≡ false) → count f n ≡ count f m
unfolding count
count_past f m n h none =
    le_ind (λ (k : ℕ). k ≤ n → count f k ≡ count f m) (λ _. refl) (λ k l rest j. rw (none k l j) (rest (omega arith))) n h (omega arith)

-- Where the masks mark which of the first `views` views hold a pose, and nothing else, cameras share as many views by their masks
-- as by the poses held.
pub shared_by-shared : (masks : List ℕ) (holds : ℕ → ℕ → Bool) (cameras views : ℕ) → views ≤ max_views
    → ((c v : ℕ) → c < cameras → v < views → in_mask (get_or masks c 0) v ≡ holds v c)
    → ((c v : ℕ) → c < cameras → views ≤ v → v < max_views → in_mask (get_or masks c 0) v ≡ false)
    → (a b : ℕ) → a < cameras → b < cameras → shared_by masks a b ≡ shared holds views a b
unfolding shared_by views_of_both shared
shared_by-shared masks holds cameras views h marks none a b ha hb =
    count_past (λ v. in_mask (get_or masks a 0) v && in_mask (get_or masks b 0) v) views max_views h (λ v k l. rw (none a v ha k l))
    ∙ count_agree (λ v. in_mask (get_or masks a 0) v && in_mask (get_or masks b 0) v) (λ v. holds v a && holds v b) views (λ v l. rw (marks a v ha l, marks b v hb l))
