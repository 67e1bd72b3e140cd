-- Laws of the views that two masks share: in both orders, of an empty mask, and where one mask has one view more. Assumes nothing.
use Prim.Native.Nat.{ℕ, suc, ◌+◌, ◌-◌, ◌/◌, ◌%◌, ◌^◌, ◌≤◌, ◌<◌}
use native.Mathlib.Decide.{ℕ_discrete, dec_lt, le_ind}
use native.Mathlib.Nat.{zero-div}
use native.Mathlib.Omega.{arith}
use mathlib.Core.Path.{◌≡◌, refl, sym, ap, ◌∙◌}
use mathlib.Core.Logic.{◌≢◌}
use mathlib.Core.Bool.{Bool, true, false, ◌&&◌, and_comm, true≢false}
use mathlib.Core.List.{List}
use lib.ListN.{length, get_or, set, get_or-eq_default}
use lib.Seq.{get_or-set_same, get_or-set_other}
use borrow.Author.Tests.{eqb-true, eqb-false, ne_eqb}
use Rattle.limits.specs.Limits.{max_views}
use Rattle.lists.specs.Finding.{count}
use Rattle.lists.specs.Masks.{in_mask}
use Rattle.chains.specs.Masks.{views_of_both, shared_by}
use Rattle.lists.proofs.Counting.{count_agree, count_until}
use Rattle.lists.proofs.MaskBits.{in_mask_minus_same, in_mask_minus_other}
use Rattle.chains.proofs.Bits.{views_of_both-le}

views_of_both-symmetric : (x y : ℕ) → views_of_both x y ≡ views_of_both y x
unfolding views_of_both
views_of_both-symmetric x y = count_agree _ _ max_views (λ v _. and_comm (in_mask x v) (in_mask y v))

pub shared_by-symmetric : (masks : List ℕ) (a b : ℕ) → shared_by masks a b ≡ shared_by masks b a
unfolding shared_by
shared_by-symmetric masks a b = views_of_both-symmetric (get_or masks a 0) (get_or masks b 0)

pub shared_by-le : (masks : List ℕ) (a b : ℕ) → shared_by masks a b ≤ max_views
unfolding shared_by
shared_by-le masks a b = views_of_both-le (get_or masks a 0) (get_or masks b 0)

in_mask-zero : (v : ℕ) → in_mask 0 v ≡ false
unfolding in_mask
in_mask-zero v = ne_eqb (0 / 2 ^ v % 2) 1 (omega (arith, zero-div (2 ^ v)))

pub views_of_both-zero : (y : ℕ) → views_of_both 0 y ≡ 0
unfolding views_of_both
views_of_both-zero y = count_until (λ v. in_mask 0 v && in_mask y v) max_views (λ v _. rw (in_mask-zero v))

pub shared_by-none : (masks : List ℕ) (a b : ℕ) → get_or masks a 0 ≡ 0 → shared_by masks a b ≡ 0
unfolding shared_by
shared_by-none masks a b e = rw e (views_of_both-zero (get_or masks b 0))

-- ---- one view more

-- A test that one number more passes.
count-one_more : (f g : ℕ → Bool) (m q : ℕ) → q < m → f q ≡ false → g q ≡ true → ((i : ℕ) → i ≢ q → f i ≡ g i) → count g m ≡ suc (count f m)
unfolding count
count-one_more f g m q l fails passes other = le_ind (λ (k : ℕ). count g k ≡ suc (count f k)) first more m l
  where
    first : count g (suc q) ≡ suc (count f (suc q))
    first = rw (fails, passes) (ap suc (count_agree g f q (λ i k. sym (other i (omega arith)))))

    more : (k : ℕ) → suc q ≤ k → count g k ≡ suc (count f k) → count g (suc k) ≡ suc (count f (suc k))
    more k h e = grind (arith, other k)

bit_held : (m v : ℕ) → in_mask m v ≡ true → m / 2 ^ v % 2 ≡ 1
unfolding in_mask
bit_held m v e = eqb-true _ _ e

bit_clear : (m v : ℕ) → in_mask m v ≡ false → m / 2 ^ v % 2 ≡ 0
unfolding in_mask
bit_clear m v e = let other : m / 2 ^ v % 2 ≢ 1 = eqb-false _ _ e in omega arith

-- One view more in x, and in y or not, is one shared view more where y has it.
views_of_both_more : (x x' y y' v : ℕ) → v < max_views → in_mask x v ≡ true → in_mask x' v ≡ false
    → ((w : ℕ) → w ≢ v → in_mask x' w ≡ in_mask x w) → ((w : ℕ) → w ≢ v → in_mask y' w ≡ in_mask y w)
    → views_of_both x y ≡ views_of_both x' y' + y / 2 ^ v % 2
unfolding views_of_both
views_of_both_more x x' y y' v l held clear sameX sameY = go (in_mask y v) refl
  where
    before : ℕ → Bool
    before w = in_mask x' w && in_mask y' w

    after : ℕ → Bool
    after w = in_mask x w && in_mask y w

    other : (w : ℕ) → w ≢ v → before w ≡ after w
    other w d = rw (sameX w d, sameY w d)

    go : (t : Bool) → in_mask y v ≡ t → count after max_views ≡ count before max_views + y / 2 ^ v % 2
    go true e = count-one_more before after max_views v l (rw clear) (rw (held, e)) other ∙ omega (arith, bit_held y v e)
    go false e =
        count_agree after before max_views (λ w _. elim (ℕ_discrete w v) [ yes s ↦ rw (s, held, e, clear) | no d ↦ sym (other w d) ])
        ∙ omega (arith, bit_clear y v e)

-- ---- one view more of a camera

-- The masks without it.
abbrev pub without : List ℕ → ℕ → ℕ → List ℕ
without masks camera view = set masks camera (get_or masks camera 0 - 2 ^ view)

other_mask : (masks : List ℕ) (camera view b : ℕ) → b ≢ camera → get_or (without masks camera view) b 0 ≡ get_or masks b 0
other_mask masks camera view b d = get_or-set_other masks camera b (get_or masks camera 0 - 2 ^ view) 0 d

pub shared_by_other : (masks : List ℕ) (camera view a b : ℕ) → a ≢ camera → b ≢ camera → shared_by masks a b ≡ shared_by (without masks camera view) a b
unfolding shared_by
shared_by_other masks camera view a b d e = rw (other_mask masks camera view a d, other_mask masks camera view b e)

module _ (masks : List ℕ) (camera view : ℕ) (held : in_mask (get_or masks camera 0) view ≡ true) where
  -- A mask past the end holds no view.
  inside : camera < length masks
  inside =
      elim (dec_lt camera (length masks)) [
        | yes h ↦ h
        | no h ↦
            let none : get_or masks camera 0 ≡ 0 = get_or-eq_default masks 0 (omega arith) in
            absurd (true≢false (sym held ∙ rw none (in_mask-zero view)))
      ]

  same_mask : get_or (without masks camera view) camera 0 ≡ get_or masks camera 0 - 2 ^ view
  same_mask = get_or-set_same masks camera (get_or masks camera 0 - 2 ^ view) 0 inside

  other_views : (b w : ℕ) → w ≢ view → in_mask (get_or (without masks camera view) b 0) w ≡ in_mask (get_or masks b 0) w
  other_views b w d =
      elim (ℕ_discrete b camera) [
        | yes s ↦ rw (s, same_mask) (in_mask_minus_other (get_or masks camera 0) view held w d)
        | no s ↦ rw (other_mask masks camera view b s)
      ]

  pub shared_by_more : view < max_views → (b : ℕ) → shared_by masks camera b ≡ shared_by (without masks camera view) camera b + get_or masks b 0 / 2 ^ view % 2
  unfolding shared_by
  shared_by_more l b =
      views_of_both_more (get_or masks camera 0) (get_or (without masks camera view) camera 0) (get_or masks b 0) (get_or (without masks camera view) b 0) view l held
      (rw same_mask (in_mask_minus_same (get_or masks camera 0) view held))
      (other_views camera)
      (other_views b)
