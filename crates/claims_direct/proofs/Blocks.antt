-- Reading back what stands in blocks of one width, one after the other: an element of a block, and a pose of seven floats.
-- Assumes nothing.
use Rattle.std.proofs.Common.{◌≡◌, ℕ, zero, suc, ◌+◌, ◌*◌, ◌<◌, List, ◌++◌, length, get_or, sym, refl, ap, ◌∙◌, ⊎_elim, le_of_suc-le-suc, eq-or-lt_of_le, mul-le-mul_left, mul-suc, arith, get_or-append-add}
use lib.ListN.{get_or-append}
use lib.Ieee.{Float, nan}
use Rattle.arithmetic.specs.Pose.{pose_at, flat}
use Rattle.arithmetic.specs.declared.pose.Pose.{Pose}
use Rattle.lists.specs.Lists.{gather}
use Rattle.lists.proofs.Blocks.{length-gather}

module _ {A : Type 0} (f : ℕ → List A) (w : ℕ) (each : (i : ℕ) → length (f i) ≡ w) (d : A) where
  place_inside : (n i j : ℕ) → i < n → j < w → w * i + j < length (gather n f)
  place_inside n i j h k = omega (arith, length-gather f w each n, mul-le-mul_left w h, mul-suc w i)

  -- Number j of block i.
  pub get_or-gather : (n i j : ℕ) → i < n → j < w → get_or (gather n f) (w * i + j) d ≡ get_or (f i) j d
  unfolding gather
  get_or-gather zero i j h k = absurd (omega arith)
  get_or-gather (suc n) i j h k =
      ⊎_elim last (λ l. before l ∙ get_or-gather n i j l k) (eq-or-lt_of_le (le_of_suc-le-suc h))
    where
      last : i ≡ n → get_or (gather n f ++ f n) (w * i + j) d ≡ get_or (f i) j d
      last e =
          rw e
          (ap (λ (at : ℕ). get_or (gather n f ++ f n) at d) (ap (λ (m : ℕ). m + j) (sym (length-gather f w each n)))
          ∙ get_or-append-add (gather n f) (f n) j d)

      before : i < n → get_or (gather n f ++ f n) (w * i + j) d ≡ get_or (gather n f) (w * i + j) d
      before l = get_or-append (gather n f) (f n) d (w * i + j) (place_inside n i j l k)

  -- The same with more behind the blocks.
  pub get_or-gather-front : (rest : List A) (n i j : ℕ) → i < n → j < w → get_or (gather n f ++ rest) (w * i + j) d ≡ get_or (f i) j d
  get_or-gather-front rest n i j h k =
      get_or-append (gather n f) rest d (w * i + j) (place_inside n i j h k) ∙ get_or-gather n i j h k

  -- What stands behind the blocks.
  pub get_or-gather_past : (rest : List A) (n i : ℕ) → get_or (gather n f ++ rest) (w * n + i) d ≡ get_or rest i d
  get_or-gather_past rest n i =
      ap (λ (m : ℕ). get_or (gather n f ++ rest) (m + i) d) (sym (length-gather f w each n)) ∙ get_or-append-add (gather n f) rest i d

-- ---- poses

-- The pose whose seven numbers stand from a place on.
pub pose_at-flat : (l : List Float) (at : ℕ) (p : Pose) → ((j : ℕ) → j < 7 → get_or l (at + j) nan ≡ get_or (flat p) j nan) → pose_at l at ≡ p
unfolding pose_at
pose_at-flat l at p h =
    let here : get_or l at nan ≡ p.translation.x = ap (λ (k : ℕ). get_or l k nan) (omega arith) ∙ h 0 (omega arith) in
    rw (here, h 1 (omega arith), h 2 (omega arith), h 3 (omega arith), h 4 (omega arith), h 5 (omega arith), h 6 (omega arith))

module _ (poses : ℕ → Pose) where
  pub pose_at-gather : (rest : List Float) (n c : ℕ) → c < n → pose_at (gather n (λ i. flat (poses i)) ++ rest) (7 * c) ≡ poses c
  pose_at-gather rest n c h =
      pose_at-flat (gather n (λ i. flat (poses i)) ++ rest) (7 * c) (poses c)
      (λ j k. get_or-gather-front (λ i. flat (poses i)) 7 (λ i. refl) nan rest n c j h k)

  -- Behind the poses of others.
  pub pose_at-gather_past : (others : ℕ → Pose) (rest : List Float) (m n v : ℕ) → v < n
      → pose_at (gather m (λ i. flat (others i)) ++ (gather n (λ i. flat (poses i)) ++ rest)) (7 * (m + v)) ≡ poses v
  pose_at-gather_past others rest m n v h =
      let front = gather m (λ i. flat (others i)) in
      let behind = gather n (λ i. flat (poses i)) ++ rest in
      pose_at-flat (front ++ behind) (7 * (m + v)) (poses v)
      (λ j k.
      ap (λ (at : ℕ). get_or (front ++ behind) at nan) (omega arith)
      ∙ get_or-gather_past (λ i. flat (others i)) 7 (λ i. refl) nan behind m (7 * v + j)
      ∙ get_or-gather-front (λ i. flat (poses i)) 7 (λ i. refl) nan rest n v j h k)
