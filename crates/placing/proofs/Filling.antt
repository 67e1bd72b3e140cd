-- Laws of an answer that is filled from the front, a block of one width at a time: what `gather` has made so far, and what was there behind it.
-- Assumes nothing.
use Prim.Native.Nat.{ℕ, ◌+◌, ◌-◌, ◌*◌, ◌≤◌}
use native.Mathlib.Nat.{mul-suc}
use native.Mathlib.Numerals.{add-one}
use native.Mathlib.Omega.{arith}
use mathlib.Core.Path.{◌≡◌, ◌∙◌}
use mathlib.Core.List.{List, ◌++◌, append_assoc, append-nil}
use borrow.Rule.Slice.PartMut.{mid_of, put_mid}
use lib.ListN.{length, take, drop, length-append, length-drop, drop_of_length-le}
use lib.Seq.{take_all, take_at, drop_at, drop-drop}
use Rattle.lists.specs.Lists.{gather}
use Rattle.lists.proofs.Blocks.{length-gather}

module _ {A : Type 0} where
  -- The part from `at` on, with the block in front of it.
  pub put_tail : (l ys block : List A) (at w : ℕ) → at ≤ length l → ys ≡ block ++ drop w (mid_of at (length l - at) l)
      → put_mid at (length l - at) l ys ≡ take at l ++ (block ++ drop (at + w) l)
  put_tail l ys block at w h e =
      simp (
        e,
        take_all (length l - at) (drop at l) (simp length-drop (omega arith)),
        drop_of_length-le (drop at l) {i = length l - at} (simp length-drop (omega arith)),
        append-nil,
        drop-drop,
      )

  module _ (f : ℕ → List A) (w : ℕ) (each : (i : ℕ) → length (f i) ≡ w) where
    -- One block more.
    pub fill_next : (l o : List A) (n : ℕ) → l ≡ gather n f ++ drop (w * n) o
        → take (w * n) l ++ (f n ++ drop (w * n + w) l) ≡ gather (n + 1) f ++ drop (w * (n + 1)) o
    unfolding gather
    fill_next l o n e =
        simp (
          e,
          take_at (gather n f) (drop (w * n) o) (w * n) (length-gather f w each n),
          ← drop-drop,
          drop_at (gather n f) (drop (w * n) o) (w * n) (length-gather f w each n),
          add-one,
          mul-suc,
          append_assoc,
        )

    pub length-filled : (o : List A) (n : ℕ) → w * n ≤ length o → length (gather n f ++ drop (w * n) o) ≡ length o
    length-filled o n h = simp (length-append, length-gather f w each n, length-drop) (omega arith)

    -- The next block, written to the front of the part behind those that stand.
    pub fill_tail : (l o ys : List A) (n : ℕ) → w * n ≤ length l → l ≡ gather n f ++ drop (w * n) o
        → ys ≡ f n ++ drop w (mid_of (w * n) (length l - w * n) l)
        → put_mid (w * n) (length l - w * n) l ys ≡ gather (n + 1) f ++ drop (w * (n + 1)) o
    fill_tail l o ys n h e q = put_tail l ys (f n) (w * n) w h q ∙ fill_next l o n e
