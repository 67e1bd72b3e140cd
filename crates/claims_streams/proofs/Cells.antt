-- The seven floats of a cell in the buffer: what an accepted Pose writes there, that every place is in a cell, and that cells do not overlap. Assumes
-- nothing.
use Prim.Native.Nat.{ℕ, zero, suc, ◌+◌, ◌-◌, ◌*◌, ◌/◌, ◌%◌, ◌≤◌, ◌<◌}
use native.Mathlib.Decide.{dec_lt}
use native.Mathlib.Omega.{arith}
use mathlib.Core.Path.{◌≡◌, refl, sym, ap, ◌∙◌}
use mathlib.Core.Logic.{◌⊎◌, inl, inr}
use mathlib.Core.List.{List, ◌++◌}
use lib.ListN.{length, take, drop, get_or, get_or-append}
use lib.Seq.{get_or-take, get_or-drop, get_or-append-add, length-take-le}
use lib.Ieee.{Float, nan}
use Rattle.arithmetic.specs.Pose.{pose_at, flat}
use Rattle.arithmetic.specs.declared.pose.Pose.{Pose}
use Rattle.limits.specs.Limits.{max_views, max_cameras}
use Rattle.session_record.specs.Session.{buffer_length, cell_start}

-- Seven floats of a list that are those of a pose.
pub pose_at-flat : (l : List Float) (at : ℕ) (p : Pose) → ((k : ℕ) → k < 7 → get_or l (at + k) nan ≡ get_or (flat p) k nan) → pose_at l at ≡ p
unfolding pose_at
pose_at-flat l at p same =
    rw (first, same 1 (omega arith), same 2 (omega arith), same 3 (omega arith), same 4 (omega arith), same 5 (omega arith), same 6 (omega arith))
  where
    first : get_or l at nan ≡ p.translation.x
    first = ap (λ (i : ℕ). get_or l i nan) (omega arith) ∙ same 0 (omega arith)

-- A pose written at a place of the list.
module _ (l : List Float) (at : ℕ) (p : Pose) (inside : at + 7 ≤ length l) where
  abbrev put : List Float
  put = take at l ++ (flat p ++ drop (at + 7) l)

  length_front : length (take at l) ≡ at
  length_front = length-take-le at l (omega arith)

  get_or_from : (k : ℕ) → get_or put (at + k) nan ≡ get_or (flat p ++ drop (at + 7) l) k nan
  get_or_from k =
      ap (λ (i : ℕ). get_or put (i + k) nan) (sym length_front)
      ∙ get_or-append-add (take at l) (flat p ++ drop (at + 7) l) k nan

  pub get_or_put_within : (k : ℕ) → k < 7 → get_or put (at + k) nan ≡ get_or (flat p) k nan
  get_or_put_within k h = get_or_from k ∙ get_or-append (flat p) (drop (at + 7) l) nan k h

  pub pose_at_put : pose_at put at ≡ p
  pose_at_put = pose_at-flat put at p get_or_put_within

  pub get_or_put_before : (i : ℕ) → i < at → get_or put i nan ≡ get_or l i nan
  get_or_put_before i h =
      get_or-append (take at l) (flat p ++ drop (at + 7) l) nan i (omega (arith, length_front)) ∙ get_or-take at l i nan h

  pub get_or_put_after : (i : ℕ) → at + 7 ≤ i → get_or put i nan ≡ get_or l i nan
  get_or_put_after i h =
      ap (λ (j : ℕ). get_or put j nan) (omega arith)
      ∙ get_or_from (7 + (i - (at + 7)))
      ∙ get_or-append-add (flat p) (drop (at + 7) l) (i - (at + 7)) nan
      ∙ get_or-drop (at + 7) l (i - (at + 7)) nan
      ∙ ap (λ (j : ℕ). get_or l j nan) (omega arith)

-- The same seven floats are the same pose.
pub pose_at_agree : (l l' : List Float) (at : ℕ) → ((k : ℕ) → k < 7 → get_or l (at + k) nan ≡ get_or l' (at + k) nan) → pose_at l at ≡ pose_at l' at
unfolding pose_at
pose_at_agree l l' at same =
    rw (same 1 (omega arith), same 2 (omega arith), same 3 (omega arith), same 4 (omega arith), same 5 (omega arith), same 6 (omega arith), first)
  where
    first : get_or l at nan ≡ get_or l' at nan
    first = ap (λ (i : ℕ). get_or l i nan) (omega arith) ∙ same 0 (omega arith) ∙ ap (λ (i : ℕ). get_or l' i nan) (omega arith)

-- Number k of the pose is the float that stands there.
get_or-pose_at : (l : List Float) (at k : ℕ) → k < 7 → get_or (flat (pose_at l at)) k nan ≡ get_or l (at + k) nan
unfolding pose_at
get_or-pose_at l at zero h = ap (λ (i : ℕ). get_or l i nan) (omega arith)
get_or-pose_at l at (suc zero) h = refl
get_or-pose_at l at (suc (suc zero)) h = refl
get_or-pose_at l at (suc (suc (suc zero))) h = refl
get_or-pose_at l at (suc (suc (suc (suc zero)))) h = refl
get_or-pose_at l at (suc (suc (suc (suc (suc zero))))) h = refl
get_or-pose_at l at (suc (suc (suc (suc (suc (suc zero)))))) h = refl
get_or-pose_at l at (suc (suc (suc (suc (suc (suc (suc k))))))) h = absurd (omega arith)

-- And the same pose is the same seven floats.
pub floats_agree : (l l' : List Float) (at : ℕ) → pose_at l at ≡ pose_at l' at → (k : ℕ) → k < 7 → get_or l (at + k) nan ≡ get_or l' (at + k) nan
floats_agree l l' at same k h = sym (get_or-pose_at l at k h) ∙ ap (λ (p : Pose). get_or (flat p) k nan) same ∙ get_or-pose_at l' at k h

-- Every place of the buffer is one of the seven of a cell.
pub cell_of_place : (i : ℕ) → i ≡ cell_start (i / 7 / 16) (i / 7 % 16) + i % 7
cell_of_place i = omega arith

-- A cell inside the limits has its seven numbers in the buffer.
pub cell_inside : (v c : ℕ) → v < max_views → c < max_cameras → cell_start v c + 7 ≤ buffer_length
cell_inside v c h l = omega arith

-- Different cells have no float in common.
pub cells-apart : (v c w d k : ℕ) → c < max_cameras → d < max_cameras → ((v ≡ w) → (c ≡ d) → ⊥) → k < 7
    → (cell_start v c + k < cell_start w d) ⊎ (cell_start w d + 7 ≤ cell_start v c + k)
cells-apart v c w d k hc hd other hk = go (dec_lt (v * 16 + c) (w * 16 + d)) (dec_lt (w * 16 + d) (v * 16 + c))
  where
    go : Dec (v * 16 + c < w * 16 + d) → Dec (w * 16 + d < v * 16 + c) → (cell_start v c + k < cell_start w d) ⊎ (cell_start w d + 7 ≤ cell_start v c + k)
    go (yes l) m = inl (omega arith)
    go (no l) (yes m) = inr (omega arith)
    go (no l) (no m) = absurd (other (omega arith) (omega arith))
