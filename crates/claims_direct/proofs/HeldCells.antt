-- The cells that marks and floats make, where they hold a grid of the Rust's: no mark is above 1, and each cell is the grid's.
-- Assumes nothing.
use Rattle.std.proofs.Common.{◌≡◌, ℕ, zero, suc, ◌+◌, ◌*◌, ◌/◌, ◌%◌, ◌<◌, ◌≤◌, List, get_or, sym, refl, ap, ◌∙◌, mod-lt, div-lt_iff_lt-mul, div-add-mod', arith}
use Rattle.std.specs.Prelude.{Option, None, Some}
use lib.Ieee.{Float}
use Rattle.arithmetic.specs.Pose.{pose_at}
use Rattle.arithmetic.specs.declared.pose.Pose.{Pose}
use Rattle.extrinsics.specs.Direct.{marked_cell}
use Rattle.claims_direct.specs.Rust.{num_views, num_cameras}
use Rattle.claims_direct.specs.Encoding.{mark_for, pose_of, EncodesCells}

-- Every cell is in the row and the column of its quotient and its remainder.
pub some-column : (i m n : ℕ) → i < m * n → 0 < n
some-column i m zero h = absurd (omega arith)
some-column i m (suc n) h = omega arith

mark_for-le : (o : Option Pose) → mark_for o ≤ 1
mark_for-le None = omega arith
mark_for-le (Some p) = omega arith

marked_cell-mark_for : (marks : List ℕ) (floats : List Float) (i : ℕ) (o : Option Pose) → get_or marks i 0 ≡ mark_for o
    → ((p : Pose) → o ≡ Some p → pose_at floats (7 * i) ≡ p) → marked_cell marks floats i ≡ o
unfolding marked_cell
marked_cell-mark_for marks floats i None e h = rw e
marked_cell-mark_for marks floats i (Some p) e h = rw (e, h p refl)

module _ (camSe3Target : List (List (Option Pose))) (marks : List ℕ) (floats : List Float) (holding : EncodesCells camSe3Target marks floats) where
  abbrev n : ℕ
  n = num_cameras camSe3Target

  pub mark_small : (i : ℕ) → i < num_views camSe3Target * num_cameras camSe3Target → get_or marks i 0 ≤ 1
  mark_small i l =
      let h : 0 < n = some-column i (num_views camSe3Target) n l in
      let e : get_or marks i 0 ≡ mark_for (pose_of camSe3Target (i / n) (i % n))
      = ap (λ (j : ℕ). get_or marks j 0) (sym (div-add-mod' i n)) ∙ holding.cell_mark (i / n) (i % n) ((div-lt_iff_lt-mul h).1 l) (mod-lt i h) in
      omega (arith, e, mark_for-le (pose_of camSe3Target (i / n) (i % n)))

  pub same_cell : (v c : ℕ) → v < num_views camSe3Target → c < num_cameras camSe3Target
      → marked_cell marks floats (v * num_cameras camSe3Target + c) ≡ pose_of camSe3Target v c
  same_cell v c h k = marked_cell-mark_for marks floats (v * n + c) (pose_of camSe3Target v c) (holding.cell_mark v c h k) (holding.cell_pose v c h k)
