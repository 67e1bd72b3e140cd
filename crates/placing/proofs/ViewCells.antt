-- The cells of a rig's grid: the cell of view v and camera c, and that it is held exactly when the camera's mask has view v.
-- Assumes nothing.
use Prim.Native.Nat.{ℕ, ◌+◌, ◌*◌, ◌/◌, ◌%◌, ◌<◌}
use native.Mathlib.Nat.{suc-mul, mul-le-mul_right, mul-add-div_right, mul-add-mod_self_right, div-eq_of_lt, mod-eq_of_lt}
use native.Mathlib.Omega.{arith}
use mathlib.Core.Path.{◌≡◌, refl, ap, ap₂, ◌∙◌}
use mathlib.Core.Bool.{Bool, true, false, cond}
use mathlib.Core.List.{List}
use lib.ListN.{get_or}
use lib.Ieee.{Float}
use Rattle.arithmetic.specs.declared.pose.Pose.{Pose}
use Rattle.lists.specs.Masks.{in_mask}
use Rattle.placing.specs.Grid.{is_held, cell_of, holds}
use Rattle.placing.specs.Rig.{masked_cell, rig_cell, rig_grid}
use Rattle.placing.specs.declared.grid.Rig.{Rig}
use Rattle.lists.proofs.Tabulated.{get_d_tabulate}
use Rattle.std.specs.Prelude.{None, Some}

-- ---- rows of n: number v * n + c is the c-th of row v

pub row_inside : (v m n c : ℕ) → v < m → c < n → v * n + c < m * n
row_inside v m n c h l = omega (arith, mul-le-mul_right n h, suc-mul v n)

pub row-quotient : (v n c : ℕ) → c < n → (v * n + c) / n ≡ v
row-quotient v n c l = omega (arith, mul-add-div_right {m = n} (omega arith) v c, div-eq_of_lt l)

pub row_remainder : (v n c : ℕ) → c < n → (v * n + c) % n ≡ c
row_remainder v n c l = mul-add-mod_self_right v n c ∙ mod-eq_of_lt l

-- ---- cells

pub is_held_cond : (b : Bool) (p : Pose) → is_held (cond b (Some p) None) ≡ b
unfolding is_held
is_held_cond true p = refl
is_held_cond false p = refl

module _ (r : Rig) (floats : List Float) (v c : ℕ) (view_inside : v < r.views) (camera_inside : c < r.cameras) where
  pub cell_of_rig_cell : cell_of (rig_grid r floats) v c ≡ rig_cell r floats v c
  unfolding rig_grid
  cell_of_rig_cell =
      get_d_tabulate (r.views * r.cameras) (λ i. rig_cell r floats (i / r.cameras) (i % r.cameras)) None (v * r.cameras + c)
      (row_inside v r.views r.cameras c view_inside camera_inside)
      ∙ ap₂ (rig_cell r floats) (row-quotient v r.cameras c camera_inside) (row_remainder v r.cameras c camera_inside)

  pub holds-in_mask : holds (rig_grid r floats) v c ≡ in_mask (get_or r.masks c 0) v
  unfolding rig_cell masked_cell
  holds-in_mask = ap is_held cell_of_rig_cell ∙ is_held_cond (in_mask (get_or r.masks c 0) v) _
