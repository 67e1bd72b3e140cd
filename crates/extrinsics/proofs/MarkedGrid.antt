-- The rig whose masks the marks make is the grid of the marks.
-- Assumes nothing.
use Prim.Native.Nat.{ℕ, ◌*◌, ◌/◌, ◌%◌, ◌≤◌, ◌<◌}
use native.Mathlib.Nat.{eq-zero-or-pos, mod-lt, div-add-mod', div-lt_iff_lt-mul}
use native.Mathlib.Omega.{arith}
use mathlib.Core.Path.{◌≡◌, refl, ap, ◌∙◌}
use mathlib.Core.Logic.{⊎_elim}
use mathlib.Core.Bool.{Bool, true, false, not, cond}
use mathlib.Core.List.{List}
use lib.ListN.{length, get_or}
use lib.Dec.{eqb}
use lib.Ieee.{Float}
use Rattle.arithmetic.specs.Pose.{pose_at}
use Rattle.limits.specs.Limits.{max_views, max_cameras}
use Rattle.placing.specs.Grid.{Grid}
use Rattle.lists.specs.Masks.{in_mask}
use Rattle.inputs.specs.Inner.Marks.{mask_of}
use Rattle.extrinsics.specs.Direct.{marked_cell, direct_grid}
use Rattle.placing.specs.Rig.{masked_cell, rig_cell, rig_grid}
use Rattle.placing.specs.Inner.Fitting.{Fitting}
use Rattle.placing.specs.Grid.{Cell}
use Rattle.placing.specs.declared.grid.Rig.{Rig}
use Rattle.inputs.proofs.MarkedMasks.{mask_of_below, in_mask_mask_of}
use Rattle.lists.proofs.Tabulated.{tabulate_agree}
use Rattle.std.specs.Prelude.{None, Some}

-- The poses of one view follow those of the view before.
abbrev pub dense_rig : List ℕ → ℕ → ℕ → ℕ → Rig
dense_rig masks views cameras reference =
    record { masks = masks; views = views; cameras = cameras; reference = reference; stride = cameras }

masked_cell-marked_cell : (marks : List ℕ) (floats : List Float) (mask v i : ℕ) → in_mask mask v ≡ not (eqb (get_or marks i 0) 0)
    → masked_cell mask floats v i ≡ marked_cell marks floats i
unfolding masked_cell marked_cell
masked_cell-marked_cell marks floats mask v i e =
    ap (λ (t : Bool). cond t (Some (pose_at floats (7 * i))) None) e ∙ go (eqb (get_or marks i 0) 0)
  where
    go : (t : Bool) → cond (not t) (Some (pose_at floats (7 * i))) None ≡ cond t None (Some (pose_at floats (7 * i)))
    go true = refl
    go false = refl

module _ (marks masks : List ℕ) (floats : List Float) (views cameras reference : ℕ)
    (made : (c : ℕ) → c < cameras → get_or masks c 0 ≡ mask_of marks cameras views c) where
  rig_cell-marked_cell : (i : ℕ) → i < views * cameras
      → rig_cell (dense_rig masks views cameras reference) floats (i / cameras) (i % cameras) ≡ marked_cell marks floats i
  unfolding rig_cell
  rig_cell-marked_cell i h =
      ap (λ (j : ℕ). masked_cell (get_or masks c 0) floats v j) (div-add-mod' i cameras)
      ∙ masked_cell-marked_cell marks floats (get_or masks c 0) v i
      (ap (λ (m : ℕ). in_mask m v) (made c (mod-lt i some_camera))
      ∙ in_mask_mask_of marks cameras c views v ((div-lt_iff_lt-mul some_camera).1 h)
      ∙ ap (λ (j : ℕ). not (eqb (get_or marks j 0) 0)) (div-add-mod' i cameras))
    where
      v : ℕ
      v = i / cameras

      c : ℕ
      c = i % cameras

      some_camera : 0 < cameras
      some_camera = ⊎_elim (λ e. let n : views * cameras ≡ views * 0 = rw e in omega arith) (λ l. l) (eq-zero-or-pos cameras)

  pub fitting_dense_rig : views ≤ max_views → cameras ≤ max_cameras → reference < cameras → length floats ≡ 7 * (views * cameras)
      → Fitting (dense_rig masks views cameras reference) floats
  fitting_dense_rig v k r f =
      record {
        views_fit = v;
        cameras_fit = k;
        reference_inside = r;
        stride_covers = omega arith;
        stride_fits = k;
        floats_fit = omega arith;
        masks_fit = λ c l. rw (made c l) (mask_of_below marks cameras c views);
      }

-- The grid of the masks is the grid of the marks.
pub rig_grid-direct_grid : (counts marks masks : List ℕ) (floats : List Float) (reference : ℕ)
    → ((c : ℕ) → c < get_or counts 0 0 → get_or masks c 0 ≡ mask_of marks (get_or counts 0 0) (length counts) c)
    → rig_grid (dense_rig masks (length counts) (get_or counts 0 0) reference) floats ≡ direct_grid counts marks floats reference
unfolding rig_grid direct_grid
rig_grid-direct_grid counts marks masks floats reference made =
    let views = length counts in
    let cameras = get_or counts 0 0 in
    let grid : List Cell → Grid = λ cells. record { views = views; cameras = cameras; reference = reference; cells = cells } in
    ap grid
    (tabulate_agree
    (views * cameras)
    (λ i. rig_cell (dense_rig masks views cameras reference) floats (i / cameras) (i % cameras))
    (marked_cell marks floats)
    (rig_cell-marked_cell marks masks floats views cameras reference made))
