-- The counts, marks and floats that a session stands for hold the grid that the Rust function would be handed for it (`session_encodes`);
-- that grid is within the limits where Solve finds every held number finite, and the lent answers have room for what it comes to.
-- Assumes nothing.
use Prim.Native.Nat.{ℕ, ◌+◌, ◌*◌, ◌≤◌, ◌<◌}
use native.Mathlib.Decide.{dec_lt}
use native.Mathlib.Omega.{arith}
use mathlib.Core.Path.{◌≡◌, refl, sym, ap, ap₂, subst, ◌∙◌}
use mathlib.Core.Bool.{Bool, true, false, cond}
use Rattle.std.specs.Prelude.{Option, None, Some}
use mathlib.Core.List.{List, [], map}
use lib.ListN.{length, get_or, length-map, get_or-map}
use lib.Seq.{ext_get_or}
use lib.Dec.{T}
use lib.Ieee.{Float}
use borrow.Author.Tests.{not-false}
use Rattle.arithmetic.specs.Pose.{pose_at, finite_pose}
use Rattle.arithmetic.specs.declared.pose.Pose.{Pose}
use Rattle.refusal.specs.declared.Refusal.TheVariants.{NotFinite}
use Rattle.lists.specs.Masks.{in_mask}
use Rattle.extrinsics.specs.Outcome.{is_not_finite, lowest_not_finite, not_finite}
use Rattle.placing.specs.Rig.{masked_cell, rig_cell, rig_grid}
use Rattle.inputs.proofs.Answering.{refuse_at-nothing, Sizes}
use Rattle.lists.proofs.Lowest.{lowest-none_fails}
use Rattle.lists.proofs.Tabulated.{length-tabulate, get_d_tabulate, get_or-tabulate_past}
use Rattle.placing.proofs.ViewCells.{row_inside, row-quotient, row_remainder, cell_of_rig_cell}
use Rattle.claims_direct.specs.Rust.{num_views, num_cameras}
use Rattle.claims_direct.specs.Encoding.{mark_for, pose_of, Encodes, WithinLimits, RoomEnough}
use Rattle.session_record.specs.Session.{held_of, cell_start, rig_of, session_grid, possible}
use Rattle.session_commands.specs.Obeyed.{first_length, second_length}
use Rattle.claims_streams.specs.DirectInputs.{counts_of, marks_of, floats_of}
use Rattle.claims_streams.specs.RustGrids.{rust_cell_of, rust_view_of, rust_grid_of}
use Rattle.session_record.specs.declared.Session.{Session}
use Rattle.claims_streams.proofs.SolveDirect.{length-marks_of, mark_at, pose_at-floats_of, length-floats_of, length-counts_of, each-counts_of}
use Rattle.claims_streams.proofs.Sound.{has_sizes, sound_of_possible}

-- ---- one cell

mark_for-cond : (b : Bool) (p : Pose) → mark_for (cond b (Some p) None) ≡ cond b 1 0
mark_for-cond true p = refl
mark_for-cond false p = refl

held-pose : (b : Bool) (p q : Pose) → cond b (Some p) None ≡ Some q → p ≡ q
held-pose true p q e = cc
held-pose false p q e = let z : ◌≡◌ {A = ℕ} 0 1 = cc in absurd (omega arith)

finite_cond : (b : Bool) (p q : Pose) → is_not_finite (cond b (Some p) None) ≡ false → cond b (Some p) None ≡ Some q → T (finite_pose q)
unfolding is_not_finite
finite_cond true p q finite e = let same : p ≡ q = cc in subst (λ (r : Pose). T (finite_pose r)) same (rw (not-false (finite_pose p) finite) tt)
finite_cond false p q finite e = let z : ◌≡◌ {A = ℕ} 0 1 = cc in absurd (omega arith)

-- ---- the grid

module _ (s : Session) (buffer : List Float) where
  abbrev grid : List (List (Option Pose))
  grid = rust_grid_of s buffer

  views-rust_grid_of : num_views grid ≡ s.views
  unfolding num_views rust_grid_of
  views-rust_grid_of = length-tabulate s.views (rust_view_of s buffer)

  view_rust_grid_of : (v : ℕ) → v < s.views → get_or grid v [] ≡ rust_view_of s buffer v
  unfolding rust_grid_of
  view_rust_grid_of v h = get_d_tabulate s.views (rust_view_of s buffer) [] v h

  length-rust_view_of : (v : ℕ) → length (rust_view_of s buffer v) ≡ s.cameras
  unfolding rust_view_of
  length-rust_view_of v = length-tabulate s.cameras (rust_cell_of s buffer v)

  length_view : (v : ℕ) → v < s.views → length (get_or grid v []) ≡ s.cameras
  length_view v h = ap length (view_rust_grid_of v h) ∙ length-rust_view_of v

  pose_of-inside : (v c : ℕ) → v < s.views → c < s.cameras → pose_of grid v c ≡ rust_cell_of s buffer v c
  unfolding rust_view_of
  pose_of-inside v c h k =
      ap (λ (l : List (Option Pose)). get_or l c None) (view_rust_grid_of v h) ∙ get_d_tabulate s.cameras (rust_cell_of s buffer v) None c k

  -- Outside the sizes there is no pose.
  pose_of-outside_view : (v c : ℕ) → s.views ≤ v → pose_of grid v c ≡ None
  unfolding rust_grid_of
  pose_of-outside_view v c h = ap (λ (l : List (Option Pose)). get_or l c None) (get_or-tabulate_past s.views (rust_view_of s buffer) [] v h)

  pose_of-outside_camera : (v c : ℕ) → v < s.views → s.cameras ≤ c → pose_of grid v c ≡ None
  unfolding rust_view_of
  pose_of-outside_camera v c h k =
      ap (λ (l : List (Option Pose)). get_or l c None) (view_rust_grid_of v h) ∙ get_or-tabulate_past s.cameras (rust_cell_of s buffer v) None c k

  rig_cell_rust : (v c : ℕ) → rig_cell (rig_of (held_of s)) buffer v c ≡ rust_cell_of s buffer v c
  unfolding rig_cell masked_cell rust_cell_of
  rig_cell_rust v c = refl

  module _ (some_view : 0 < s.views) where
    cameras-rust_grid_of : num_cameras grid ≡ s.cameras
    unfolding num_cameras
    cameras-rust_grid_of = length_view 0 some_view

    counts-rust_grid_of : counts_of s ≡ map length grid
    unfolding num_views
    counts-rust_grid_of =
        ext_get_or 0 (counts_of s) (map length grid)
        (length-counts_of s buffer some_view ∙ sym views-rust_grid_of ∙ sym (length-map grid length))
        (λ v h.
        let inside : v < s.views = omega (arith, length-counts_of s buffer some_view) in
        each-counts_of s buffer some_view v inside ∙ sym (length_view v inside) ∙ sym (get_or-map length grid v []))

    cell_mark : (v c : ℕ) → v < s.views → c < s.cameras → get_or (marks_of s) (v * s.cameras + c) 0 ≡ mark_for (pose_of grid v c)
    unfolding rust_cell_of
    cell_mark v c h k =
        mark_at s (v * s.cameras + c) (row_inside v s.views s.cameras c h k)
        ∙ ap₂ (λ (a b : ℕ). cond (in_mask (get_or s.masks b 0) a) 1 0) (row-quotient v s.cameras c k) (row_remainder v s.cameras c k)
        ∙ sym (mark_for-cond (in_mask (get_or s.masks c 0) v) (pose_at buffer (cell_start v c)))
        ∙ ap mark_for (sym (pose_of-inside v c h k))

    cell_pose : (v c : ℕ) → v < s.views → c < s.cameras → (p : Pose) → pose_of grid v c ≡ Some p → pose_at (floats_of s buffer) (7 * (v * s.cameras + c)) ≡ p
    unfolding rust_cell_of
    cell_pose v c h k p e =
        pose_at-floats_of s buffer (v * s.cameras + c) (row_inside v s.views s.cameras c h k)
        ∙ ap₂ (λ (a b : ℕ). pose_at buffer (cell_start a b)) (row-quotient v s.cameras c k) (row_remainder v s.cameras c k)
        ∙ held-pose (in_mask (get_or s.masks c 0) v) (pose_at buffer (cell_start v c)) p (sym (pose_of-inside v c h k) ∙ e)

    -- "the grid that masks and buffer hold" is the one that the counts, marks and floats of Solve's direct call hold.
    pub session_encodes : Encodes (rust_grid_of s buffer) (counts_of s) (marks_of s) (floats_of s buffer)
    session_encodes =
        record {
          count_each = counts-rust_grid_of;
          cells = λ equal.
              record {
                mark_each = length-marks_of s ∙ sym (ap₂ (λ (v c : ℕ). v * c) views-rust_grid_of cameras-rust_grid_of);
                seven_each = length-floats_of s buffer ∙ sym (ap₂ (λ (v c : ℕ). 7 * (v * c)) views-rust_grid_of cameras-rust_grid_of);
                cell_mark = λ v c h k.
                    ap (λ (n : ℕ). get_or (marks_of s) (v * n + c) 0) cameras-rust_grid_of
                    ∙ cell_mark v c (omega (arith, views-rust_grid_of)) (omega (arith, cameras-rust_grid_of));
                cell_pose = λ v c h k p e.
                    ap (λ (n : ℕ). pose_at (floats_of s buffer) (7 * (v * n + c))) cameras-rust_grid_of
                    ∙ cell_pose v c (omega (arith, views-rust_grid_of)) (omega (arith, cameras-rust_grid_of)) p e;
              };
        }

    module _ (allowed : T (possible s)) where
      sizes : Sizes s.views s.cameras s.reference
      sizes = has_sizes s (sound_of_possible s allowed) some_view

      -- The lent answers have "at least 560 floats and 32 bytes".
      pub session-room : (first_room second_room : ℕ) → first_length ≤ first_room → second_length ≤ second_room → RoomEnough (rust_grid_of s buffer) first_room second_room
      session-room first_room second_room h k =
          record {
            first_fits = omega (arith, views-rust_grid_of, cameras-rust_grid_of, sizes.views_fit, sizes.cameras_fit);
            second_fits = omega (arith, cameras-rust_grid_of, sizes.cameras_fit);
          }

      module _ (finite : not_finite (session_grid (held_of s) buffer) ≡ None) where
        cell_finite : (v c : ℕ) → v < s.views → c < s.cameras → is_not_finite (rig_cell (rig_of (held_of s)) buffer v c) ≡ false
        unfolding not_finite lowest_not_finite rig_grid
        cell_finite v c h k =
            sym (ap is_not_finite (cell_of_rig_cell (rig_of (held_of s)) buffer v c h k))
            ∙ lowest-none_fails (λ i. is_not_finite (get_or (session_grid (held_of s) buffer).cells i None)) (s.views * s.cameras) (v * s.cameras + c)
            (refuse_at-nothing (lowest_not_finite (session_grid (held_of s) buffer)) NotFinite finite) (row_inside v s.views s.cameras c h k)

        -- "every grid of finite poses within document 01's limits"
        pub session-within_limits : WithinLimits (rust_grid_of s buffer)
        unfolding rig_cell masked_cell rust_cell_of
        session-within_limits =
            record {
              views_fit = omega (arith, views-rust_grid_of, sizes.views_fit);
              cameras_fit = omega (arith, cameras-rust_grid_of, sizes.cameras_fit);
              finite_poses = λ v c p e. go v c p (dec_lt v s.views) (dec_lt c s.cameras) e;
            }
          where
            absent : (v c : ℕ) (p : Pose) → pose_of grid v c ≡ None → pose_of grid v c ≡ Some p → T (finite_pose p)
            absent v c p e f = let z : ◌≡◌ {A = ℕ} 0 1 = cc in absurd (omega arith)

            go : (v c : ℕ) (p : Pose) → Dec (v < s.views) → Dec (c < s.cameras) → pose_of grid v c ≡ Some p → T (finite_pose p)
            go v c p (yes h) (yes k) e =
                finite_cond (in_mask (get_or s.masks c 0) v) (pose_at buffer (cell_start v c)) p (cell_finite v c h k) (sym (pose_of-inside v c h k) ∙ e)
            go v c p (yes h) (no k) e = absent v c p (pose_of-outside_camera v c h (omega arith)) e
            go v c p (no h) k e = absent v c p (pose_of-outside_view v c (omega arith)) e
