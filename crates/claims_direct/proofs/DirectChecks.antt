-- The checks of the direct call on inputs that hold a grid of the Rust's: sizes and counts are checked as the Rust checks them, nothing else is
-- refused before 8 within the limits, and the grid that marks and floats make is the Rust's. Assumes nothing.
use Rattle.std.proofs.Common.{◌≡◌, ℕ, ◌+◌, ◌*◌, ◌/◌, ◌%◌, ◌<◌, ◌≤◌, Bool, true, false, not, T, eqb, ltb, ◌≢◌, List, [], length, get_or, sym, refl, ap, ◌∙◌, ap₂, mod-lt, div-lt_iff_lt-mul, div-add-mod', arith, le-ltb, eq-eqb, ne_eqb, eqb-true, le-leb}
use Rattle.std.specs.Prelude.{Option, None, Some}
use lib.ListN.{length-map, get_or-map}
use lib.Ieee.{Float}
use borrow.Author.Tests.{not-false}
use Rattle.arithmetic.specs.Pose.{finite_pose}
use Rattle.arithmetic.specs.declared.pose.Pose.{Pose}
use Rattle.refusal.specs.Table.{refuse_at}
use Rattle.refusal.specs.declared.Refusal.TheVariants.{InsufficientData, InvalidReference, CountDiffers, BadMark, NotFinite}
use Rattle.limits.specs.Limits.{max_views, max_cameras, first_needs, second_needs}
use Rattle.placing.specs.Grid.{Grid}
use Rattle.lists.specs.Finding.{lowest}
use Rattle.extrinsics.specs.Outcome.{is_not_finite, not_finite}
use Rattle.inputs.specs.Inputs.{size_refusal, cell_count, lowest_other_count, count_refusal, length_refusal, mark_refusal}
use Rattle.extrinsics.specs.Direct.{marked_cell, direct_grid}
use Rattle.claims_direct.specs.RustStd.{for_each}
use Rattle.claims_direct.specs.Rust.{camera_count, num_views, num_cameras, check_count, check_counts}
use Rattle.claims_direct.specs.Encoding.{pose_of, EqualCounts, EncodesCells, Encodes, WithinLimits, RoomEnough}
use Rattle.lists.proofs.Tabulated.{get_d_tabulate}
use Rattle.lists.proofs.Lowest.{lowest-none_fails, lowest-nothing, lowest_agree}
use Rattle.placing.proofs.ViewCells.{row_inside}
use Rattle.claims_direct.proofs.Iterators.{enumerate-tabulate, stopped, for_each-lowest}
use Rattle.claims_direct.proofs.SameGrid.{SameGrid}
use Rattle.claims_direct.proofs.HeldCells.{some-column, mark_small, same_cell}

-- ---- 1, 2 and 3

module _ (views cameras reference : ℕ) where
  pub size_no_views : views ≡ 0 → size_refusal views cameras reference ≡ Some InsufficientData
  unfolding size_refusal
  size_no_views e = rw (eq-eqb views 0 e)

  module _ (some_view : views ≢ 0) (views_fit : views ≤ max_views) where
    pub size_no_cameras : cameras ≡ 0 → size_refusal views cameras reference ≡ Some InsufficientData
    unfolding size_refusal
    size_no_cameras e = rw (ne_eqb views 0 some_view, le-ltb max_views views views_fit, eq-eqb cameras 0 e)

    module _ (some_camera : cameras ≢ 0) (cameras_fit : cameras ≤ max_cameras) where
      pub size-reference : cameras ≤ reference → size_refusal views cameras reference ≡ Some InvalidReference
      unfolding size_refusal
      size-reference l =
          rw (
            ne_eqb views 0 some_view,
            le-ltb max_views views views_fit,
            ne_eqb cameras 0 some_camera,
            le-ltb max_cameras cameras cameras_fit,
            le-leb cameras reference l,
          )

-- ---- 4

-- The lowest view whose count is not that of view 0.
module _ (camSe3Target : List (List (Option Pose))) where
  abbrev is_other : ℕ → Bool
  is_other v = not (eqb (length (get_or camSe3Target v [])) (num_cameras camSe3Target))

  abbrev pub other_count : Option ℕ
  other_count = lowest is_other (num_views camSe3Target)

  pub equal_counts : other_count ≡ None → EqualCounts camSe3Target
  equal_counts e v l = eqb-true _ _ (not-false _ (lowest-none_fails is_other (num_views camSe3Target) v e l))

  pub check_counts_other_count : check_counts camSe3Target ≡ stopped camera_count other_count tt
  unfolding check_count check_counts num_views
  check_counts_other_count =
      ap (λ (l : List (ℕ × List (Option Pose))). for_each l (check_count camSe3Target) tt) (enumerate-tabulate [] camSe3Target)
      ∙ for_each-lowest (check_count camSe3Target) (λ v. (v, get_or camSe3Target v [])) (λ v. tt) is_other camera_count (length camSe3Target) (λ v l. refl)

-- ---- 5 and 7

pub length_passes : (views cameras marks floats first_room second_room : ℕ) → marks ≡ views * cameras → floats ≡ 7 * (views * cameras)
    → first_needs cameras views ≤ first_room → second_needs cameras ≤ second_room → length_refusal views cameras marks floats first_room second_room ≡ None
unfolding length_refusal
length_passes views cameras marks floats first_room second_room em ef h k =
    rw (eq-eqb marks (views * cameras) em, eq-eqb floats (7 * (views * cameras)) ef, le-ltb first_room (first_needs cameras views) h, le-ltb second_room (second_needs cameras) k)

pub T-not_false : (b : Bool) → T b → not b ≡ false
T-not_false true t = refl
T-not_false false t = absurd t

finite_where_held : (o : Option Pose) → ((p : Pose) → o ≡ Some p → T (finite_pose p)) → is_not_finite o ≡ false
unfolding is_not_finite
finite_where_held None h = refl
finite_where_held (Some p) h = T-not_false (finite_pose p) (h p refl)

-- ---- inputs that hold a grid

module _ (camSe3Target : List (List (Option Pose))) (counts marks : List ℕ) (floats : List Float) (encoded : Encodes camSe3Target counts marks floats) where
  pub length-counts : length counts ≡ num_views camSe3Target
  unfolding num_views
  length-counts = ap length encoded.count_each ∙ length-map camSe3Target length

  get_or-counts : (v : ℕ) → get_or counts v 0 ≡ length (get_or camSe3Target v [])
  get_or-counts v = ap (λ (l : List ℕ). get_or l v 0) encoded.count_each ∙ get_or-map length camSe3Target v []

  pub first_count : get_or counts 0 0 ≡ num_cameras camSe3Target
  unfolding num_cameras
  first_count = get_or-counts 0

  pub count_refusal_other_count : count_refusal counts ≡ refuse_at (other_count camSe3Target) CountDiffers
  unfolding count_refusal lowest_other_count
  count_refusal_other_count =
      ap (λ (o : Option ℕ). refuse_at o CountDiffers)
      (ap (lowest (λ v. not (eqb (get_or counts v 0) (get_or counts 0 0)))) length-counts
      ∙ lowest_agree _ _ (num_views camSe3Target) (λ v l. ap₂ (λ (a b : ℕ). not (eqb a b)) (get_or-counts v) first_count))

  module _ (equal : EqualCounts camSe3Target) where
    abbrev holding : EncodesCells camSe3Target marks floats
    holding = encoded.cells equal

    cell_count_same : cell_count counts ≡ num_views camSe3Target * num_cameras camSe3Target
    cell_count_same = ap₂ (λ (a b : ℕ). a * b) length-counts first_count

    pub lengths_pass : (first_room second_room : ℕ) → RoomEnough camSe3Target first_room second_room
        → length_refusal (length counts) (get_or counts 0 0) (length marks) (length floats) first_room second_room ≡ None
    lengths_pass first_room second_room room =
        length_passes (length counts) (get_or counts 0 0) (length marks) (length floats) first_room second_room (holding.mark_each ∙ sym cell_count_same)
        (holding.seven_each ∙ ap (λ (n : ℕ). 7 * n) (sym cell_count_same)) (omega (arith, room.first_fits, length-counts, first_count))
        (omega (arith, room.second_fits, first_count))

    pub marks_pass : mark_refusal (cell_count counts) marks ≡ None
    unfolding mark_refusal
    marks_pass =
        ap (λ (o : Option ℕ). refuse_at o BadMark)
        (lowest-nothing (λ i. ltb 1 (get_or marks i 0)) (cell_count counts)
        (λ i l. le-ltb 1 (get_or marks i 0) (mark_small camSe3Target marks floats holding i (omega (arith, cell_count_same)))))

    module _ (reference : ℕ) where
      abbrev g : Grid
      g = direct_grid counts marks floats reference

      pub same_grid : SameGrid camSe3Target g
      unfolding direct_grid
      same_grid = record {
        same_views = length-counts;
        same_cameras = first_count;
        view_length = λ v h. equal v (omega (arith, length-counts)) ∙ sym first_count;
        same_cell = λ v c h k.
            get_d_tabulate (cell_count counts) (marked_cell marks floats) None (v * get_or counts 0 0 + c) (row_inside v (length counts) (get_or counts 0 0) c h k)
            ∙ ap (λ (n : ℕ). marked_cell marks floats (v * n + c)) first_count
            ∙ same_cell camSe3Target marks floats holding v c (omega (arith, length-counts)) (omega (arith, first_count));
      }

      pub not_finite_passes : WithinLimits camSe3Target → not_finite g ≡ None
      unfolding not_finite
      not_finite_passes limits = ap (λ (o : Option ℕ). refuse_at o NotFinite) (lowest-nothing _ (g.views * g.cameras) cell_finite)
        where
          cell_finite : (i : ℕ) → i < g.views * g.cameras → is_not_finite (get_or g.cells i None) ≡ false
          cell_finite i l =
              let n = g.cameras in
              let h : 0 < n = some-column i g.views n l in
              ap (λ (j : ℕ). is_not_finite (get_or g.cells j None)) (sym (div-add-mod' i n))
              ∙ ap is_not_finite (same_grid.same_cell (i / n) (i % n) ((div-lt_iff_lt-mul h).1 l) (mod-lt i h))
              ∙ finite_where_held (pose_of camSe3Target (i / n) (i % n)) (limits.finite_poses (i / n) (i % n))
