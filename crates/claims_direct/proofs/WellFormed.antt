-- What passes the checks before 8, in the papers' own words (`passes_before_8`): each check finds nothing exactly where what it looks for is
-- nowhere. Assumes nothing.
use Rattle.std.proofs.Common.{◌≡◌, ℕ, zero, suc, ◌*◌, ◌<◌, ◌≤◌, Bool, false, cond, not, T, eqb, ltb, ◌↔◌, List, [], ◌∷◌, length, get_or, sym, refl, ap, ◌∙◌, subst, arith, le-ltb, eq-eqb, eqb-true}
use Rattle.std.specs.Prelude.{Option, None, Some}
use lib.Ieee.{Float}
use borrow.Author.Tests.{not-false}
use Rattle.arithmetic.specs.Pose.{pose_at, finite_pose}
use Rattle.arithmetic.specs.declared.pose.Pose.{Pose}
use Rattle.refusal.specs.declared.Refusal.{Refusal}
use Rattle.refusal.specs.declared.Refusal.TheVariants.{CountDiffers, BadMark, NotFinite}
use Rattle.placing.specs.Grid.{Grid}
use Rattle.extrinsics.specs.Outcome.{is_not_finite, lowest_not_finite, not_finite}
use Rattle.inputs.specs.Inputs.{size_refusal, cell_count, lowest_other_count, count_refusal, length_refusal, lowest_bad_mark, mark_refusal, input_refusal}
use Rattle.extrinsics.specs.Direct.{marked_cell, direct_grid}
use Rattle.claims_direct.specs.Demand3.{WellFormed}
use Rattle.inputs.proofs.Answering.{refuse_at-none, refuse_at-nothing, first_of_none_all, AllNone, Sizes, size_refusal-sizes, Lengths}
use Rattle.lists.proofs.Lowest.{lowest-none_fails, lowest-nothing}
use Rattle.lists.proofs.Tabulated.{get_d_tabulate}
use Rattle.extrinsics.proofs.DirectCall.{input_sizes, input_lengths, input_marks}
use Rattle.claims_direct.proofs.Carrying.{all_none_first_of}
use Rattle.claims_direct.proofs.DirectChecks.{length_passes, T-not_false}

-- "Every grid that passes all the checks document 01 puts before 8": 1 to 6, and 7.
pub record PassesBefore8 (counts marks : List ℕ) (floats : List Float) (reference first_room second_room : ℕ) : Type 0 where
  pub passes_1_to_6 : input_refusal counts marks (length floats) reference first_room second_room ≡ None
  pub passes_7 : not_finite (direct_grid counts marks floats reference) ≡ None

-- ---- a cell by its mark

-- The cell that a mark of n and the pose p make.
module _ (p : Pose) where
  abbrev pub not_finite_by : ℕ → Bool
  not_finite_by n = is_not_finite (cond (eqb n 0) None (Some p))

  finite_by_mark : (n : ℕ) → n ≤ 1 → (n ≡ 1 → T (finite_pose p)) → not_finite_by n ≡ false
  unfolding is_not_finite
  finite_by_mark zero l h = refl
  finite_by_mark (suc zero) l h = T-not_false (finite_pose p) (h refl)
  finite_by_mark (suc (suc n)) l h = absurd (omega arith)

  mark_finite : (n : ℕ) → n ≡ 1 → not_finite_by n ≡ false → T (finite_pose p)
  unfolding is_not_finite
  mark_finite n one e = subst T (sym (not-false (finite_pose p) (subst (λ (m : ℕ). not_finite_by m ≡ false) one e))) tt

module _ (counts marks : List ℕ) (floats : List Float) (reference first_room second_room : ℕ) where
  abbrev grid : Grid
  grid = direct_grid counts marks floats reference

  abbrev input_checks : List (Option Refusal)
  input_checks =
      size_refusal (length counts) (get_or counts 0 0) reference
      ∷ count_refusal counts
      ∷ length_refusal (length counts) (get_or counts 0 0) (length marks) (length floats) first_room second_room
      ∷ mark_refusal (cell_count counts) marks
      ∷ []

  abbrev is_other : ℕ → Bool
  is_other v = not (eqb (get_or counts v 0) (get_or counts 0 0))

  abbrev pub is_bad : ℕ → Bool
  is_bad i = is_not_finite (get_or grid.cells i None)

  pub is_bad_mark : (i : ℕ) → i < cell_count counts → is_bad i ≡ not_finite_by (pose_at floats (7 * i)) (get_or marks i 0)
  unfolding direct_grid marked_cell
  is_bad_mark i l = ap is_not_finite (get_d_tabulate (cell_count counts) (marked_cell marks floats) None i l)

  -- ---- from the checks

  module _ (passes : PassesBefore8 counts marks floats reference first_room second_room) where
    abbrev sizes : Sizes (length counts) (get_or counts 0 0) reference
    sizes = input_sizes counts marks (length floats) reference first_room second_room passes.passes_1_to_6

    abbrev lengths : Lengths (length counts) (get_or counts 0 0) (length marks) (length floats) first_room second_room
    lengths = input_lengths counts marks (length floats) reference first_room second_room passes.passes_1_to_6

    no_other_count : count_refusal counts ≡ None
    unfolding input_refusal
    no_other_count =
        let all : AllNone input_checks = first_of_none_all input_checks passes.passes_1_to_6 in all.1.0

    same_count : (v : ℕ) → v < length counts → get_or counts v 0 ≡ get_or counts 0 0
    unfolding count_refusal lowest_other_count
    same_count v l =
        eqb-true _ _ (not-false _ (lowest-none_fails is_other (length counts) v (refuse_at-nothing (lowest_other_count counts) CountDiffers no_other_count) l))

    held_finite : (i : ℕ) → i < cell_count counts → get_or marks i 0 ≡ 1 → T (finite_pose (pose_at floats (7 * i)))
    unfolding not_finite lowest_not_finite direct_grid
    held_finite i l one =
        mark_finite (pose_at floats (7 * i)) (get_or marks i 0) one
        (sym (is_bad_mark i l) ∙ lowest-none_fails is_bad (cell_count counts) i (refuse_at-nothing (lowest_not_finite grid) NotFinite passes.passes_7) l)

    well-formed : WellFormed counts marks floats reference first_room second_room
    well-formed =
        record {
          some_views = sizes.some_views;
          views_fit = sizes.views_fit;
          some_cameras = sizes.some_cameras;
          cameras_fit = sizes.cameras_fit;
          reference_inside = sizes.reference_inside;
          count_each = same_count;
          mark_each = lengths.marks_fit;
          seven_each = lengths.floats_fit;
          first_fits = lengths.first_fits;
          second_fits = lengths.second_fits;
          mark_small = λ i l.
              input_marks counts marks (length floats) reference first_room second_room passes.passes_1_to_6 i (omega (arith, lengths.marks_fit));
          finite_poses = λ i l. held_finite i (omega (arith, lengths.marks_fit));
        }

  -- ---- to the checks

  module _ (formed : WellFormed counts marks floats reference first_room second_room) where
    sizes_pass : size_refusal (length counts) (get_or counts 0 0) reference ≡ None
    sizes_pass =
        size_refusal-sizes (length counts) (get_or counts 0 0) reference
        (record {
          some_views = formed.some_views;
          views_fit = formed.views_fit;
          some_cameras = formed.some_cameras;
          cameras_fit = formed.cameras_fit;
          reference_inside = formed.reference_inside;
        })

    counts_pass : count_refusal counts ≡ None
    unfolding count_refusal lowest_other_count
    counts_pass =
        refuse_at-none (lowest_other_count counts) CountDiffers
        (lowest-nothing is_other (length counts) (λ v l. ap not (eq-eqb (get_or counts v 0) (get_or counts 0 0) (formed.count_each v l))))

    lengths_pass : length_refusal (length counts) (get_or counts 0 0) (length marks) (length floats) first_room second_room ≡ None
    lengths_pass =
        length_passes (length counts) (get_or counts 0 0) (length marks) (length floats) first_room second_room formed.mark_each formed.seven_each
        formed.first_fits formed.second_fits

    small : (i : ℕ) → i < cell_count counts → get_or marks i 0 ≤ 1
    small i l = formed.mark_small i (omega (arith, formed.mark_each))

    marks_pass : mark_refusal (cell_count counts) marks ≡ None
    unfolding mark_refusal lowest_bad_mark
    marks_pass =
        refuse_at-none (lowest_bad_mark (cell_count counts) marks) BadMark
        (lowest-nothing (λ i. ltb 1 (get_or marks i 0)) (cell_count counts) (λ i l. le-ltb 1 (get_or marks i 0) (small i l)))

    inputs_pass : input_refusal counts marks (length floats) reference first_room second_room ≡ None
    unfolding input_refusal
    inputs_pass = all_none_first_of input_checks (sizes_pass, (counts_pass, (lengths_pass, (marks_pass, tt))))

    poses_pass : not_finite grid ≡ None
    unfolding not_finite lowest_not_finite direct_grid
    poses_pass =
        refuse_at-none (lowest_not_finite grid) NotFinite
        (lowest-nothing is_bad (cell_count counts)
        (λ i l.
        is_bad_mark i l
        ∙ finite_by_mark (pose_at floats (7 * i)) (get_or marks i 0) (small i l) (formed.finite_poses i (omega (arith, formed.mark_each)))))

  pub passes_before_8 : PassesBefore8 counts marks floats reference first_room second_room ↔ WellFormed counts marks floats reference first_room second_room
  passes_before_8 = (well-formed, λ formed. record { passes_1_to_6 = inputs_pass formed; passes_7 = poses_pass formed })
