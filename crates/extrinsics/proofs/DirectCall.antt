-- The direct call: what its passed checks have shown, and how its outcome follows from the checks and from the grid of its masks.
-- Assumes nothing.
use Prim.Native.Nat.{ℕ, ◌≤◌, ◌<◌}
use mathlib.Core.Path.{◌≡◌, refl, sym, ap, ◌∙◌, subst}
use Rattle.std.specs.Prelude.{Option, None, Some}
use mathlib.Core.List.{List, [], ◌∷◌}
use borrow.Author.Tests.{ltb-false}
use lib.ListN.{length, get_or}
use lib.Dec.{ltb}
use lib.Ieee.{Float}
use Rattle.refusal.specs.Table.{first_of}
use Rattle.refusal.specs.declared.Refusal.{Refusal}
use Rattle.refusal.specs.declared.Refusal.TheVariants.{BadMark}
use Rattle.placing.specs.Grid.{Grid}
use Rattle.extrinsics.specs.Outcome.{grid_refusal, Answers}
use Rattle.inputs.specs.Inputs.{size_refusal, count_refusal, length_refusal, lowest_bad_mark, mark_refusal, cell_count, input_refusal}
use Rattle.inputs.specs.Inner.Marks.{mask_of}
use Rattle.extrinsics.specs.Direct.{direct_grid, direct_refusal, Direct}
use Rattle.placing.specs.Rig.{rig_grid}
use Rattle.placing.specs.Inner.Fitting.{Fitting}
use Rattle.extrinsics.specs.Outcome.{Outcome}
use Rattle.inputs.proofs.Answering.{first_of_some, first_of_none, first_of_none_all, AllNone, refuse_at-nothing, Sizes, size_refusal-none, Lengths, length_refusal-none}
use Rattle.lists.proofs.Lowest.{lowest-none_fails}
use Rattle.extrinsics.proofs.MarkedGrid.{dense_rig, fitting_dense_rig, rig_grid-direct_grid}
use Rattle.extrinsics.proofs.Solving.{answers-refused}
use Rattle.std.specs.Prelude.{Err}

module _ (counts marks : List ℕ) (floats reference first second : ℕ) (passed : input_refusal counts marks floats reference first second ≡ None) where
  all_none : AllNone
      (size_refusal (length counts) (get_or counts 0 0) reference
      ∷ count_refusal counts
      ∷ length_refusal (length counts) (get_or counts 0 0) (length marks) floats first second
      ∷ mark_refusal (cell_count counts) marks
      ∷ [])
  unfolding input_refusal
  all_none =
      first_of_none_all
      (size_refusal (length counts) (get_or counts 0 0) reference
      ∷ count_refusal counts
      ∷ length_refusal (length counts) (get_or counts 0 0) (length marks) floats first second
      ∷ mark_refusal (cell_count counts) marks
      ∷ [])
      passed

  pub input_sizes : Sizes (length counts) (get_or counts 0 0) reference
  input_sizes = size_refusal-none (length counts) (get_or counts 0 0) reference all_none.0

  pub input_lengths : Lengths (length counts) (get_or counts 0 0) (length marks) floats first second
  input_lengths = length_refusal-none (length counts) (get_or counts 0 0) (length marks) floats first second all_none.1.1.0

  pub input_marks : (i : ℕ) → i < cell_count counts → get_or marks i 0 ≤ 1
  unfolding mark_refusal lowest_bad_mark
  input_marks i h =
      ltb-false 1 (get_or marks i 0)
      (lowest-none_fails (λ j. ltb 1 (get_or marks j 0)) (cell_count counts) i (refuse_at-nothing (lowest_bad_mark (cell_count counts) marks) BadMark all_none.1.1.1.0) h)

first_of_single : (check : Option Refusal) → first_of (check ∷ []) ≡ check
unfolding first_of
first_of_single None = refl
first_of_single (Some r) = refl

module _ (counts marks : List ℕ) (floats : List Float) (reference : ℕ) (first : List Float) (second : List ℕ) where
  abbrev input : Option Refusal
  input = input_refusal counts marks (length floats) reference (length first) (length second)

  pub direct-refused : (r : Refusal) → input ≡ Some r → Direct counts marks floats reference first second (Err r) first second
  unfolding direct_refusal
  direct-refused r e =
      answers-refused (direct_refusal counts marks floats reference (length first) (length second)) (direct_grid counts marks floats reference) first second r
      (first_of_some input (grid_refusal (direct_grid counts marks floats reference) ∷ []) r e)

  -- Where the inputs pass, what is refused is what the grid refuses.
  pub direct_is_grid : input ≡ None → direct_refusal counts marks floats reference (length first) (length second) ≡ grid_refusal (direct_grid counts marks floats reference)
  unfolding direct_refusal
  direct_is_grid passed =
      first_of_none input (grid_refusal (direct_grid counts marks floats reference) ∷ []) passed
      ∙ first_of_single (grid_refusal (direct_grid counts marks floats reference))

  -- Where the inputs pass, the call answers as the estimate on a grid that is the call's own.
  pub direct_solved : (g : Grid) → g ≡ direct_grid counts marks floats reference → input ≡ None
      → (r : Outcome) (first' : List Float) (second' : List ℕ) → Answers (grid_refusal g) g first second r first' second'
      → Direct counts marks floats reference first second r first' second'
  direct_solved g same passed r first' second' h =
      subst (λ (o : Option Refusal). Answers o (direct_grid counts marks floats reference) first second r first' second') (sym (direct_is_grid passed))
      (subst (λ (k : Grid). Answers (grid_refusal k) k first second r first' second') same h)

  -- With the masks that the marks make, n being the number of cameras in view 0.
  module _ (masks : List ℕ) (n : ℕ) (view-0 : n ≡ get_or counts 0 0)
      (made : (c : ℕ) → c < n → get_or masks c 0 ≡ mask_of marks n (length counts) c) (passed : input ≡ None) where
    made_0 : (c : ℕ) → c < get_or counts 0 0 → get_or masks c 0 ≡ mask_of marks (get_or counts 0 0) (length counts) c
    made_0 = subst (λ (k : ℕ). (c : ℕ) → c < k → get_or masks c 0 ≡ mask_of marks k (length counts) c) view-0 made

    pub direct_fitting : Fitting (dense_rig masks (length counts) n reference) floats
    direct_fitting =
        let sizes = input_sizes counts marks (length floats) reference (length first) (length second) passed in
        let lengths = input_lengths counts marks (length floats) reference (length first) (length second) passed in
        subst (λ (k : ℕ). Fitting (dense_rig masks (length counts) k reference) floats) (sym view-0)
        (fitting_dense_rig marks masks floats (length counts) (get_or counts 0 0) reference made_0 sizes.views_fit sizes.cameras_fit sizes.reference_inside
        lengths.floats_fit)

    pub direct-answers : (r : Outcome) (first' : List Float) (second' : List ℕ)
        → Answers (grid_refusal (rig_grid (dense_rig masks (length counts) n reference) floats)) (rig_grid (dense_rig masks (length counts) n reference) floats) first second r first' second'
        → Direct counts marks floats reference first second r first' second'
    direct-answers =
        direct_solved (rig_grid (dense_rig masks (length counts) n reference) floats)
        (ap (λ (k : ℕ). rig_grid (dense_rig masks (length counts) k reference) floats) view-0 ∙ rig_grid-direct_grid counts marks masks floats reference made_0)
        passed
