-- P1 to P13 hold: the table's rows compute to what the paper says, as a whole (`rows_hold`). Row P9, of 43 views, is worked out by the
-- masks that its marks make, which have the same layers; every other row by the definitions alone. So is the second table (`refusal-rows_hold`).
-- Assumes nothing.
use Prim.Native.Nat.{ℕ, zero, suc, ◌<◌}
use native.Mathlib.Omega.{arith}
use mathlib.Core.Path.{◌≡◌, refl, sym, ap, ap₂, ◌∙◌}
use mathlib.Core.Bool.{not}
use Rattle.std.specs.Prelude.{None}
use mathlib.Core.List.{List, [], ◌∷◌, ◌++◌, map}
use lib.ListN.{length, get_or}
use lib.Ieee.{Float, to_bits, of_bits, of_int, add, sub, mul, div, neg, lt, eq}
use Rattle.arithmetic.specs.Pose.{mul_pose, finite_pose}
use Rattle.mean.specs.Average.{average_isometries}
use Rattle.root.specs.Root.{root_of}
use Rattle.claims_cases.specs.ArithmeticCases.{all_computed, all_said}
use Rattle.claims_cases.proofs.ArithmeticCases.{arithmetic_rows_hold}
use Rattle.limits.specs.Limits.{one_view}
use Rattle.lists.specs.Finding.{count, power_sum}
use Rattle.chains.specs.Shared.{shared}
use Rattle.lists.specs.Masks.{in_mask}
use Rattle.chains.specs.Masks.{views_of_both, shared_by}
use Rattle.chains.specs.Layers.{Spot, placed, is_placed, parent_of, links_of, spot_at, in_layer, take_if_more, most_views, start_spot, next_spot, linked_in_layer, parent_in_layer, layers_to, layers}
use Rattle.lists.specs.Lists.{tabulate, gather}
use Rattle.placing.specs.Grid.{Grid, is_held, spots}
use Rattle.placing.specs.Estimate.{chains}
use Rattle.extrinsics.specs.Outcome.{lowest_not_finite, unreached_set, lowest_empty_view, grid_refusal}
use Rattle.placing.specs.Inner.Fitting.{Fitting}
use Rattle.inputs.specs.Inputs.{input_refusal}
use Rattle.inputs.specs.Inner.Marks.{mask_of}
use Rattle.extrinsics.specs.Direct.{direct_refusal}
use Rattle.claims_direct.specs.Demand3.{reported_parent, reported_links}
use Rattle.claims_cases.specs.Cases.{told, view_after_view, grid_of, answer_of, identities, answer_on, chain_on, views_of_p9, P1, P2, P3, P4, P5, P6, P7, P8, P9, all_rows, refusal_rows}
use Rattle.inputs.proofs.Answering.{first_of_none}
use Rattle.extrinsics.proofs.MarkedGrid.{dense_rig, fitting_dense_rig, rig_grid-direct_grid}
use Rattle.extrinsics.proofs.Solving.{spots_masks, not-refused}

-- ---- a grid whose spots are known

module _ (g : Grid) (s : List Spot) (known : spots g ≡ s) where
  unreached_set-spots : unreached_set g ≡ power_sum (λ c. not (is_placed (spot_at s c))) g.cameras
  unfolding unreached_set
  unreached_set-spots = ap (λ (l : List Spot). power_sum (λ c. not (is_placed (spot_at l c))) g.cameras) known

  chains-spots : chains g ≡ gather g.cameras (λ c. parent_of (spot_at s c) ∷ links_of (spot_at s c) ∷ [])
  unfolding chains
  chains-spots = ap (λ (l : List Spot). gather g.cameras (λ c. parent_of (spot_at l c) ∷ links_of (spot_at l c) ∷ [])) known

-- ---- P9, by its masks

abbrev masks_of_p9 : List ℕ
masks_of_p9 = 7 ∷ 8796093022202 ∷ 4 ∷ 8796093022201 ∷ []

abbrev floats_of_p9 : List Float
floats_of_p9 = identities views_of_p9

abbrev grid_of_p9 : Grid
grid_of_p9 = grid_of views_of_p9 floats_of_p9 0

abbrev spots_of_p9 : List Spot
spots_of_p9 = placed 0 0 ∷ placed 0 1 ∷ placed 0 1 ∷ placed 0 1 ∷ []

masks_made : (c : ℕ) → c < 4 → get_or masks_of_p9 c 0 ≡ mask_of (view_after_view views_of_p9) 4 43 c
unfolding views_of_p9 view_after_view mask_of
masks_made zero h = refl
masks_made (suc zero) h = refl
masks_made (suc (suc zero)) h = refl
masks_made (suc (suc (suc zero))) h = refl
masks_made (suc (suc (suc (suc c)))) h = absurd (omega arith)

fitting : Fitting (dense_rig masks_of_p9 43 4 0) floats_of_p9
unfolding views_of_p9 identities
fitting = fitting_dense_rig (view_after_view views_of_p9) masks_of_p9 floats_of_p9 43 4 0 masks_made (omega arith) (omega arith) (omega arith) refl

layers-P9 : layers 4 (shared_by masks_of_p9) one_view 0 ≡ spots_of_p9
unfolding layers layers_to tabulate start_spot next_spot parent_in_layer linked_in_layer in_layer most_views take_if_more shared_by views_of_both in_mask count
layers-P9 = refl

spots-P9 : spots grid_of_p9 ≡ spots_of_p9
unfolding views_of_p9 grid_of view_after_view
spots-P9 =
    sym (ap spots (rig_grid-direct_grid (map length views_of_p9) (view_after_view views_of_p9) masks_of_p9 floats_of_p9 0 masks_made))
    ∙ sym (spots_masks (dense_rig masks_of_p9 43 4 0) floats_of_p9 fitting)
    ∙ layers-P9

finite_P9 : lowest_not_finite grid_of_p9 ≡ None
unfolding views_of_p9 grid_of identities lowest_not_finite finite_pose of_bits
finite_P9 = refl

full_P9 : lowest_empty_view grid_of_p9 ≡ None
unfolding views_of_p9 grid_of lowest_empty_view is_held
full_P9 = refl

reached_P9 : unreached_set grid_of_p9 ≡ 0
unfolding views_of_p9 grid_of power_sum is_placed
reached_P9 = unreached_set-spots grid_of_p9 spots_of_p9 spots-P9 ∙ refl

passed_P9 : input_refusal (map length views_of_p9) (view_after_view views_of_p9) (length floats_of_p9) 0 560 32 ≡ None
unfolding views_of_p9 view_after_view identities input_refusal
passed_P9 = refl

answer-P9 : answer_on views_of_p9 0 ≡ 0 ∷ 0 ∷ []
unfolding answer_on answer_of direct_refusal grid_of told
answer-P9 =
    ap told
    (first_of_none _ (grid_refusal grid_of_p9 ∷ []) passed_P9
    ∙ first_of_none (grid_refusal grid_of_p9) [] (not-refused grid_of_p9 finite_P9 reached_P9 full_P9))

chain_P9 : chain_on views_of_p9 0 3 ≡ 0 ∷ 1 ∷ []
unfolding chain_on views_of_p9 grid_of reported_parent reported_links gather parent_of links_of
chain_P9 =
    ap (λ (second : List ℕ). reported_parent second 3 ∷ reported_links second 3 ∷ []) (chains-spots grid_of_p9 spots_of_p9 spots-P9) ∙ refl

P9-holds : P9.computed ≡ P9.said
unfolding P9
P9-holds = ap₂ ◌++◌ answer-P9 chain_P9

-- ---- the table

first-rows_hold : all_computed (P1 ∷ P2 ∷ P3 ∷ P4 ∷ P5 ∷ P6 ∷ P7 ∷ P8 ∷ []) ≡ all_said (P1 ∷ P2 ∷ P3 ∷ P4 ∷ P5 ∷ P6 ∷ P7 ∷ P8 ∷ [])
unfolding P1 P2 P3 P4 P5 P6 P7 P8 all_computed all_said average_isometries root_of mul_pose finite_pose is_held shared count spots layers layers_to start_spot next_spot parent_in_layer linked_in_layer in_layer most_views take_if_more is_placed parent_of links_of to_bits of_bits of_int add sub mul div neg lt eq
first-rows_hold = refl

pub rows_hold : all_computed all_rows ≡ all_said all_rows
unfolding all_rows all_computed all_said
rows_hold = ap₂ ◌++◌ first-rows_hold (ap₂ ◌∷◌ P9-holds arithmetic_rows_hold)

pub refusal-rows_hold : all_computed refusal_rows ≡ all_said refusal_rows
unfolding refusal_rows all_computed all_said finite_pose is_held shared count spots layers layers_to start_spot next_spot parent_in_layer linked_in_layer in_layer most_views take_if_more is_placed to_bits of_bits
refusal-rows_hold = refl
