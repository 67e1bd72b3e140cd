-- The details of what the direct call refuses, and of what averaging does, have no more than 32 bits, whatever they are handed: 1 to 3 come
-- first, so that views are at most 64, cameras at most 16 and poses at most 64 where a later refusal names any. Assumes nothing.
use Prim.Native.Nat.{ℕ, ◌*◌, ◌^◌, ◌≤◌, ◌<◌}
use native.Mathlib.Nat.{mul-le-mul}
use native.Mathlib.Omega.{arith}
use mathlib.Core.Path.{◌≡◌}
use mathlib.Core.Bool.{Bool, not, ◌||◌}
use Rattle.std.specs.Prelude.{Some, None}
use mathlib.Core.List.{List, [], ◌∷◌}
use lib.ListN.{length, get_or}
use lib.Pow.{pow_mono}
use lib.Dec.{eqb, ltb}
use lib.Ieee.{Float}
use borrow.Author.Tests.{ltb-false}
use Rattle.arithmetic.specs.declared.pose.Pose.{Pose}
use Rattle.refusal.specs.Table.{refuse_if, refuse_at}
use Rattle.refusal.specs.declared.Refusal.TheVariants.{InsufficientData, TooMany, WrongLength, CountDiffers, BadMark, NotFinite, Unreached, EmptyView}
use Rattle.limits.specs.Limits.{max_views, max_cameras, first_needs, second_needs}
use Rattle.lists.specs.Finding.{lowest}
use Rattle.inputs.specs.Inputs.{size_refusal, cell_count, lowest_other_count, count_refusal, length_refusal, lowest_bad_mark, mark_refusal, input_refusal}
use Rattle.placing.specs.Grid.{Grid, has_place}
use Rattle.extrinsics.specs.Outcome.{is_not_finite, lowest_not_finite, not_finite, unreached_set, unreached, is_empty_view, lowest_empty_view, empty_view, grid_refusal}
use Rattle.extrinsics.specs.Direct.{direct_grid, direct_refusal}
use Rattle.averaging.specs.Entry.{max_poses, is_not_finite as isNotFiniteAt, lowest_not_finite as lowestFound, average_refusal}
use Rattle.inputs.proofs.Answering.{size_refusal-none, refuse_if-none}
use Rattle.inputs.proofs.InTurn.{ShortDetail, Small, if_first_of, if_refuse_if, if_refuse_at, small_size}
use Rattle.lists.proofs.Lowest.{lowest_passes}
use Rattle.lists.proofs.PowerSums.{power_sum-lt}
use Rattle.extrinsics.proofs.DirectCall.{input_sizes}

-- A number that was found below n is small if n is.
small_lowest : (test : ℕ → Bool) (n : ℕ) → n ≤ 2 ^ 32 → (i : ℕ) → lowest test n ≡ Some i → i < 2 ^ 32
small_lowest test n h i e = omega (arith, h, (lowest_passes test n i e).0)

-- ---- lengths

small_length : (views cameras marks floats first_room second_room : ℕ) → Small (length_refusal views cameras marks floats first_room second_room)
unfolding length_refusal
small_length views cameras marks floats first_room second_room =
    if_refuse_if ShortDetail
    (not (eqb marks (views * cameras))
    || not (eqb floats (7 * (views * cameras)))
    || ltb first_room (first_needs cameras views)
    || ltb second_room (second_needs cameras)) WrongLength (omega arith)

-- ---- grids

cells_fit : (views cameras : ℕ) → views ≤ max_views → cameras ≤ max_cameras → views * cameras ≤ 2 ^ 32
cells_fit views cameras h k = omega (arith, mul-le-mul h k)

module _ (g : Grid) (views_fit : g.views ≤ max_views) (cameras_fit : g.cameras ≤ max_cameras) where
  small_not_finite : Small (not_finite g)
  unfolding not_finite lowest_not_finite
  small_not_finite =
      if_refuse_at ShortDetail (lowest_not_finite g) NotFinite
      (small_lowest (λ i. is_not_finite (get_or g.cells i None)) (g.views * g.cameras) (cells_fit g.views g.cameras views_fit cameras_fit))

  small_unreached : Small (unreached g)
  unfolding unreached unreached_set
  small_unreached =
      if_refuse_if ShortDetail (not (eqb (unreached_set g) 0)) (Unreached (unreached_set g))
      (omega (arith, power_sum-lt (λ c. not (has_place g c)) g.cameras, pow_mono {i = g.cameras} {j = 16} cameras_fit))

  small_empty_view : Small (empty_view g)
  unfolding empty_view lowest_empty_view
  small_empty_view = if_refuse_at ShortDetail (lowest_empty_view g) EmptyView (small_lowest (is_empty_view g) g.views (omega (arith, views_fit)))

  pub small_grid : Small (grid_refusal g)
  unfolding grid_refusal
  small_grid =
      if_first_of ShortDetail (not_finite g ∷ unreached g ∷ empty_view g ∷ [])
      (small_not_finite, λ e. (small_unreached, λ e. (small_empty_view, λ e. tt)))

-- ---- the direct call

module _ (counts marks : List ℕ) (floats : List Float) (reference first_room second_room : ℕ) where
  small_input : Small (input_refusal counts marks (length floats) reference first_room second_room)
  unfolding input_refusal count_refusal lowest_other_count mark_refusal lowest_bad_mark
  small_input =
      if_first_of ShortDetail
      (size_refusal (length counts) (get_or counts 0 0) reference
      ∷ count_refusal counts
      ∷ length_refusal (length counts) (get_or counts 0 0) (length marks) (length floats) first_room second_room
      ∷ mark_refusal (cell_count counts) marks
      ∷ []) (
        small_size (length counts) (get_or counts 0 0) reference,
        λ e.
            let sizes = size_refusal-none (length counts) (get_or counts 0 0) reference e in (
              if_refuse_at ShortDetail (lowest_other_count counts) CountDiffers
                  (small_lowest (λ v. not (eqb (get_or counts v 0) (get_or counts 0 0))) (length counts) (omega (arith, sizes.views_fit))),
              λ e. (
                small_length (length counts) (get_or counts 0 0) (length marks) (length floats) first_room second_room,
                λ e. (
                  if_refuse_at ShortDetail (lowest_bad_mark (cell_count counts) marks) BadMark
                      (small_lowest (λ i. ltb 1 (get_or marks i 0)) (cell_count counts)
                      (cells_fit (length counts) (get_or counts 0 0) sizes.views_fit sizes.cameras_fit)),
                  λ e. tt,
                ),
              ),
            ),
      )

  pub small_direct : Small (direct_refusal counts marks floats reference first_room second_room)
  unfolding direct_refusal direct_grid
  small_direct =
      if_first_of ShortDetail
      (input_refusal counts marks (length floats) reference first_room second_room ∷ grid_refusal (direct_grid counts marks floats reference) ∷ []) (
        small_input,
        λ e.
            let sizes = input_sizes counts marks (length floats) reference first_room second_room e in
            (small_grid (direct_grid counts marks floats reference) sizes.views_fit sizes.cameras_fit, λ e. tt),
      )

-- ---- averages

-- At most 64 poses where one of them is named.
pub small_average : (poses : List Pose) → Small (average_refusal poses)
unfolding average_refusal lowestFound
small_average poses =
    if_first_of ShortDetail
    (refuse_if (eqb (length poses) 0) InsufficientData
    ∷ refuse_if (ltb max_poses (length poses)) TooMany
    ∷ refuse_at (lowestFound poses) NotFinite
    ∷ []) (
      if_refuse_if ShortDetail (eqb (length poses) 0) InsufficientData (omega arith),
      λ e. (
        if_refuse_if ShortDetail (ltb max_poses (length poses)) TooMany (omega arith),
        λ few. (
          if_refuse_at ShortDetail (lowestFound poses) NotFinite
              (small_lowest (isNotFiniteAt poses) (length poses)
              (omega (arith, ltb-false max_poses (length poses) (refuse_if-none _ _ few)))),
          λ e. tt,
        ),
      ),
    )
