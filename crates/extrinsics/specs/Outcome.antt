-- What an estimate on a grid answers: refusal 7, 8 or 9, or the solved rig; and what then stands in the two lent answers.
-- Rests on the spots of `Grid`, the poses of `Estimate` and the table of refusals.
use Rattle.std.specs.Prelude.{ℕ, ◌*◌, ◌≡◌, Bool, true, false, not, List, [], ◌∷◌, ◌++◌, length, get_or, drop, eqb, Float, Option, None, Some, Result, Err, Ok}
use Rattle.arithmetic.specs.Pose.{finite_pose}
use Rattle.refusal.specs.Table.{refuse_if, refuse_at, first_of}
use Rattle.refusal.specs.declared.Refusal.{Refusal}
use Rattle.refusal.specs.declared.Refusal.TheVariants.{NotFinite, Unreached, EmptyView}
use Rattle.lists.specs.Finding.{lowest, power_sum}
use Rattle.placing.specs.Grid.{Grid, Cell, holds, has_place}
use Rattle.placing.specs.Estimate.{transforms, chains}

-- "The numbers of an empty cell are ignored."
unfoldable pub is_not_finite : Cell → Bool
is_not_finite None = false
is_not_finite (Some p) = not (finite_pose p)

module _ (g : Grid) where
  -- 7: "a non-finite number in a held or offered pose; detail is the lowest such cell."
  unfoldable pub lowest_not_finite : Option ℕ
  unfolding lowest is_not_finite
  lowest_not_finite = lowest (λ i. is_not_finite (get_or g.cells i None)) (g.views * g.cameras)

  unfoldable pub not_finite : Option Refusal
  unfolding lowest_not_finite refuse_at
  not_finite = refuse_at lowest_not_finite NotFinite

  -- 8: "cameras without a chain; detail sums 2 to the power c over those cameras c."
  unfoldable pub unreached_set : ℕ
  unfolding power_sum
  unreached_set = power_sum (λ c. not (has_place g c)) g.cameras

  unfoldable pub unreached : Option Refusal
  unfolding unreached_set refuse_if
  unreached = refuse_if (not (eqb unreached_set 0)) (Unreached unreached_set)

  -- A view "is empty if it holds none".
  unfoldable pub is_empty_view : ℕ → Bool
  unfolding lowest
  is_empty_view v = elim (lowest (holds g v) g.cameras) [ Some c ↦ false | None ↦ true ]

  -- 9: "a view without poses; detail is the lowest such view."
  unfoldable pub lowest_empty_view : Option ℕ
  unfolding lowest is_empty_view
  lowest_empty_view = lowest is_empty_view g.views

  unfoldable pub empty_view : Option Refusal
  unfolding lowest_empty_view refuse_at
  empty_view = refuse_at lowest_empty_view EmptyView

  -- "8 precedes 9"
  unfoldable pub grid_refusal : Option Refusal
  unfolding not_finite unreached empty_view first_of
  grid_refusal = first_of (not_finite ∷ unreached ∷ empty_view ∷ [])

-- ---- the answer, and lent memory after it

abbrev pub Outcome : Type 0
Outcome = Result (Unit {0}) Refusal

unfoldable pub outcome_of : Option Refusal → Outcome
outcome_of (Some r) = Err r
outcome_of None = Ok tt

-- A refusal writes nothing; a solved rig's numbers stand in front, and memory beyond them is unchanged.
unfoldable pub answered {ℓ} : {A : Type ℓ} → Option Refusal → List A → List A → List A
answered (Some r) new old = old
answered None new old = new ++ drop (length new) old

-- Given what is refused, the answer r, and what both lent answers, `first` and `second`, are after it, over their full length.
pub record Answers (refusal : Option Refusal) (g : Grid) (first : List Float) (second : List ℕ) (r : Outcome) (first' : List Float) (second' : List ℕ) : Type 0 where
  pub outcome : r ≡ outcome_of refusal
  pub first_answer : first' ≡ answered refusal (transforms g) first
  pub second_answer : second' ≡ answered refusal (chains g) second
