-- Demand 1 of the papers for one direct call, in document 01's own words: which number refuses it, with which detail, and in which order; when it is
-- accepted; that a refusal writes nothing, and a solved call nothing beyond its answers. Nothing here computes. Rests on the checks of `Deciding` and
-- on the words of `Demand3`.
use Rattle.std.specs.Prelude.{◌≡◌, ℕ, ◌+◌, ◌*◌, ◌<◌, ◌≤◌, false, ◌≢◌, ◌⊎◌, ◌↔◌, List, [], ◌∷◌, ◌++◌, length, slice_index, slice_index_or, Float, Ok}
use Rattle.std.specs.Float.{nan}
use Rattle.std.specs.Float.Ieee.Scale.{finite}
use Rattle.limits.specs.Limits.{max_views, max_cameras}
use Rattle.claims_direct.specs.Deciding.{Check, naming, plain, Decides, LowestBelow}
use Rattle.claims_direct.specs.Demand3.{RefusedBy, WellFormed, Chained, EveryCameraChained, EveryViewHolds, HoldsAPose, NamesUnchained}
use Rattle.extrinsics.specs.Outcome.{Outcome}

-- "views for 1 then 2, cameras of view 0 for 1 then 2, then 3": 1 is "no views, or no cameras in view 0", 2 "more than 64 views, or more than 16
-- cameras in view 0", 3 "the reference is not below the camera count".
abbrev pub size_checks : ℕ → ℕ → ℕ → List Check
size_checks views cameras reference =
    plain 1 (views ≡ 0)
    ∷ plain 2 (max_views < views)
    ∷ plain 1 (cameras ≡ 0)
    ∷ plain 2 (max_cameras < cameras)
    ∷ plain 3 (reference < cameras → ⊥)
    ∷ []

-- "a non-finite number": one of the seven from `at` on.
abbrev pub NotAllFinite : List Float → ℕ → Type 0
NotAllFinite floats at = (k : ℕ) × (k < 7) × (finite (slice_index_or floats (at + k) nan) ≡ false)

module _ (marks : List ℕ) (floats : List Float) (views cameras reference : ℕ) where
  -- 7: "a non-finite number in a held [..] pose; detail is the lowest such cell. A cell's index is view × cameras + camera." 8: "cameras without a
  -- chain; detail sums 2 to the power c over those cameras c." 9: "a view without poses; detail is the lowest such view."
  abbrev pub grid_checks : List Check
  grid_checks =
      naming 7 (LowestBelow (views * cameras) (λ i. (slice_index marks i ≡ 1) × NotAllFinite floats (7 * i)))
      ∷ naming 8
      (λ d. ((c : ℕ) × (c < cameras) × (Chained marks cameras views reference c → ⊥)) × NamesUnchained marks cameras views reference d)
      ∷ naming 9 (LowestBelow views (λ v. HoldsAPose marks cameras v → ⊥))
      ∷ []

-- A call's views are its counts, and its cameras those of view 0.
module _ (counts marks : List ℕ) (floats : List Float) (reference : ℕ) (first_room second_room : ℕ) where
  -- 5: "marks are not one per cell, floats not seven per cell, an answer is too short".
  abbrev pub LengthsWrong : Type 0
  LengthsWrong =
      (length marks ≢ length counts * slice_index counts 0)
      ⊎ ((length floats ≢ 7 * (length counts * slice_index counts 0))
      ⊎ ((first_room < 7 * (slice_index counts 0 + length counts)) ⊎ (second_room < 2 * slice_index counts 0)))

  -- "Direct call order: [..] then 3 to 9." 4: "a view's count differs from view 0's; detail is the lowest such view." 6: "a mark above 1; detail is the
  -- lowest such cell."
  abbrev pub direct_checks : List Check
  direct_checks =
      size_checks (length counts) (slice_index counts 0) reference
      ++ (naming 4 (LowestBelow (length counts) (λ v. slice_index counts v ≢ slice_index counts 0))
      ∷ plain 5 LengthsWrong
      ∷ naming 6 (LowestBelow (length counts * slice_index counts 0) (λ i. 1 < slice_index marks i))
      ∷ grid_checks marks floats (length counts) (slice_index counts 0) reference)

-- "The first answer has at least 7 × (cameras + views) floats [..]; the second at least 2 × cameras bytes [..]. Memory beyond these lengths is
-- unchanged."
pub record BeyondUnchanged (views cameras : ℕ) (first : List Float) (second : List ℕ) (first' : List Float) (second' : List ℕ) : Type 0 where
  pub first_length_is : length first' ≡ length first
  pub second_length_is : length second' ≡ length second
  pub first_beyond : (i : ℕ) → 7 * (cameras + views) ≤ i → slice_index_or first' i nan ≡ slice_index_or first i nan
  pub second_beyond : (i : ℕ) → 2 * cameras ≤ i → slice_index second' i ≡ slice_index second i

-- What the demand asks of a direct call that is lent `first` and `second`, answers r and leaves `first'` and `second'`.
pub record Demand1 (counts marks : List ℕ) (floats : List Float) (reference : ℕ) (first : List Float) (second : List ℕ) (r : Outcome) (first' : List Float) (second' : List ℕ) : Type 0 where
  -- "Refused, by document 01's numbers": by number n and detail d exactly when the words of n say so, and no words before them say anything.
  pub refused_exactly : (n d : ℕ) → RefusedBy r n d ↔ Decides (direct_checks counts marks floats reference (length first) (length second)) n d
  -- "Every other call is accepted": solved exactly when it is well formed, every camera has a chain and every view holds a pose.
  pub solved_exactly : (r ≡ Ok tt)
      ↔ (WellFormed counts marks floats reference (length first) (length second)
      × (EveryCameraChained marks (slice_index counts 0) (length counts) reference × EveryViewHolds marks (slice_index counts 0) (length counts)))
  -- It is refused or it is solved: there is no third answer, and "A refusal changes no held pose and no lent memory."
  pub otherwise_unchanged : r ≢ Ok tt → ((n : ℕ) × (d : ℕ) × RefusedBy r n d) × (first' ≡ first) × (second' ≡ second)
  -- A solved call writes the first 7 × (cameras + views) floats and the first 2 × cameras bytes, and no more.
  pub beyond_unchanged : r ≡ Ok tt → BeyondUnchanged (length counts) (slice_index counts 0) first second first' second'
