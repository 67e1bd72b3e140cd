-- Demand 1 of the papers for the public averaging entry, in document 01's own words: which number refuses a list of poses, with which detail, and
-- in which order; and when a list has an average. Nothing here computes. Rests on the checks of `claims_direct` and on the halves of a reply in `placer`.
use Rattle.std.specs.Prelude.{ℕ, ◌^◌, ◌≤◌, ◌<◌, ◌≡◌, ◌↔◌, List, [], ◌∷◌, ◌++◌, length, get_or, drop, T, Float}
use Rattle.arithmetic.specs.Pose.{flat, finite_pose, nowhere}
use Rattle.arithmetic.specs.declared.pose.Pose.{Pose}
use Rattle.refusal.specs.Table.{number_of, detail_of}
use Rattle.refusal.specs.declared.Refusal.{Refusal}
use Rattle.averaging.specs.Entry.{Averaged}
use Rattle.claims_direct.specs.Deciding.{Check, naming, plain, Decides, LowestBelow}
use Rattle.claims_direct.specs.Demand1.{NotAllFinite}
use Rattle.claims_direct.specs.RustStd.{ok}
use Rattle.claims_direct.specs.RustAverage.{average_isometries?}
use Rattle.placer.specs.Reading.{number_in, detail_in}
use Rattle.std.specs.Prelude.{Err, Ok}

module _ (poses : List Pose) where
  -- "It refuses an empty list with 1, more than 64 with 2, and a non-finite number with 7, detail being the lowest pose."
  abbrev pub average_checks : List Check
  average_checks =
      plain 1 (length poses ≡ 0)
      ∷ plain 2 (64 < length poses)
      ∷ naming 7 (LowestBelow (length poses) (λ i. NotAllFinite (flat (get_or poses i nowhere)) 0))
      ∷ []

  -- What is left: one pose to 64, and all their numbers finite.
  pub record Averageable : Type 0 where
    pub not_empty : 0 < length poses
    pub not_too_many : length poses ≤ 64
    pub finite_poses : (i : ℕ) → i < length poses → T (finite_pose (get_or poses i nowhere))

  -- What the demand asks of the entry's answer, and that a mean is the Rust's own: `average_isometries` of extrinsics.rs.
  pub record AverageDemand1 (o : Averaged) : Type 0 where
    pub refused_exactly : (n d : ℕ) → ((q : Refusal) × (o ≡ Err q) × (number_of q ≡ n) × (detail_of q ≡ d)) ↔ Decides average_checks n d
    pub accepted_exactly : ((p : Pose) × (o ≡ Ok p)) ↔ Averageable
    pub as_rust : Averageable → (p : Pose) × (average_isometries? poses ≡ ok p) × (o ≡ Ok p)

  -- The same of the export `rig_average_isometries`, which is lent `mean`, replies r and leaves `mean'`: "A reply of 2^32 or more is a refusal:
  -- its number in the upper 32 bits, what it names in the lower", and "A refusal changes [..] no lent memory."
  pub record RepliesDemand1 (mean : List Float) (r : ℕ) (mean' : List Float) : Type 0 where
    pub refused_exactly : (n d : ℕ) → ((2 ^ 32 ≤ r) × (number_in r ≡ n) × (detail_in r ≡ d)) ↔ Decides average_checks n d
    pub accepted_exactly : (r ≡ 0) ↔ Averageable
    pub as_rust : Averageable → (p : Pose) × (average_isometries? poses ≡ ok p) × (mean' ≡ flat p ++ drop 7 mean)
    pub otherwise_unchanged : (r ≡ 0 → ⊥) → (2 ^ 32 ≤ r) × (mean' ≡ mean)
