-- Demand 3 of the papers, sentence by sentence, for one direct call: over what it takes, its answer, and both lent answers after it.
-- What is held, shared, linked and chained goes by the marks; parents, links and poses are read from the answers. Nothing here knows
-- how cameras are placed. Rests on the chains of `Chains` and the arithmetic of poses.
use Rattle.std.specs.Prelude.{◌≡◌, ℕ, ◌+◌, ◌*◌, ◌<◌, ◌≤◌, Bool, true, cond, ◌&&◌, T, ◌≢◌, ◌⊎◌, ◌↔◌, List, [], ◌∷◌, length, ◌==◌, slice_index, slice_index_or, Float, Err, Ok}
use Rattle.arithmetic.specs.Pose.{pose_at, finite_pose, identity_pose, mul_pose, inverse_pose}
use Rattle.mean.specs.Average.{average_isometries}
use Rattle.arithmetic.specs.declared.pose.Pose.{Pose}
use Rattle.refusal.specs.Table.{number_of, detail_of}
use Rattle.refusal.specs.declared.Refusal.{Refusal}
use Rattle.limits.specs.Limits.{max_views, max_cameras, one_view, parent_place, links_place}
use Rattle.chains.specs.Shared.{shared}
use Rattle.claims_direct.specs.Deciding.{LowestBelow}
use Rattle.chains.specs.Chains.{HasChain}
use Rattle.chains.specs.Layered.{Layered}
use Rattle.lists.specs.Masks.{in_mask}
use Rattle.lists.specs.Lists.{gather}
use Rattle.lists.specs.Finding.{power_sum}
use Rattle.extrinsics.specs.Outcome.{Outcome}

-- "Every grid that passes all the checks document 01 puts before 8", in the papers' own words: 1 to 7 find nothing exactly here
-- (`passes_before_8` of `WellFormed`). The views of the call are its counts, and its cameras those of view 0.
pub record WellFormed (counts marks : List ℕ) (floats : List Float) (reference first_room second_room : ℕ) : Type 0 where
  -- "Views: 1 to 64." "Cameras: 1 to 16." The reference is one of them.
  pub some_views : 1 ≤ length counts
  pub views_fit : length counts ≤ max_views
  pub some_cameras : 1 ≤ slice_index counts 0
  pub cameras_fit : slice_index_or counts 0 0 ≤ max_cameras
  pub reference_inside : reference < slice_index counts 0
  -- No "view's count differs from view 0's".
  pub count_each : (v : ℕ) → v < length counts → slice_index counts v ≡ slice_index counts 0
  -- Marks are "one per cell, floats [..] seven per cell", and no "answer is too short".
  pub mark_each : length marks ≡ length counts * slice_index counts 0
  pub seven_each : length floats ≡ 7 * (length counts * slice_index counts 0)
  pub first_fits : 7 * (slice_index counts 0 + length counts) ≤ first_room
  pub second_fits : 2 * slice_index counts 0 ≤ second_room
  -- No "mark above 1", and no "non-finite number in a held [..] pose".
  pub mark_small : (i : ℕ) → i < length marks → slice_index marks i ≤ 1
  pub finite_poses : (i : ℕ) → i < length marks → slice_index marks i ≡ 1 → T (finite_pose (pose_at floats (7 * i)))

-- ---- what is reported

-- "the second at least 2 × cameras bytes, a parent and a link count each"
unfoldable pub reported_parent : List ℕ → ℕ → ℕ
reported_parent second c = slice_index second (parent_place c)

unfoldable pub reported_links : List ℕ → ℕ → ℕ
reported_links second c = slice_index second (links_place c)

-- "The first answer has at least 7 × (cameras + views) floats, cameras first": T_R_C of camera c, and T_R_T of view v.
unfoldable pub reported_camera : List Float → ℕ → Pose
unfolding pose_at
reported_camera first c = pose_at first (7 * c)

unfoldable pub reported_view : ℕ → List Float → ℕ → Pose
unfolding pose_at
reported_view cameras first v = pose_at first (7 * (cameras + v))

-- ---- what the marks and the floats say

module _ (marks : List ℕ) (cameras : ℕ) where
  -- "A view holds a pose of a camera if that cell's mark is 1". "A cell's index is view × cameras + camera."
  unfoldable pub marked : ℕ → ℕ → Bool
  marked v c = slice_index marks (v * cameras + c) == 1

  -- A view "is empty if it holds none".
  abbrev pub HoldsAPose : ℕ → Type 0
  HoldsAPose v = (c : ℕ) × (c < cameras) × T (marked v c)

-- "A cell's pose is its camera's target pose in that view": T_C_T.
unfoldable pub target_pose : List Float → ℕ → ℕ → ℕ → Pose
unfolding pose_at
target_pose floats cameras v c = pose_at floats (7 * (v * cameras + c))

module _ (marks : List ℕ) (floats : List Float) (cameras : ℕ) where
  -- "For each shared view, ascending, the link candidate is parent's target pose × inverse of the camera's target pose."
  unfoldable pub links_over : ℕ → ℕ → ℕ → List Pose
  unfolding gather marked target_pose
  links_over views p c =
      gather views
      (λ v.
      cond (marked marks cameras v p && marked marks cameras v c)
      (mul_pose (target_pose floats cameras v p) (inverse_pose (target_pose floats cameras v c)) ∷ [])
      [])

  -- "Averaging them gives the averaged link": T_Cp_C.
  unfoldable pub averaged_link_over : ℕ → ℕ → ℕ → Pose
  unfolding links_over
  averaged_link_over views p c = average_isometries (links_over views p c)

  -- "rig pose × target pose over its cameras, ascending", for any rig poses of the cameras.
  unfoldable pub targets_over : (ℕ → Pose) → ℕ → List Pose
  unfolding gather marked target_pose
  targets_over rig v = gather cameras (λ c. cond (marked marks cameras v c) (mul_pose (rig c) (target_pose floats cameras v c) ∷ []) [])

-- ---- the demand

-- Refused by a number of the table, with a detail.
abbrev pub RefusedBy : Outcome → ℕ → ℕ → Type 0
RefusedBy r number detail = (q : Refusal) × (r ≡ Err q) × (number_of q ≡ number) × (detail_of q ≡ detail)

module _ (marks : List ℕ) (cameras views : ℕ) where
  -- "Two different cameras share each view that holds poses of both."
  unfoldable pub marked_shared : ℕ → ℕ → ℕ
  unfolding marked shared
  marked_shared a b = shared (marked marks cameras) views a b

  -- "every view holds a pose"
  abbrev pub EveryViewHolds : Type 0
  EveryViewHolds = (v : ℕ) → v < views → HoldsAPose marks cameras v

  module _ (reference : ℕ) where
    -- Camera c "can be tied to the reference by a chain of cameras, neighbours sharing a view".
    abbrev pub Chained : ℕ → Type 0
    Chained c = HasChain cameras marked_shared one_view reference c

    abbrev pub EveryCameraChained : Type 0
    EveryCameraChained = (c : ℕ) → c < cameras → Chained c

    -- "naming precisely the cameras without a chain": bit c of the detail is set for those cameras c and no others, and the "detail sums
    -- 2 to the power c over those cameras c."
    pub record NamesUnchained (detail : ℕ) : Type 0 where
      pub names : (c : ℕ) → T (in_mask detail c) ↔ ((c < cameras) × (Chained c → ⊥))
      pub sums : detail ≡ power_sum (in_mask detail) cameras

    -- "the refusal is 8, naming precisely the cameras without a chain"
    pub record RefusedUnchained (r : Outcome) : Type 0 where
      pub some_unchained : (c : ℕ) × (c < cameras) × (Chained c → ⊥)
      pub detail : ℕ
      pub is_8 : RefusedBy r 8 detail
      pub precisely : NamesUnchained detail

    -- "or, if there are none, 9, naming the lowest empty view"
    pub record RefusedEmpty (r : Outcome) : Type 0 where
      pub every_chained : EveryCameraChained
      pub detail : ℕ
      pub is_9 : RefusedBy r 9 detail
      pub is_lowest : LowestBelow views (λ v. HoldsAPose marks cameras v → ⊥) detail

    module _ (floats first : List Float) (second : List ℕ) where
      pub record SolvedRig : Type 0 where
        -- "each camera's reported chain, followed parent by parent to the reference, is such a chain, its reported link count is the
        -- number of links in it, and every other chain of that camera has at least as many. For all but the reference, the parent is one
        -- link nearer than the camera, and every other camera one link nearer shares fewer views with the camera than the parent does,
        -- or as many and has a higher index."
        pub chains : Layered cameras marked_shared one_view reference (λ c. true) (reported_parent second) (reported_links second)
        -- "Bit for bit, all NaNs counting as one, the reference's reported pose is the identity,"
        pub reference_pose : reported_camera first reference ≡ identity_pose
        -- "every other camera's is its parent's times their averaged link,"
        pub camera_pose : (c : ℕ) → c < cameras → c ≢ reference
            → reported_camera first c
            ≡ mul_pose (reported_camera first (reported_parent second c)) (averaged_link_over marks floats cameras views (reported_parent second c) c)
        -- "and each view's is its target pose as document 01 averages it."
        pub view_pose : (v : ℕ) → v < views
            → reported_view cameras first v ≡ average_isometries (targets_over marks floats cameras (reported_camera first) v)

      pub record Demanded (r : Outcome) : Type 0 where
        -- "is solved exactly when every camera can be tied to the reference by a chain of cameras, neighbours sharing a view, and every
        -- view holds a pose."
        pub solved_exactly : (r ≡ Ok tt) ↔ (EveryCameraChained × EveryViewHolds)
        -- "Otherwise the refusal is 8, naming precisely the cameras without a chain, or, if there are none, 9, naming the lowest empty view."
        pub otherwise : r ≢ Ok tt → RefusedUnchained r ⊎ RefusedEmpty r
        -- The same, from the grid to the refusal: 8 wherever a camera has no chain, and 9 wherever all have one and a view is empty.
        pub unchained_8 : (c : ℕ) → c < cameras → (Chained c → ⊥) → RefusedUnchained r
        pub empty_9 : EveryCameraChained → (v : ℕ) → v < views → (HoldsAPose marks cameras v → ⊥) → RefusedEmpty r
        -- "When solved, .."
        pub solved_rig : r ≡ Ok tt → SolvedRig

-- What the demand asks of a direct call with these inputs that answers r and leaves these two answers. The views of the call are its
-- counts, and its cameras those of view 0.
abbrev pub Demand3 : List ℕ → List ℕ → List Float → ℕ → Outcome → List Float → List ℕ → Type 0
Demand3 counts marks floats reference r first second = Demanded marks (slice_index counts 0) (length counts) reference floats first second r
