-- What the Rust does once its loop has ended: the cameras that it names as unreached are ours, and where there are none it stops at the lowest
-- empty view or has our rig and target poses. Assumes nothing.
use Rattle.std.proofs.Common.{◌≡◌, ℕ, zero, suc, ◌<◌, Bool, true, false, cond, not, List, [], ◌∷◌, ◌++◌, get_or, sym, refl, ap, ◌∙◌}
use mathlib.Core.Bool.{false≢true}
use Rattle.std.specs.Prelude.{Option, None, Some}
use Rattle.arithmetic.specs.Pose.{identity_pose}
use Rattle.arithmetic.proofs.Numbers.{mul_iso-mul_pose}
use Rattle.mean.specs.Average.{average_isometries}
use Rattle.arithmetic.specs.declared.pose.Pose.{Pose}
use Rattle.chains.specs.Layers.{Spot, not_placed, placed, is_placed, spot_at}
use Rattle.lists.specs.Lists.{tabulate, gather}
use Rattle.placing.specs.Grid.{Grid, is_held, cell_of, holds, spots, has_place, Cell}
use Rattle.placing.specs.Estimate.{rig_se3_cam, rig_se3_target}
use Rattle.placing.specs.Estimate as ours
use Rattle.lists.specs.Finding.{lowest}
use Rattle.extrinsics.specs.Outcome.{is_empty_view, lowest_empty_view}
use Rattle.claims_direct.specs.RustStd.{ok, err, is_some, is_empty, range, enumerate, for_each, filter, cons_some, filter_map, flatten}
use Rattle.claims_direct.specs.Rust.{no_valid_camera_poses, num_views, unreached, target_candidate, target_candidates, push_target}
use Rattle.claims_direct.specs.Encoding.{pose_of}
use Rattle.lists.proofs.Tabulated.{get_d_tabulate}
use Rattle.placing.proofs.Gathering.{gather_agree}
use Rattle.claims_direct.proofs.Gathered.{gather-tabulate}
use Rattle.claims_direct.proofs.Iterators.{enumerate-tabulate, filter_map_tabulate, stopped, for_each-lowest}
use Rattle.claims_direct.proofs.Ascending.{filter-range_agree}
use Rattle.claims_direct.proofs.RustAverage.{average_isometries?-cons}
use Rattle.claims_direct.proofs.SameGrid.{SameGrid}
use Rattle.claims_direct.proofs.PartialRigs.{pose_in, is_some_pose_in, rig_final}

-- ---- one cell, one view

cons_some-target_candidate : (rig : List Pose) (c : ℕ) (p : Pose) → get_or rig c identity_pose ≡ p → (o : Option Pose)
    → cons_some (target_candidate rig c o) [] ≡ ours.target_candidate p o
unfolding target_candidate ours.target_candidate
cons_some-target_candidate rig c p e None = refl
cons_some-target_candidate rig c p e (Some ct) = rw (e, mul_iso-mul_pose p ct)

cons_some_pose_in : (s : Spot) (p : Pose) → is_placed s ≡ true → cons_some (pose_in s p) [] ≡ p ∷ []
unfolding is_placed
cons_some_pose_in not_placed p e = absurd (false≢true e)
cons_some_pose_in (placed q d) p e = refl

push_target-average : (rig : List Pose) (v : ℕ) (view : List (Option Pose)) (targets l : List Pose)
    → target_candidates rig view ≡ l
    → push_target rig (v, view) targets ≡ cond (is_empty l) (err (no_valid_camera_poses v)) (ok (targets ++ (average_isometries l ∷ [])))
unfolding push_target
push_target-average rig v view targets [] e = rw e
push_target-average rig v view targets (p ∷ l) e = rw (e, average_isometries?-cons p l)

-- A view is empty exactly where no cell of it is held.
is_empty_target_candidates : (rig : ℕ → Pose) (cell : ℕ → Cell) (n : ℕ)
    → is_empty (gather n (λ c. ours.target_candidate (rig c) (cell c))) ≡ not (is_some (lowest (λ c. is_held (cell c)) n))
unfolding gather lowest ours.target_candidate is_held
is_empty_target_candidates rig cell zero = refl
is_empty_target_candidates rig cell (suc n) =
    go (gather n (λ c. ours.target_candidate (rig c) (cell c))) (lowest (λ c. is_held (cell c)) n) (cell n) (is_empty_target_candidates rig cell n)
  where
    go : (l : List Pose) (o : Option ℕ) (k : Cell) → is_empty l ≡ not (is_some o)
        → is_empty (l ++ ours.target_candidate (rig n) k) ≡ not (is_some (elim o [ Some i ↦ Some i | None ↦ cond (is_held k) (Some n) None ]))
    go [] None None e = refl
    go [] None (Some p) e = refl
    go [] (Some i) k e = absurd (false≢true (sym e))
    go (p ∷ l) None k e = absurd (false≢true e)
    go (p ∷ l) (Some i) k e = refl

is_empty_view-lowest : (g : Grid) (v : ℕ) → is_empty_view g v ≡ not (is_some (lowest (holds g v) g.cameras))
unfolding is_empty_view
is_empty_view-lowest g v = go (lowest (holds g v) g.cameras)
  where
    go : (o : Option ℕ) → (elim o [ Some c ↦ false | None ↦ true ]) ≡ not (is_some o)
    go None = refl
    go (Some c) = refl

-- ---- one grid

-- The rig poses of all cameras.
abbrev pub rig_poses : Grid → List Pose
rig_poses g = tabulate g.cameras (rig_se3_cam g)

pub flatten_rig_final : (g : Grid) → ((c : ℕ) → c < g.cameras → has_place g c ≡ true) → flatten (rig_final g) ≡ rig_poses g
flatten_rig_final g all_Placed =
    filter_map_tabulate (λ o. o) (λ c. pose_in (spot_at (spots g) c) (rig_se3_cam g c)) g.cameras
    ∙ gather_agree g.cameras _ _ (λ c l. cons_some_pose_in (spot_at (spots g) c) (rig_se3_cam g c) (all_Placed c l))
    ∙ gather-tabulate g.cameras (rig_se3_cam g)

is_empty_view_same : (g : Grid) (v : ℕ) → is_empty (ours.target_candidates g v) ≡ is_empty_view g v
unfolding ours.target_candidates
is_empty_view_same g v = is_empty_target_candidates (rig_se3_cam g) (cell_of g v) g.cameras ∙ sym (is_empty_view-lowest g v)

-- ---- two grids

module _ (camSe3Target : List (List (Option Pose))) (g : Grid) (same : SameGrid camSe3Target g) where
  pub unreached_same : unreached camSe3Target (rig_final g) ≡ filter (λ c. not (has_place g c)) (range g.cameras)
  unfolding unreached
  unreached_same =
      ap (λ (n : ℕ). filter (λ c. not (is_some (get_or (rig_final g) c None))) (range n)) (sym same.same_cameras)
      ∙ filter-range_agree _ _ g.cameras
      (λ c l. ap (λ (o : Option Pose). not (is_some o)) (get_d_tabulate g.cameras (λ c. pose_in (spot_at (spots g) c) (rig_se3_cam g c)) None c l)
      ∙ ap not (is_some_pose_in (spot_at (spots g) c) (rig_se3_cam g c)))

  target_candidates_same : (v : ℕ) → v < g.views → target_candidates (rig_poses g) (get_or camSe3Target v []) ≡ ours.target_candidates g v
  unfolding target_candidates ours.target_candidates
  target_candidates_same v h =
      ap (filter_map (λ (x : ℕ × Option Pose). target_candidate (rig_poses g) x.0 x.1))
      (enumerate-tabulate None (get_or camSe3Target v []) ∙ ap (λ (n : ℕ). tabulate n (λ c. (c, pose_of camSe3Target v c))) (same.view_length v h))
      ∙ filter_map_tabulate (λ (x : ℕ × Option Pose). target_candidate (rig_poses g) x.0 x.1) (λ c. (c, pose_of camSe3Target v c)) g.cameras
      ∙ gather_agree g.cameras _ _
      (λ c l. cons_some-target_candidate (rig_poses g) c (rig_se3_cam g c) (get_d_tabulate g.cameras (rig_se3_cam g) identity_pose c l) (pose_of camSe3Target v c)
      ∙ ap (ours.target_candidate (rig_se3_cam g c)) (sym (same.same_cell v c h l)))

  push_target_same : (v : ℕ) → v < g.views
      → push_target (rig_poses g) (v, get_or camSe3Target v []) (tabulate v (rig_se3_target g))
      ≡ cond (is_empty_view g v) (err (no_valid_camera_poses v)) (ok (tabulate (suc v) (rig_se3_target g)))
  unfolding rig_se3_target tabulate
  push_target_same v h =
      push_target-average (rig_poses g) v (get_or camSe3Target v []) (tabulate v (rig_se3_target g)) (ours.target_candidates g v) (target_candidates_same v h)
      ∙ ap (λ (t : Bool). cond t (err (no_valid_camera_poses v)) (ok (tabulate (suc v) (rig_se3_target g)))) (is_empty_view_same g v)

  pub targets_same : for_each (enumerate camSe3Target) (push_target (rig_poses g)) [] ≡ stopped no_valid_camera_poses (lowest_empty_view g) (tabulate g.views (rig_se3_target g))
  unfolding lowest_empty_view tabulate num_views
  targets_same =
      ap (λ (l : List (ℕ × List (Option Pose))). for_each l (push_target (rig_poses g)) [])
      (enumerate-tabulate [] camSe3Target ∙ ap (λ (n : ℕ). tabulate n (λ v. (v, get_or camSe3Target v []))) (sym same.same_views))
      ∙ for_each-lowest (push_target (rig_poses g)) (λ v. (v, get_or camSe3Target v [])) (λ v. tabulate v (rig_se3_target g)) (is_empty_view g) no_valid_camera_poses g.views push_target_same
