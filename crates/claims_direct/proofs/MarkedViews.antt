-- What marks of 0 and 1 say, said of the grid that they make: which cells are held, how many views two cameras share, which views are
-- empty, and the candidates of links and targets. Assumes nothing.
use Rattle.std.proofs.Common.{◌≡◌, ℕ, ◌+◌, ◌*◌, ◌<◌, ◌≤◌, Bool, true, false, cond, ◌&&◌, T, eqb, List, [], ◌∷◌, length, get_or, sym, refl, ap, ◌∙◌, subst, ap₂, true≢false, arith, eq-eqb, ne_eqb, eqb-true}
use mathlib.Core.Bool.{false≢true}
use Rattle.std.specs.Prelude.{Option, None, Some}
use lib.Ieee.{Float}
use borrow.Author.Tests.{eqb-false}
use Rattle.arithmetic.specs.Pose.{pose_at, mul_pose, inverse_pose}
use Rattle.mean.specs.Average.{average_isometries}
use Rattle.arithmetic.specs.declared.pose.Pose.{Pose}
use Rattle.chains.specs.Shared.{shared}
use Rattle.placing.specs.Grid.{Grid, is_held, cell_of, holds, shared_views, Cell}
use Rattle.placing.specs.Estimate.{link_candidate, target_candidate, link_candidates, averaged_link, rig_se3_cam, target_candidates}
use Rattle.lists.specs.Finding.{lowest}
use Rattle.extrinsics.specs.Outcome.{is_empty_view}
use Rattle.inputs.specs.Inputs.{cell_count}
use Rattle.extrinsics.specs.Direct.{marked_cell, direct_grid}
use Rattle.claims_direct.specs.Demand3.{marked, HoldsAPose, marked_shared, target_pose, links_over, averaged_link_over, targets_over}
use Rattle.lists.proofs.Counting.{count_agree}
use Rattle.lists.proofs.Tabulated.{get_d_tabulate}
use Rattle.lists.proofs.Lowest.{lowest_passes, lowest-none_fails}
use Rattle.placing.proofs.Gathering.{gather_agree}
use Rattle.placing.proofs.ViewCells.{row_inside, is_held_cond}

-- ---- one cell

-- A cell that is held where the flag says so.
abbrev cell_if : Bool → Pose → Cell
cell_if b p = cond b (Some p) None

link_candidate_cell_if : (a b : Bool) (p q : Pose) → link_candidate (cell_if a p) (cell_if b q) ≡ cond (a && b) (mul_pose p (inverse_pose q) ∷ []) []
unfolding link_candidate
link_candidate_cell_if true true p q = refl
link_candidate_cell_if true false p q = refl
link_candidate_cell_if false true p q = refl
link_candidate_cell_if false false p q = refl

target_candidate_cell_if : (b : Bool) (rig p : Pose) → target_candidate rig (cell_if b p) ≡ cond b (mul_pose rig p ∷ []) []
unfolding target_candidate
target_candidate_cell_if true rig p = refl
target_candidate_cell_if false rig p = refl

-- A mark of 0 or 1 is 0 where it is not 1.
cond_mark : {A : Type 0} (m : ℕ) (x y : A) → m ≤ 1 → cond (eqb m 0) x y ≡ cond (eqb m 1) y x
cond_mark m x y h = go (eqb m 0) refl
  where
    go : (t : Bool) → eqb m 0 ≡ t → cond t x y ≡ cond (eqb m 1) y x
    go true e = rw (ne_eqb m 1 (λ s. omega (arith, eqb-true m 0 e)))
    go false e = rw (eq-eqb m 1 (omega (arith, eqb-false m 0 e)))

-- ---- the grid of the marks

module _ (counts marks : List ℕ) (floats : List Float) (reference : ℕ) (small : (i : ℕ) → i < cell_count counts → get_or marks i 0 ≤ 1) where
  abbrev views : ℕ
  views = length counts

  abbrev cameras : ℕ
  cameras = get_or counts 0 0

  abbrev grid : Grid
  grid = direct_grid counts marks floats reference

  module _ (v c : ℕ) (view_inside : v < views) (camera_inside : c < cameras) where
    cell_of_cell_if : cell_of grid v c ≡ cell_if (marked marks cameras v c) (target_pose floats cameras v c)
    unfolding direct_grid marked_cell marked target_pose
    cell_of_cell_if =
        let inside : v * cameras + c < cell_count counts = row_inside v views cameras c view_inside camera_inside in
        get_d_tabulate (cell_count counts) (marked_cell marks floats) None (v * cameras + c) inside
        ∙ cond_mark (get_or marks (v * cameras + c) 0) None (Some (pose_at floats (7 * (v * cameras + c)))) (small (v * cameras + c) inside)

    pub holds-marked : holds grid v c ≡ marked marks cameras v c
    holds-marked = ap is_held cell_of_cell_if ∙ is_held_cond (marked marks cameras v c) (target_pose floats cameras v c)

  pub shared_views-marked : (a b : ℕ) → a < cameras → b < cameras → shared_views grid a b ≡ marked_shared marks cameras views a b
  unfolding shared marked_shared direct_grid
  shared_views-marked a b h k =
      count_agree (λ v. holds grid v a && holds grid v b) (λ v. marked marks cameras v a && marked marks cameras v b) views
      (λ v l. ap₂ ◌&&◌ (holds-marked v a l h) (holds-marked v b l k))

  -- ---- empty views

  pub empty-holds-none : (v : ℕ) → v < views → is_empty_view grid v ≡ true → HoldsAPose marks cameras v → ⊥
  unfolding is_empty_view direct_grid
  empty-holds-none v h e (c, l, t) = go (lowest (holds grid v) cameras) refl e
    where
      go : (o : Option ℕ) → lowest (holds grid v) cameras ≡ o → (elim o [ Some i ↦ false | None ↦ true ]) ≡ true → ⊥
      go (Some i) f q = false≢true q
      go None f q = subst T (sym (holds-marked v c h l) ∙ lowest-none_fails (holds grid v) cameras c f l) t

  pub not-empty-holds : (v : ℕ) → v < views → is_empty_view grid v ≡ false → HoldsAPose marks cameras v
  unfolding is_empty_view direct_grid
  not-empty-holds v h e = go (lowest (holds grid v) cameras) refl e
    where
      go : (o : Option ℕ) → lowest (holds grid v) cameras ≡ o → (elim o [ Some i ↦ false | None ↦ true ]) ≡ false → HoldsAPose marks cameras v
      go None f q = absurd (true≢false q)
      go (Some c) f q =
          let (l, p) = lowest_passes (holds grid v) cameras c f in
          (c, l, subst T (sym p ∙ holds-marked v c h l) tt)

  -- ---- candidates

  pub averaged_link-marked : (p c : ℕ) → p < cameras → c < cameras → averaged_link grid p c ≡ averaged_link_over marks floats cameras views p c
  unfolding averaged_link link_candidates averaged_link_over links_over direct_grid
  averaged_link-marked p c h k =
      ap average_isometries
      (gather_agree views _ _
      (λ v l. ap₂ link_candidate (cell_of_cell_if v p l h) (cell_of_cell_if v c l k) ∙ link_candidate_cell_if (marked marks cameras v p) (marked marks cameras v c) _ _))

  -- With poses that are the rig poses of the cameras.
  pub target_candidates-marked : (rig : ℕ → Pose) → ((c : ℕ) → c < cameras → rig c ≡ rig_se3_cam grid c) → (v : ℕ) → v < views
      → target_candidates grid v ≡ targets_over marks floats cameras rig v
  unfolding target_candidates targets_over direct_grid
  target_candidates-marked rig right v h =
      gather_agree cameras _ _
      (λ c k.
      ap₂ target_candidate (sym (right c k)) (cell_of_cell_if v c h k)
      ∙ target_candidate_cell_if (marked marks cameras v c) (rig c) (target_pose floats cameras v c))
