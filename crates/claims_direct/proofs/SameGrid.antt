-- A grid of ours that holds the same poses as a grid of the Rust's: the views that cameras share and the candidates of a link are the same.
-- Assumes nothing.
use Rattle.std.proofs.Common.{◌≡◌, ℕ, ◌<◌, cond, ◌&&◌, List, [], length, get_or, sym, refl, ap, ◌∙◌, ap₂, arith}
use mathlib.Core.Bool.{and_comm}
use Rattle.std.specs.Prelude.{Option, None, Some}
use Rattle.arithmetic.specs.declared.pose.Pose.{Pose}
use Rattle.arithmetic.specs.Pose.{inverse_pose}
use Rattle.arithmetic.proofs.Numbers.{mul_iso-mul_pose, inverse_iso-inverse_pose}
use Rattle.chains.specs.Shared as ours
use Rattle.lists.specs.Lists.{tabulate}
use Rattle.placing.specs.Grid.{Grid, is_held, cell_of, holds, shared_views, Cell}
use Rattle.placing.specs.Estimate.{link_candidate, link_candidates, averaged_link}
use Rattle.claims_direct.specs.RustStd.{ok, is_some, filter, cons_some, filter_map}
use Rattle.claims_direct.specs.RustAverage.{average_isometries?}
use Rattle.claims_direct.specs.Rust.{relative_pose, num_views, num_cameras, shared, candidates}
use Rattle.claims_direct.specs.Encoding.{pose_of}
use Rattle.lists.proofs.Counting.{count_agree}
use Rattle.lists.proofs.Tabulated.{tabulate-get_or}
use Rattle.placing.proofs.Gathering.{gather_agree}
use Rattle.claims_direct.proofs.Gathered.{length-gather}
use Rattle.claims_direct.proofs.Iterators.{length-filter-tabulate, filter_map_tabulate}
use Rattle.claims_direct.proofs.RustAverage.{average_isometries?-ok}

-- ---- cells

is_held-is_some : (o : Option Pose) → is_held o ≡ is_some o
unfolding is_held
is_held-is_some None = refl
is_held-is_some (Some p) = refl

cons_some-relative_pose : (a b : Option Pose) → cons_some (relative_pose a b) [] ≡ link_candidate a b
unfolding relative_pose link_candidate
cons_some-relative_pose None None = refl
cons_some-relative_pose None (Some q) = refl
cons_some-relative_pose (Some p) None = refl
cons_some-relative_pose (Some p) (Some q) = rw (inverse_iso-inverse_pose q, mul_iso-mul_pose p (inverse_pose q)) refl

length-link_candidate : (a b : Cell) → length (link_candidate a b) ≡ cond (is_held a && is_held b) 1 0
unfolding link_candidate is_held
length-link_candidate None None = refl
length-link_candidate None (Some q) = refl
length-link_candidate (Some p) None = refl
length-link_candidate (Some p) (Some q) = refl

-- ---- one grid

module _ (g : Grid) where
  pub shared_views_comm : (a b : ℕ) → shared_views g a b ≡ shared_views g b a
  unfolding ours.shared
  shared_views_comm a b = count_agree (λ v. holds g v a && holds g v b) (λ v. holds g v b && holds g v a) g.views (λ v l. and_comm (holds g v a) (holds g v b))

  -- One candidate for each shared view.
  pub length-link_candidates : (p c : ℕ) → length (link_candidates g p c) ≡ shared_views g p c
  unfolding link_candidates ours.shared
  length-link_candidates p c =
      length-gather (λ v. holds g v p && holds g v c) g.views (λ v. link_candidate (cell_of g v p) (cell_of g v c))
      (λ v l. length-link_candidate (cell_of g v p) (cell_of g v c))

-- ---- two grids

pub record SameGrid (camSe3Target : List (List (Option Pose))) (g : Grid) : Type 0 where
  pub same_views : g.views ≡ num_views camSe3Target
  pub same_cameras : g.cameras ≡ num_cameras camSe3Target
  pub view_length : (v : ℕ) → v < g.views → length (get_or camSe3Target v []) ≡ g.cameras
  pub same_cell : (v c : ℕ) → v < g.views → c < g.cameras → cell_of g v c ≡ pose_of camSe3Target v c

module _ (camSe3Target : List (List (Option Pose))) (g : Grid) (same : SameGrid camSe3Target g) where
  pub views-tabulate : camSe3Target ≡ tabulate g.views (λ v. get_or camSe3Target v [])
  unfolding num_views
  views-tabulate =
      tabulate-get_or [] camSe3Target (λ v. get_or camSe3Target v []) (λ v h. refl)
      ∙ ap (λ (n : ℕ). tabulate n (λ v. get_or camSe3Target v [])) (sym same.same_views)

  pub is_some_held : (v c : ℕ) → v < g.views → c < g.cameras → is_some (pose_of camSe3Target v c) ≡ holds g v c
  is_some_held v c h k = sym (is_held-is_some (pose_of camSe3Target v c)) ∙ ap is_held (sym (same.same_cell v c h k))

  pub shared_same : (a b : ℕ) → a < g.cameras → b < g.cameras → shared camSe3Target a b ≡ shared_views g a b
  unfolding shared ours.shared
  shared_same a b h k =
      ap (λ (l : List (List (Option Pose))). length (filter (λ view. is_some (get_or view a None) && is_some (get_or view b None)) l)) views-tabulate
      ∙ length-filter-tabulate (λ view. is_some (get_or view a None) && is_some (get_or view b None)) (λ v. get_or camSe3Target v []) g.views
      ∙ count_agree (λ v. is_some (pose_of camSe3Target v a) && is_some (pose_of camSe3Target v b)) (λ v. holds g v a && holds g v b) g.views
      (λ v l. rw (is_some_held v a l h, is_some_held v b l k))

  pub candidates_same : (p c : ℕ) → p < g.cameras → c < g.cameras → candidates camSe3Target p c ≡ link_candidates g p c
  unfolding candidates link_candidates
  candidates_same p c h k =
      ap (filter_map (λ view. relative_pose (get_or view p None) (get_or view c None))) views-tabulate
      ∙ filter_map_tabulate (λ view. relative_pose (get_or view p None) (get_or view c None)) (λ v. get_or camSe3Target v []) g.views
      ∙ gather_agree g.views _ _
      (λ v l. cons_some-relative_pose (pose_of camSe3Target v p) (pose_of camSe3Target v c)
      ∙ ap₂ link_candidate (sym (same.same_cell v p l h)) (sym (same.same_cell v c l k)))

  -- Cameras that share a view have an averaged link, and it is ours.
  pub average_isometries?-candidates : (p c : ℕ) → p < g.cameras → c < g.cameras → 0 < shared_views g p c
      → average_isometries? (candidates camSe3Target p c) ≡ ok (averaged_link g p c)
  unfolding averaged_link
  average_isometries?-candidates p c h k l =
      ap average_isometries? (candidates_same p c h k) ∙ average_isometries?-ok (link_candidates g p c) (omega (arith, length-link_candidates g p c))
