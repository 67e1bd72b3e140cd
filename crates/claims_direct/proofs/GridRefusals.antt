-- Refusals 8 and 9 of a grid in terms of the list of cameras without a place, and its transforms in terms of its lists of poses.
-- Assumes nothing.
use Rattle.std.proofs.Common.{◌≡◌, ℕ, ◌<◌, Bool, true, not, eqb, List, [], ◌∷◌, ◌++◌, sym, refl, ap, ◌∙◌, ap₂}
use Rattle.std.specs.Prelude.{Option, None, Some}
use lib.Ieee.{Float}
use borrow.Author.Tests.{not-false}
use Rattle.refusal.specs.Table.{refuse_if, refuse_at, or_else}
use Rattle.refusal.specs.declared.Refusal.{Refusal}
use Rattle.refusal.specs.declared.Refusal.TheVariants.{Unreached, EmptyView}
use Rattle.lists.specs.Lists.{tabulate}
use Rattle.placing.specs.Grid.{Grid, has_place}
use Rattle.placing.specs.Estimate.{rig_se3_cam, rig_se3_target, transforms}
use Rattle.extrinsics.specs.Outcome.{not_finite, unreached_set, unreached, lowest_empty_view, empty_view, grid_refusal}
use Rattle.claims_direct.specs.RustStd.{is_empty, range, filter}
use Rattle.claims_direct.specs.Encoding.{powers_of, flat_all}
use Rattle.claims_direct.proofs.Gathered.{flat_all-tabulate}
use Rattle.claims_direct.proofs.Ascending.{filter-range-empty, powers_of-filter-range, is_empty_powers_of}

-- A last check that refuses nothing changes nothing.
pub or_else_none : (o : Option Refusal) → or_else o None ≡ o
unfolding or_else
or_else_none None = refl
or_else_none (Some r) = refl

-- The cameras without a place, ascending.
abbrev pub left : Grid → List ℕ
left g = filter (λ c. not (has_place g c)) (range g.cameras)

module _ (g : Grid) where
  -- Where none is left every camera has its place.
  pub left-none : left g ≡ [] → (c : ℕ) → c < g.cameras → has_place g c ≡ true
  left-none e c l = not-false (has_place g c) (filter-range-empty (λ c. not (has_place g c)) g.cameras e c l)

  unreached-left : (l : List ℕ) → left g ≡ l → unreached g ≡ refuse_if (not (is_empty l)) (Unreached (powers_of l))
  unfolding unreached unreached_set
  unreached-left l e =
      ap (λ (n : ℕ). refuse_if (not (eqb n 0)) (Unreached n)) (sym (powers_of-filter-range (λ c. not (has_place g c)) g.cameras) ∙ ap powers_of e)
      ∙ ap (λ (b : Bool). refuse_if (not b) (Unreached (powers_of l))) (sym (is_empty_powers_of l))

  -- Where 7 refuses nothing.
  module _ (finite : not_finite g ≡ None) where
    grid_refusal-left : (l : List ℕ) → left g ≡ l → grid_refusal g ≡ or_else (refuse_if (not (is_empty l)) (Unreached (powers_of l))) (or_else (empty_view g) None)
    unfolding grid_refusal or_else
    grid_refusal-left l e = ap₂ (λ (o p : Option Refusal). or_else o (or_else p (or_else (empty_view g) None))) finite (unreached-left l e)

    pub grid_refusal-unreached : (c : ℕ) (l : List ℕ) → left g ≡ c ∷ l → grid_refusal g ≡ Some (Unreached (powers_of (c ∷ l)))
    unfolding refuse_if or_else
    grid_refusal-unreached c l e = grid_refusal-left (c ∷ l) e

    pub grid_refusal-empty_view : left g ≡ [] → grid_refusal g ≡ refuse_at (lowest_empty_view g) EmptyView
    unfolding refuse_if or_else empty_view
    grid_refusal-empty_view e = grid_refusal-left [] e ∙ or_else_none (empty_view g)

pub transforms-flat_all : (g : Grid) → transforms g ≡ flat_all (tabulate g.cameras (rig_se3_cam g)) ++ flat_all (tabulate g.views (rig_se3_target g))
unfolding transforms
transforms-flat_all g =
    ap₂ (λ (a b : List Float). a ++ b) (sym (flat_all-tabulate g.cameras (rig_se3_cam g))) (sym (flat_all-tabulate g.views (rig_se3_target g)))
