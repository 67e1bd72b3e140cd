-- A view of a rig's grid is empty exactly where no camera's mask has it. Assumes nothing.
use Prim.Native.Nat.{ℕ, ◌<◌}
use mathlib.Core.Path.{◌≡◌, refl, sym, ◌∙◌, subst}
use mathlib.Core.Logic.{◌↔◌}
use mathlib.Core.Bool.{Bool, true, false, not}
use Rattle.std.specs.Prelude.{Option, None, Some}
use mathlib.Core.List.{List}
use lib.Dec.{T}
use lib.Ieee.{Float}
use Rattle.lists.specs.Masks.{in_mask}
use Rattle.placing.specs.Grid.{holds}
use Rattle.placing.specs.Rig.{rig_grid}
use Rattle.lists.specs.Finding.{lowest}
use Rattle.extrinsics.specs.Outcome.{is_empty_view}
use Rattle.placing.specs.declared.grid.Rig.{Rig}
use Rattle.lists.proofs.Lowest.{lowest_passes, lowest-none_fails}
use Rattle.extrinsics.proofs.MaskUnion.{InOneOf}
use Rattle.placing.proofs.ViewCells.{holds-in_mask}

module _ (r : Rig) (floats : List Float) (held v : ℕ) (inside : v < r.views) (union : T (in_mask held v) ↔ InOneOf r.masks r.cameras v) where
  pub is_empty_view-not-in_mask : is_empty_view (rig_grid r floats) v ≡ not (in_mask held v)
  unfolding is_empty_view rig_grid
  is_empty_view-not-in_mask = go (lowest (holds (rig_grid r floats) v) r.cameras) refl (in_mask held v) refl
    where
      go : (o : Option ℕ) → lowest (holds (rig_grid r floats) v) r.cameras ≡ o → (b : Bool) → in_mask held v ≡ b
          → (elim o [ Some c ↦ false | None ↦ true ]) ≡ not b
      go None e false t = refl
      go None e true t =
          let (c, l, m) = union.0 (subst T (sym t) tt) in
          absurd (subst T (sym (holds-in_mask r floats v c inside l) ∙ lowest-none_fails (holds (rig_grid r floats) v) r.cameras c e l) m)
      go (Some c) e true t = refl
      go (Some c) e false t =
          let (l, p) = lowest_passes (holds (rig_grid r floats) v) r.cameras c e in
          absurd (subst T t (union.1 (c, l, subst T (sym p ∙ holds-in_mask r floats v c inside l) tt)))
