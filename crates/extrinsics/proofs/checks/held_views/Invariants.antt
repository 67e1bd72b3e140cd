-- `held_views` meets its contract: `held` is the union of the masks of the cameras passed. Assumes nothing.
use Prim.Native.Nat.{ℕ}
use mathlib.Core.Logic.{◌↔◌}
use lib.Dec.{T}
use Rattle.lists.specs.Masks.{in_mask}
use Rattle.extrinsics.proofs.MaskUnion.{InOneOf}
use Rattle.extrinsics.proofs.checks.held_views.Given as goal

abbrev pub invariant-loop-mask : goal.invariant-loop-mask
invariant-loop-mask l = (v : ℕ) → T (in_mask l.held v) ↔ InOneOf l.seen.rig.masks l.mask-index v
