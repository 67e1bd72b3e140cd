-- `held_views` meets its contract: `held` is the union of the masks of the cameras passed. Assumes nothing.
use Prim.Native.Nat.{◌<◌}
use native.Mathlib.Omega.{arith}
use Rattle.std.proofs.lemmas.List.{get_or-take}
use Rattle.extrinsics.proofs.MaskUnion.{union_none, union_more}
use Rattle.extrinsics.proofs.checks.held_views.Goals as goal

pub loop-mask-init : goal.loop-mask-init
loop-mask-init c = union_none c.args.seen.now.rig.masks

pub loop-mask-preserved : goal.loop-mask-preserved
loop-mask-preserved c =
    let rig = c.args.seen.now.rig in
    let camera = c.loop-mask.mask-index in
    let inside : camera < rig.cameras = omega arith in
    λ v. rw get_or-take (union_more rig.masks camera c.loop-mask.held v (c.loop-mask.invariant v))
