-- `mask` meets its contract. The loop's invariant: the mask is that of the views before `view`, so it is below 2 to the power `view`
-- and no sum wraps. Assumes nothing.
use Prim.Native.Nat.{suc, ◌≤◌}
use native.Mathlib.Omega.{arith}
use lib.Pow.{pow_mono}
use Rattle.inputs.proofs.MarkedMasks.{mask_of_below}
use Rattle.inputs.proofs.Marks.mask.Goals as goal

pub overflow_add-mask : goal.overflow_add-mask
overflow_add-mask c =
    let h : suc c.loop-view.view ≤ 64 = omega arith in
    omega (arith, mask_of_below, pow_mono h)
