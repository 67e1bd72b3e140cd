-- `mask` meets its contract. The loop's invariant: the mask is that of the views before `view`, so it is below 2 to the power `view`
-- and no sum wraps. Assumes nothing.
use mathlib.Core.Path.{◌≡◌}
use Rattle.inputs.specs.Inner.Marks.{mask_of}
use Rattle.inputs.proofs.Marks.mask.Given as goal

abbrev pub invariant-loop-view : goal.invariant-loop-view
invariant-loop-view l = l.mask ≡ mask_of l.self.marks.now l.self.cameras l.view l.camera
