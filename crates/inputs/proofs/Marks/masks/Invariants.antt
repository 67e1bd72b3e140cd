-- `masks` meets its contract. The loop's invariant: the masks of the cameras before `camera` stand. Assumes nothing.
use Prim.Native.Nat.{ℕ, ◌<◌}
use mathlib.Core.Path.{◌≡◌}
use lib.ListN.{length, get_or}
use Rattle.limits.specs.Limits.{max_cameras}
use Rattle.inputs.specs.Inner.Marks.{mask_of}
use Rattle.inputs.proofs.Marks.masks.Given as goal

abbrev pub invariant-loop-camera : goal.invariant-loop-camera
invariant-loop-camera l = (length l.masks ≡ max_cameras) × ((c : ℕ) → c < l.camera → get_or l.masks c 0 ≡ mask_of l.self.marks.now l.self.cameras l.self.views c)
