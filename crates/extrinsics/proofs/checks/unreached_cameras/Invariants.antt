-- `unreached_cameras` meets its contract: the set is the sum over the cameras passed, and the tree has no place exactly for those that
-- the layers do not place. Assumes nothing.
use Prim.Native.Nat.{ℕ}
use mathlib.Core.Path.{◌≡◌}
use mathlib.Core.Bool.{Bool}
use lib.ListN.{get_or}
use Rattle.std.specs.Prelude.{None, is_none}
use Rattle.lists.specs.Finding.{power_sum}
use Rattle.chains.specs.declared.Tree.{Tree}
use Rattle.extrinsics.proofs.checks.unreached_cameras.Given as goal

abbrev pub no_place : Tree → ℕ → Bool
no_place tree c = is_none (get_or tree.places c None)

abbrev pub invariant-loop-camera : goal.invariant-loop-camera
invariant-loop-camera l = l.set ≡ power_sum (no_place l.tree) l.camera
