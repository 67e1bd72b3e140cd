-- `place_cameras` meets its contract: the reference is all there is before layer 1 (`placed_to_reference`); within a layer `PlacedBefore` holds of the cameras
-- passed, and one camera more is either stored with its rig pose (`placed_before_stored`) or belongs to another layer (`placed_before_passed`); and no camera
-- has as many links as there are cameras (`placed_to_all`). Assumes nothing.
use mathlib.Core.Path.{◌≡◌}
use lib.ListN.{length}
use Rattle.limits.specs.Limits.{max_cameras}
use Rattle.chains.specs.Inner.Trees.{parent_at, links_at}
use Rattle.placing.specs.Inner.Placed.{PlacedTo}
use Rattle.placing.specs.Rig.{rig_grid}
use Rattle.placing.proofs.LayerPoses.{PlacedBefore}
use Rattle.placing.proofs.poses.place_cameras.Given as goal

abbrev pub invariant-loop-camera : goal.invariant-loop-camera
invariant-loop-camera l = (length l.poses ≡ max_cameras) × PlacedBefore (rig_grid l.seen.rig l.seen.floats.now) (parent_at l.tree) (links_at l.tree) l.layer l.camera l.poses

abbrev pub invariant-loop-layer : goal.invariant-loop-layer
invariant-loop-layer l = (length l.poses ≡ max_cameras) × PlacedTo (rig_grid l.seen.rig l.seen.floats.now) (parent_at l.tree) (links_at l.tree) l.layer l.poses
