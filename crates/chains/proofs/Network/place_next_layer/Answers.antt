-- `place_next_layer` meets its contract. The loop's invariant: the cameras passed are done for the next layer (`Turned`). Assumes nothing.
use native.Mathlib.Omega.{arith}
use mathlib.Core.Path.{◌≡◌}
use Rattle.std.specs.Prelude.{◌<◌}
use Rattle.std.proofs.lemmas.List.Elements.{All-same}
use Rattle.limits.specs.Limits.{max_cameras}
use Rattle.chains.proofs.Reaching.{layer_inside, reached_number}
use Rattle.chains.proofs.Turning.{turned_length, turned_start, turned_end, turned_before, turned_no_parent, turned_parent}
use Rattle.chains.proofs.Network.place_next_layer.Goals as goal
use Rattle.chains.proofs.Network.place_next_layer.Goals.{then-is_none+in-Some, then-is_none+in_default, else-is_none}

pub loop-camera-init : goal.loop-camera-init
loop-camera-init c = turned_start _ c.requires.reached _ c.new-layer.ensures

pub best_parent-requires-clause-layer_inside : goal.best_parent-requires-clause-layer_inside
best_parent-requires-clause-layer_inside c = All-same (λ c. c < max_cameras) _ _ c.deref.ensures.0 (layer_inside _ c.requires.reached)

pub push-requires : goal.push-requires
push-requires c = (omega arith, omega (arith, turned_length _ c.loop-camera.invariant))

-- The three ways through the body: the camera is placed now, finds no parent, or was placed before.
pub loop-camera-preserved : goal.loop-camera-preserved
loop-camera-preserved c =
    let at = c.requires.reached in
    let before = c.loop-camera.invariant in
    let inside = c.loop-camera-test.true in
    elim c.if-is_none.branch [
      | then-is_none+in-Some w ↦ rw (w.places-is, w.layer-is, w.push.ensures.items)
          (turned_parent _ at before inside w.if-is_none.ensures (rw w.deref.ensures.0 at w.best_parent.ensures) _ _ w.in-Some.is (omega arith))
      | then-is_none+in_default w ↦ rw (w.places-is, w.layer-is)
          (turned_no_parent _ at before inside w.if-is_none.ensures (rw w.deref.ensures.0 at w.best_parent.ensures) w.in_default.is)
      | else-is_none w ↦ rw (w.places-is, w.layer-is) (turned_before _ at before inside w.if-is_none.ensures)
    ]

pub returns-clause-reached : goal.returns-clause-reached
returns-clause-reached c =
    let all : c.loop-camera.camera ≡ c.args.self.now.cameras = omega arith in
    turned_end _ (rw all at c.loop-camera.invariant) (reached_number _ c.requires.reached c.requires.not_last) (omega arith)
