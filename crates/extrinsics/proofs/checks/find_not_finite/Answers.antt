-- `find_not_finite` meets its contract: nothing below the cell of this view and camera passes, and the cell that was read is the
-- grid's cell there. Assumes nothing.
use Prim.Native.Nat.{ℕ, ◌+◌, ◌*◌, ◌<◌}
use native.Mathlib.Nat.{add_assoc}
use native.Mathlib.Omega.{arith}
use mathlib.Core.Path.{◌≡◌, sym, ap, ◌∙◌}
use mathlib.Core.Bool.{Bool}
use Rattle.placing.specs.Rig.{rig_cell, rig_grid}
use Rattle.placing.specs.Grid.{Cell}
use Rattle.placing.specs.declared.grid.Observations.{Observations}
use Rattle.lists.proofs.Lowest.{lowest-none_more, lowest-first}
use Rattle.placing.proofs.ViewCells.{row_inside, cell_of_rig_cell}
use Rattle.extrinsics.specs.Outcome.{is_not_finite, lowest_not_finite}
use Rattle.extrinsics.proofs.checks.find_not_finite.Goals as goal
use Rattle.extrinsics.proofs.checks.find_not_finite.Invariants.{not_finite_in}

-- What one turn of the inner loop learns of its cell.
not_finite_in-cell : (seen : Observations) (v c : ℕ) (cell : Cell) (b : Bool) → v < seen.rig.views → c < seen.rig.cameras
    → cell ≡ rig_cell seen.rig seen.floats.now v c → b ≡ is_not_finite cell → not_finite_in seen (v * seen.rig.cameras + c) ≡ b
unfolding rig_grid
not_finite_in-cell seen v c cell b h l e f =
    ap is_not_finite (cell_of_rig_cell seen.rig seen.floats.now v c h l ∙ sym e) ∙ sym f

pub returns-then-is_not_finite : goal.returns-then-is_not_finite
unfolding lowest_not_finite rig_grid
returns-then-is_not_finite c =
    let seen = c.args.seen.now in
    let view = c.loop-view.view in
    let camera = c.loop-camera.camera in
    sym
    (lowest-first (not_finite_in seen) (view * seen.rig.cameras + camera) (seen.rig.views * seen.rig.cameras)
    (row_inside view seen.rig.views seen.rig.cameras camera (omega arith) (omega arith)) c.loop-camera.invariant
    (not_finite_in-cell seen view camera _ _ (omega arith) (omega arith) c.cell.ensures c.is_not_finite.ensures ∙ c.if-is_not_finite.true))

pub loop-camera-preserved : goal.loop-camera-preserved
loop-camera-preserved c =
    let seen = c.args.seen.now in
    let view = c.loop-view.view in
    let camera = c.loop-camera.camera in
    rw (← add_assoc)
    (lowest-none_more (not_finite_in seen) (view * seen.rig.cameras + camera) c.loop-camera.invariant
    (not_finite_in-cell seen view camera _ _ (omega arith) (omega arith) c.cell.ensures c.is_not_finite.ensures ∙ c.if-is_not_finite.false))

pub returns : goal.returns
unfolding lowest_not_finite rig_grid
returns c =
    let all : c.loop-view.view ≡ c.args.seen.now.rig.views = omega arith in
    sym (rw all at c.loop-view.invariant)
