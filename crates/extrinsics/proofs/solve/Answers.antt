-- `solve` meets its contract: each return is the first check that refuses, or none, by the laws of `Solving`. Assumes nothing.
use Prim.Native.Nat.{ℕ}
use Rattle.std.specs.Prelude.{Some}
use mathlib.Core.Path.{sym, ap, ◌∙◌}
use Rattle.refusal.specs.declared.Refusal.TheVariants.{Unreached}
use Rattle.placing.specs.Rig.{rig_grid}
use Rattle.chains.specs.Inner.Trees.{tree_of}
use Rattle.placing.proofs.Rooting.{spots_rooted, written_by_layers}
use Rattle.extrinsics.proofs.Solving.{spots_masks, refused-not_finite, refused-unreached, all_placed, refused-empty_view, not-refused, answers-refused, answers_solved}
use Rattle.extrinsics.proofs.solve.Goals as goal

pub returns-in-Some-clause-answered : goal.returns-in-Some-clause-answered
returns-in-Some-clause-answered c =
    answers-refused _ _ _ _ _ (refused-not_finite _ _ (sym c.in-Some.ensures))

pub unreached_cameras-unreached-requires : goal.unreached_cameras-unreached-requires
unreached_cameras-unreached-requires c =
    let seen = c.args.seen.now in
    c.layer_cameras-tree.ensures ∙ ap tree_of (spots_masks seen.rig seen.floats.now seen.fits)

pub returns-then-unreached-ne0-clause-answered : goal.returns-then-unreached-ne0-clause-answered
returns-then-unreached-ne0-clause-answered c =
    let set = c.unreached_cameras-unreached.ensures in
    answers-refused _ _ _ _ _
    (refused-unreached _ (sym c.in_default.ensures) (λ z. c.if-unreached-ne0.true (set ∙ z)) ∙ ap (λ (n : ℕ). Some (Unreached n)) (sym set))

pub returns-in-Some-find_empty_view-clause-answered : goal.returns-in-Some-find_empty_view-clause-answered
returns-in-Some-find_empty_view-clause-answered c =
    answers-refused _ _ _ _ _
    (refused-empty_view _ (sym c.in_default.ensures) (sym c.unreached_cameras-unreached.ensures ∙ c.if-unreached-ne0.false) _ (sym c.in-Some-find_empty_view.ensures))

pub write_solved-requires-clause-rooted : goal.write_solved-requires-clause-rooted
unfolding rig_grid
write_solved-requires-clause-rooted c =
    let seen = c.args.seen.now in
    let g = rig_grid seen.rig seen.floats.now in
    spots_rooted g seen.fits.reference_inside seen.fits.cameras_fit
    (all_placed g (sym c.in_default.ensures) (sym c.unreached_cameras-unreached.ensures ∙ c.if-unreached-ne0.false))
    c.layer_cameras-tree.result (c.layer_cameras-tree.ensures ∙ ap tree_of (spots_masks seen.rig seen.floats.now seen.fits))

pub returns-clause-answered : goal.returns-clause-answered
unfolding rig_grid
returns-clause-answered c =
    let seen = c.args.seen.now in
    let g = rig_grid seen.rig seen.floats.now in
    let finite = sym c.in_default.ensures in
    let reached = sym c.unreached_cameras-unreached.ensures ∙ c.if-unreached-ne0.false in
    answers_solved _ g _ _ _ _ (not-refused g finite reached (sym c.in_default-find_empty_view.ensures))
    (written_by_layers g seen.fits.reference_inside seen.fits.cameras_fit (all_placed g finite reached)
    c.layer_cameras-tree.result (c.layer_cameras-tree.ensures ∙ ap tree_of (spots_masks seen.rig seen.floats.now seen.fits)) c.write_solved.ensures.written)
