-- `average_link` meets its contract: the sum has taken the candidates of the views passed. Assumes nothing.
use native.Mathlib.Omega.{arith}
use mathlib.Core.Path.{◌≡◌}
use Rattle.mean.proofs.Averaging.{mean_taken}
use Rattle.placing.specs.Estimate.{averaged_link}
use Rattle.placing.proofs.Gathering.{taken-gather-next, length-link_candidate-le}
use Rattle.placing.proofs.Candidates.{link_candidates-rig_cell}
use Rattle.placing.proofs.poses.average_link.Goals as goal

pub loop-view-preserved : goal.loop-view-preserved
loop-view-preserved c =
    let few = c.args.seen.now.fits.views_fit in
    simp (c.add_link-sum.ensures, c.cell.ensures, c.cell-in-loop-view.ensures, c.loop-view.invariant)
    (taken-gather-next c.loop-view.view _ (λ v. length-link_candidate-le _ _) (omega arith))

pub returns : goal.returns
unfolding averaged_link
returns c =
    let s = c.args.seen.now in
    let whole : c.loop-view.view ≡ s.rig.views = omega arith in
    simp (c.mean.ensures, c.loop-view.invariant, mean_taken, whole, link_candidates-rig_cell s.rig s.floats.now c.args.parent c.args.camera c.requires.0 c.requires.1)
