-- `remove_view` meets its contract: counted by 255, the summary becomes the one without the view. Assumes nothing.
use Rattle.shared_counts.proofs.CountedViews.{counted_removed}
use Rattle.shared_counts.proofs.remove_view.Goals as goal

pub returns : goal.returns
returns c =
    let inside = c.args.cell.inside in
    counted_removed _ _ _ _ _ inside.1 inside.0 c.requires.view_held c.requires.summed_with_view c.count_view.ensures
