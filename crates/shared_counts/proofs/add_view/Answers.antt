-- `add_view` meets its contract: counted by one, the summary without the view becomes the summary. Assumes nothing.
use Rattle.shared_counts.proofs.CountedViews.{counted_added}
use Rattle.shared_counts.proofs.add_view.Goals as goal

pub returns : goal.returns
returns c =
    let inside = c.args.cell.inside in
    counted_added _ _ _ _ _ inside.1 inside.0 c.requires.view_held c.requires.summed_without_view c.count_view.ensures
