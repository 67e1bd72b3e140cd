-- The row of `Rows` holds, by computing with the definitions. Assumes nothing.
use mathlib.Core.Path.{◌≡◌, refl}
use Rattle.lists.specs.Finding.{count}
use Rattle.lists.specs.Lists.{tabulate}
use Rattle.lists.specs.Masks.{in_mask}
use Rattle.chains.specs.Masks.{views_of_both, shared_by}
use Rattle.shared_counts.specs.Summary.{summary_of}
use Rattle.shared_counts.specs.Rows.{apart_masks, apart_summed}

pub apart-summed : summary_of apart_masks ≡ apart_summed
unfolding summary_of tabulate shared_by views_of_both count in_mask
apart-summed = refl
