-- `has_possible_masks` meets its contract: the mask of each camera fits. Assumes nothing.
use borrow.Author.Rules.{rules}
use borrow.Author.Tests.{tests}
use mathlib.Core.Path.{refl, ◌∙◌}
use Rattle.std.proofs.lemmas.Iterator.{YieldsList-from_range}
use Rattle.std.proofs.lemmas.Iterator.Search.{all_from_yields_List}
use Rattle.limits.specs.Limits.{max_cameras}
use Rattle.session_record.specs.Session.{mask_fits}
use Rattle.lists.proofs.AllBelow.{all_in_range}
use Rattle.session_record.proofs.check.has_possible_masks.Goals as goal

pub returns : goal.returns
returns c =
    let test = mask_fits c.args.held.now in
    all_from_yields_List test _ _ _ c.all.ensures.ran (YieldsList-from_range 0 max_cameras max_cameras refl refl) (λ x b q k. search (rules, tests))
    ∙ all_in_range test max_cameras
