-- `is_summary` meets its contract: the entries are the summary where those of each camera, with those of lower or its own index, are true. Assumes nothing.
use borrow.Author.Rules.{rules}
use borrow.Author.Tests.{tests}
use mathlib.Core.Path.{refl, ◌∙◌}
use Rattle.std.proofs.lemmas.Iterator.{YieldsList-from_range}
use Rattle.std.proofs.lemmas.Iterator.Search.{all_from_yields_List}
use Rattle.limits.specs.Limits.{max_cameras}
use Rattle.shared_counts.specs.Inner.Counts.{true_up_to}
use Rattle.lists.proofs.AllBelow.{all_in_range}
use Rattle.shared_counts.proofs.TrueEntries.{all_true_is_summary}
use Rattle.shared_counts.proofs.is_summary.Goals as goal

pub returns : goal.returns
returns c =
    let masks = c.args.masks.now in
    let shared = c.args.shared.now in
    let test = true_up_to masks shared in
    all_from_yields_List test _ _ _ c.all.ensures.ran (YieldsList-from_range 0 max_cameras max_cameras refl refl) (λ x b q k. search (rules, tests))
    ∙ all_in_range test max_cameras
    ∙ all_true_is_summary masks shared c.told-shared
