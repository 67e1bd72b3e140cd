-- `average_isometries` meets its contract: what `position` finds is the lowest pose that holds a number that is not finite. Assumes nothing.
use Rattle.std.proofs.Common.{rules, length, None, Some}
use Rattle.averaging.specs.Entry.{is_not_finite, averaged_of}
use Rattle.inputs.proofs.Answering.{first_is_lowest}
use Rattle.averaging.proofs.average_isometries.Goals as goal

pub returns-in-Some : goal.returns-in-Some
unfolding averaged_of
returns-in-Some c =
    rw (← first_is_lowest (is_not_finite c.args.poses.now) (length c.args.poses.now) (Some c.in-Some.place) (search rules)) (search rules)

pub returns : goal.returns
unfolding averaged_of
returns c = rw (← first_is_lowest (is_not_finite c.args.poses.now) (length c.args.poses.now) None (search rules)) (search rules)
