-- `probe_inverses` meets its contract: what its check refuses, or the inverses, written in front. Assumes nothing.
use Rattle.std.proofs.Common.{ℕ, ◌++◌, drop, sym, ap, ◌∙◌}
use Rattle.test_probe.specs.Poses.{inverses_of}
use Rattle.test_probe.proofs.Products.{length-inverses_of}
use Rattle.test_probe.proofs.Replies.{replied_refused, replied_written}
use Rattle.test_probe.proofs.probe_inverses.Goals as goal

pub returns-in-Err : goal.returns-in-Err
returns-in-Err c = replied_refused c.check_poses.ensures c.in-Err.is c.refusal_code.ensures

pub returns : goal.returns
returns c =
    let a = c.args in
    replied_written c.check_poses.ensures c.in_default.is
    (c.write_inverses.ensures ∙ ap (λ (n : ℕ). inverses_of a.poses.now ++ drop n a.inverses.now) (sym (length-inverses_of a.poses.now)))
