-- `count_printed` meets its contract: the last step prints all that was still to come. Assumes nothing.
use Rattle.std.proofs.Common.{ℕ, ◌+◌, ◌%◌, ◌^◌, ap, ◌∙◌}
use Rattle.test_probe.proofs.streams.count_printed.Goals as goal

pub returns-then-stream-at : goal.returns-then-stream-at
returns-then-stream-at g c =
    ap (λ (n : ℕ). (c.loop-at.count + n) % 2 ^ 64) (c.step-moved.ensures.ends c.if-stream-at.true) ∙ c.loop-at.invariant
