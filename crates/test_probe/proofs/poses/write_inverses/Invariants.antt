-- The inverses of the first i poses are written, and what was behind them stands. Assumes nothing.
use Rattle.std.proofs.Common.{◌≡◌, ◌*◌, ◌++◌, length, drop}
use Rattle.arithmetic.specs.Pose.{inverse_pose, flat, pose_at}
use Rattle.lists.specs.Lists.{gather}
use Rattle.test_probe.proofs.poses.write_inverses.Given as goal

abbrev pub invariant-loop-i : goal.invariant-loop-i
invariant-loop-i l = (length l.inverses ≡ length l.initial.inverses) × (l.inverses ≡ gather l.i (λ k. flat (inverse_pose (pose_at l.poses (7 * k)))) ++ drop (7 * l.i) l.initial.inverses)
