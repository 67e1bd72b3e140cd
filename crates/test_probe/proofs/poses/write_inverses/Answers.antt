-- `write_inverses` meets its contract. Assumes nothing.
use Rattle.std.proofs.Common.{◌≡◌, ℕ, ◌+◌, ◌*◌, ◌/◌, List, ◌++◌, length, drop, refl, ap, ◌∙◌, arith}
use lib.Ieee.{Float}
use Rattle.arithmetic.specs.Pose.{inverse_pose, flat, pose_at}
use Rattle.lists.specs.Lists.{gather}
use Rattle.test_probe.specs.Poses.{inverses_of}
use Rattle.placing.proofs.Filling.{fill_tail, length-filled}
use Rattle.test_probe.proofs.poses.write_inverses.Goals as goal

abbrev inverse_block : List Float → ℕ → List Float
inverse_block poses i = flat (inverse_pose (pose_at poses (7 * i)))

pub loop-i-init : goal.loop-i-init
unfolding gather
loop-i-init c = (refl, refl)

pub loop-i-preserved : goal.loop-i-preserved
loop-i-preserved c =
    let a = c.args in
    let l = c.loop-i in
    let block = inverse_block a.poses.now in
    let inverse = c.inverse-inverse.ensures ∙ ap inverse_pose c.read.ensures in
    let filled = fill_tail block 7 (λ i. refl) l.inverses a.inverses.now c.write.new.part l.i (omega arith) l.invariant.1 (rw inverse at c.write.ensures) in
    (ap length filled ∙ length-filled block 7 (λ i. refl) a.inverses.now (l.i + 1) (omega arith), filled)

pub returns : goal.returns
unfolding inverses_of
returns c =
    let a = c.args in
    let all : c.loop-i.i ≡ length a.poses.now / 7 = omega arith in
    c.loop-i.invariant.1 ∙ ap (λ (n : ℕ). gather n (inverse_block a.poses.now) ++ drop (7 * n) a.inverses.now) all
