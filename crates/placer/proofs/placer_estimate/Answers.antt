-- `placer_estimate` meets its contract: what the direct call answers, its outcome as a code. Assumes nothing.
use native.Mathlib.Omega.{arith}
use mathlib.Core.Path.{◌≡◌}
use borrow.Author.Rules.{rules}
use Rattle.std.proofs.lemmas.Grind.{common_steps}
use Rattle.placer.specs.Code.{code_of_outcome, code_of_shared}
use Rattle.placer.proofs.Replies.{estimated}
use Rattle.placer.proofs.placer_estimate.Goals as goal

pub returns : goal.returns
unfolding code_of_outcome code_of_shared
returns c =
    let solved = c.estimate_extrinsics_from_cam_target_poses-solved in
    let coded : c.answer_code.result ≡ code_of_outcome solved.result = grind (arith, common_steps) in
    estimated _ _ _ _ _ _ solved.ensures.answered coded (search rules) (search rules)
