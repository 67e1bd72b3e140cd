-- The direct call meets its contract: a refused input by `direct-refused`, any other by the estimate on the grid of its masks, `direct-answers`. Assumes nothing.
use mathlib.Core.Path.{sym}
use Rattle.std.proofs.lemmas.Result.{err_from_is_err_and}
use lib.ListN.{length}
use Rattle.inputs.proofs.Answering.{checked_of-refused, checked_of_passed}
use Rattle.extrinsics.proofs.DirectCall.{input_sizes, input_lengths, direct-refused, direct_fitting, direct-answers}
use Rattle.extrinsics.proofs.estimate_extrinsics_from_cam_target_poses.Goals as goal

pub returns-in_err-check_input-clause-answered : goal.returns-in_err-check_input-clause-answered
returns-in_err-check_input-clause-answered c =
    let a = c.args in
    let p = err_from_is_err_and c.from_residual.result c.from_residual.ensures.1 in
    rw (p.1, p.2)
    (direct-refused a.counts.now a.marks.now a.floats.now a.reference a.answers.now.transforms.now a.answers.now.chains.now _
    (checked_of-refused _ _ (sym c.in_err-check_input.ensures)))

pub invariant_of-marked : goal.invariant_of-marked
invariant_of-marked c =
    let a = c.args in
    let passed = checked_of_passed _ (sym c.in_ok-check_input.ensures) in
    let sizes = input_sizes a.counts.now a.marks.now (length a.floats.now) a.reference (length a.answers.now.transforms.now) (length a.answers.now.chains.now) passed in
    let lengths = input_lengths a.counts.now a.marks.now (length a.floats.now) a.reference (length a.answers.now.transforms.now) (length a.answers.now.chains.now) passed in
    record { whole = rw c.camera_count-cameras.ensures (sizes.views_fit, sizes.cameras_fit, lengths.marks_fit) }

pub invariant_of-solve : goal.invariant_of-solve
invariant_of-solve c =
    let a = c.args in
    record {
      fits =
          direct_fitting a.counts.now a.marks.now a.floats.now a.reference a.answers.now.transforms.now a.answers.now.chains.now
          c.masks.result c.camera_count-cameras.result c.camera_count-cameras.ensures c.masks.ensures
          (checked_of_passed _ (sym c.in_ok-check_input.ensures));
    }

pub solve-requires : goal.solve-requires
solve-requires c =
    let a = c.args in
    let passed = checked_of_passed _ (sym c.in_ok-check_input.ensures) in
    let lengths = input_lengths a.counts.now a.marks.now (length a.floats.now) a.reference (length a.answers.now.transforms.now) (length a.answers.now.chains.now) passed in
    rw c.camera_count-cameras.ensures (lengths.first_fits, lengths.second_fits)

pub returns-clause-answered : goal.returns-clause-answered
returns-clause-answered c =
    let a = c.args in
    direct-answers a.counts.now a.marks.now a.floats.now a.reference a.answers.now.transforms.now a.answers.now.chains.now
    c.masks.result c.camera_count-cameras.result c.camera_count-cameras.ensures c.masks.ensures
    (checked_of_passed _ (sym c.in_ok-check_input.ensures))
    _ _ _ c.solve.ensures.answered
