-- What stands for the input is told what the input is, all of it or a front; the output that gets nothing stays as it was. Assumes nothing.
use Rattle.frames.proofs.Turning.{turned_commands, turned_line, untold_commands, untold_line}
use Rattle.frames.proofs.turn_input.Goals as goal

pub returns-in-Ok-write_whole-clause-turned : goal.returns-in-Ok-write_whole-clause-turned
returns-in-Ok-write_whole-clause-turned g c =
    let turn = c.turn_frames in
    let put = c.in-Ok-turn_frames in
    turned_commands turn.result put.put c.in-Ok.ensures.taken.1 turn.ensures put.is c.in-Ok-write_whole.ensures.bytes _

pub returns-in-Ok-write_whole-2-clause-turned : goal.returns-in-Ok-write_whole-2-clause-turned
returns-in-Ok-write_whole-2-clause-turned g c =
    let turn = c.turn_frames in
    let told = c.in-Err-turn_frames in
    turned_line turn.result told.told c.in-Ok.ensures.taken.1 turn.ensures told.is c.in-Ok-write_whole-2.ensures.bytes _

pub returns-in-Err-write_whole-clause-failed : goal.returns-in-Err-write_whole-clause-failed
returns-in-Err-write_whole-clause-failed g c =
    let turn = c.turn_frames in
    let put = c.in-Ok-turn_frames in
    let failed = c.in-Err-write_whole in
    untold_commands turn.result put.put c.in-Ok.ensures.taken.1 turn.ensures _ _ _ failed.ensures.front.0 failed.error failed.ensures.failed put.is failed.ensures.front.1

pub returns-in-Err-write_whole-2-clause-failed : goal.returns-in-Err-write_whole-2-clause-failed
returns-in-Err-write_whole-2-clause-failed g c =
    let turn = c.turn_frames in
    let told = c.in-Err-turn_frames in
    let failed = c.in-Err-write_whole-2 in
    untold_line turn.result told.told c.in-Ok.ensures.taken.1 turn.ensures _ _ _ failed.ensures.front.0 failed.error failed.ensures.failed told.is failed.ensures.front.1
