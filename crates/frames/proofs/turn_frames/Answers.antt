-- `turn_frames` meets its contract: what the import of the frames says, with an answer of their own length lent. Assumes nothing.
use mathlib.Core.Path.{sym}
use borrow.Author.Rules.{rules}
use Rattle.frames.proofs.Telling.{told-refused, told-commands}
use Rattle.frames.proofs.turn_frames.Goals as goal

pub returns-in-Err : goal.returns-in-Err
returns-in-Err c =
    let room = c.room_for-room in
    told-refused c.args.frames.now c.args.commands.now room.result room.ensures.0 (search rules) c.in-Err.ensures.of_bytes _ _ c.args.line.now _ _
    (sym c.in-Err.ensures.value) (search rules) (search rules)

pub returns-in-Ok : goal.returns-in-Ok
returns-in-Ok c =
    let room = c.room_for-room in
    told-commands c.args.frames.now c.args.commands.now room.result room.ensures.0 (search rules) c.in-Ok.ensures.of_bytes _ _ c.args.line.now
    (sym c.in-Ok.ensures.value) c.in-Ok.ensures.commands_after c.import_frames.auto.commands
