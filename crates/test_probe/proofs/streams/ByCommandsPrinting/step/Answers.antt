-- A step by one command counts what it prints. Assumes nothing.
use Rattle.session_commands.specs.Lent.{state_in}
use Rattle.test_probe.proofs.Counting.{took_command}
use Rattle.test_probe.proofs.streams.ByCommandsPrinting.step.Goals as goal

pub returns : goal.returns
returns c =
    let memory = c.args.memory.now in
    took_command {t = state_in c.args.session.now memory.buffer.now memory.answers} c.obey-step.ensures.called (rw (c.given.ensures.transforms, c.given.ensures.chains) at c.write_reply.ensures.put) c.from.ensures c.make_room.ensures.room
