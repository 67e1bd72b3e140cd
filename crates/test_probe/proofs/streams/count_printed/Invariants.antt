-- What was counted and what is still to come make up the whole, in 64 bits; the measure is how much of the stream is left. Assumes nothing.
use Rattle.std.proofs.Common.{◌≡◌, ◌+◌, ◌-◌, ◌%◌, ◌^◌, length}
use Rattle.session_record.specs.Session.{fresh}
use Rattle.session_commands.specs.Lent.{state_in}
use Rattle.test_probe.specs.Streams.{printed_bytes, bytes_from}
use Rattle.test_probe.proofs.streams.count_printed.Given as goal

abbrev pub invariant-loop-at : goal.invariant-loop-at
invariant-loop-at g l =
    (l.count + bytes_from (state_in l.session l.memory.buffer.now l.memory.answers) l.stream l.at) % 2 ^ 64
    ≡ printed_bytes (state_in fresh l.initial.memory.buffer.now l.initial.memory.answers) l.stream

abbrev pub decreases-loop-at : goal.decreases-loop-at
decreases-loop-at g l = length l.stream - l.at
