-- `stream_text::obey_commands` meets its contract. The loop's invariant: what was printed stands at the front of the text, and the whole part is that and
-- what is still to come (`Going`); the measure is how much of the stream is left. Assumes nothing.
use Rattle.std.proofs.Common.{◌≡◌, ◌-◌, length}
use Rattle.session_record.specs.Session.{session_of}
use Rattle.session_commands.specs.Lent.{state_in}
use Rattle.placing.specs.Lent.{SameAnswers}
use Rattle.stream_text.specs.StreamText.{part_within}
use Rattle.stream_text.proofs.Parts.{Going}
use Rattle.stream_text.proofs.obey_commands.Given as goal

abbrev pub invariant-loop-at : goal.invariant-loop-at
invariant-loop-at l =
    Going (part_within (length l.stream) (state_in (session_of l.initial.held l.initial.shared) l.initial.buffer l.initial.answers) l.stream l.fn.at (length l.initial.writer.bytes.now)) (state_in (session_of l.held l.shared) l.buffer l.answers) l.stream l.at l.writer.used l.initial.writer.bytes.now l.writer.bytes.now
    × SameAnswers l.initial.answers l.answers
    × (l.writer.bytes.ghost_name ≡ l.initial.writer.bytes.ghost_name)

abbrev pub decreases-loop-at : goal.decreases-loop-at
decreases-loop-at l = length l.stream - l.at
