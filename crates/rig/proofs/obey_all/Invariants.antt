-- What the whole stream leaves and prints is still to come, behind what was printed (`Comes`); the measure is how much of the stream is left. Assumes nothing.
use Rattle.std.proofs.Common.{ℕ, ◌-◌, List, ◌≡◌, length}
use Rattle.std.specs.Io.KnownBytes.{Appends}
use Rattle.session_commands.specs.Lent.{state_in}
use Rattle.placing.specs.Lent.{SameAnswers}
use Rattle.rig.proofs.Rounds.{text_bytes, Comes}
use Rattle.rig.proofs.obey_all.Given as goal

abbrev pub invariant-loop-written : goal.invariant-loop-written
invariant-loop-written g l =
    SameAnswers l.initial.answers l.answers
    × (length l.text ≡ text_bytes)
    × ((done : List ℕ)
    × (l.bytes ≡ length done)
    × Appends (g.W.Write.contents l.initial.output) (g.W.Write.contents l.output) done
    × Comes (state_in l.initial.session l.initial.buffer l.initial.answers) (state_in l.session l.buffer l.answers) l.stream l.at done)

abbrev pub decreases-loop-written : goal.decreases-loop-written
decreases-loop-written g l = length l.stream - l.at
