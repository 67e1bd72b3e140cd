-- What the calls leave in the end is still to come; the measure is how much of the stream is left. Assumes nothing.
use Rattle.std.proofs.Common.{◌≡◌, ◌-◌, length, Ok}
use Rattle.session_commands.specs.Lent.{state_in}
use Rattle.session_commands.specs.Obeyed.{State}
use Rattle.test_calls.specs.Calls.{Told}
use Rattle.test_calls.proofs.Turns.{left_from}
use Rattle.test_calls.proofs.print_calls.Given as goal

abbrev pub invariant-loop-begin : goal.invariant-loop-begin
invariant-loop-begin g l =
    goal.F-IsAlwaysCallable g l.begin
    × ((after : State) → Told (λ f step f'. goal.F-step g f step (Ok tt) f') l.begin l.stream (state_in l.session l.buffer l.answers) l.at after
    → Told (λ f step f'. goal.F-step g f step (Ok tt) f') l.initial.begin l.stream (state_in l.initial.session l.initial.buffer l.initial.answers) l.initial.at after)
    × (left_from (state_in l.session l.buffer l.answers) l.stream l.at ≡ left_from (state_in l.initial.session l.initial.buffer l.initial.answers) l.stream l.initial.at)

abbrev pub decreases-loop-begin : goal.decreases-loop-begin
decreases-loop-begin g l = length l.stream - l.at
