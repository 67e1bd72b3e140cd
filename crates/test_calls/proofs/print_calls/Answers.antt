-- `print_calls` meets its contract: each turn leaves to come what its call does. Assumes nothing.
use Rattle.std.proofs.Common.{[], ◌∷◌, refl, ◌∙◌, arith, of_calls}
use Rattle.session_commands.specs.Obeyed.{State}
use Rattle.session_commands.specs.Lent.{state_in}
use Rattle.test_calls.specs.Calls.{last_call, one_more}
use Rattle.test_calls.proofs.Turns.{round_of_call, call_leaves, call_ends}
use Rattle.test_calls.proofs.print_calls.Goals as goal

pub loop-begin-smaller : goal.loop-begin-smaller
loop-begin-smaller g c =
    let l = c.loop-begin in
    let round = round_of_call {t = state_in l.session l.buffer l.answers} c.obey-step.ensures.called in
    omega (arith, round.advances c.if-stream-at.false)

pub loop-begin-preserved : goal.loop-begin-preserved
loop-begin-preserved g c =
    let l = c.loop-begin in
    let now : State = state_in l.session l.buffer l.answers in
    let called = c.obey-step.ensures.called in
    let inside = c.if-stream-at.false in
    let told = rw c.in_ok-begin.was at c.begin.ensures in (
      search of_calls,
      λ after (steps, last, later, calls). l.invariant.1 after (c.obey-step.result ∷ steps, last, (c.begin.new.self, told, later), one_more {t = now} called inside calls),
      call_leaves {t = now} called inside ∙ l.invariant.2,
    )

pub returns-then-stream-at : goal.returns-then-stream-at
returns-then-stream-at g c =
    let l = c.loop-begin in
    let now : State = state_in l.session l.buffer l.answers in
    let called = c.obey-step.ensures.called in
    let past = c.if-stream-at.true in
    let told = rw c.in_ok-begin.was at c.begin.ensures in
    record {
      left = call_ends {t = now} called past ∙ l.invariant.2;
      told = l.invariant.1 _ (c.obey-step.result ∷ [], c.begin.new.self, (c.begin.new.self, told, refl), last_call {t = now} called past);
    }
