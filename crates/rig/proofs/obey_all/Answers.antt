-- `obey_all` meets its contract: each turn leaves what its call of the whole-stream entry leaves to come. Assumes nothing.
use native.Mathlib.Omega.{arith}
use mathlib.Core.Path.{ap, subst}
use mathlib.Core.List.{◌++◌}
use lib.ListN.{length, take, length-append}
use borrow.Author.Rules.{rules}
use Rattle.std.specs.Io.KnownBytes.{Appends}
use Rattle.std.proofs.KnownBytes.{Appends-trans}
use Rattle.session_commands.specs.Lent.{state_in}
use Rattle.session_record.specs.declared.Session.{Session}
use Rattle.claims_printing.proofs.Loop.{round_of}
use Rattle.rig.proofs.Rounds.{turn_comes, turn_ends}
use Rattle.rig.proofs.obey_all.Goals as goal

pub loop-written-smaller : goal.loop-written-smaller
loop-written-smaller g c =
    let l = c.loop-written in
    let round = round_of {t = state_in l.session l.buffer l.answers} (omega (arith, l.invariant.1)) c.obey_stream-part.ensures.obeyed in
    omega (arith, round.advances c.if-stream-at.false)

pub loop-written-preserved : goal.loop-written-preserved
loop-written-preserved g c =
    let l = c.loop-written in
    let (done, many, before, comes) = l.invariant.2 in
    let put = take c.obey_stream-part.result.length c.obey_stream-part.new.text in
    let first = state_in c.fresh-session.result c.args.buffer.now c.args.answers.now in (
      search rules,
      search rules,
      (
        done ++ put,
        omega (arith, c.in_ok-written.ensures.whole, length-append done put),
        Appends-trans _ _ _ _ _ before c.in_ok-written.ensures.bytes,
        turn_comes {now = state_in l.session l.buffer l.answers} l.invariant.1 c.obey_stream-part.ensures.obeyed first done (search rules) c.if-stream-at.false comes,
      ),
    )

pub returns-then-stream-at : goal.returns-then-stream-at
returns-then-stream-at g c =
    let l = c.loop-written in
    let (done, many, before, comes) = l.invariant.2 in
    let put = take c.obey_stream-part.result.length c.obey_stream-part.new.text in
    let same = ap (λ (s : Session). state_in s c.args.buffer.now c.args.answers.now) c.fresh-session.ensures in
    let ends = turn_ends {now = state_in l.session l.buffer l.answers} l.invariant.1 c.obey_stream-part.ensures.obeyed same done c.if-stream-at.true comes in
    record {
      obeyed = record { left = ends.0; bytes_written = omega (arith, c.in_ok-written.ensures.whole, length-append done put, ap length ends.1) };
      printed = subst (Appends _ _) ends.1 (Appends-trans _ _ _ _ _ before c.in_ok-written.ensures.bytes);
      same = search rules;
    }
