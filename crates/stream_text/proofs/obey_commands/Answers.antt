-- `stream_text::obey_commands` meets its contract. Assumes nothing.
use native.Mathlib.Omega.{arith}
use mathlib.Core.Path.{sym, ap, ◌∙◌}
use mathlib.Core.List.{List}
use Prim.Native.Nat.{ℕ, ◌-◌, ◌<◌, ◌≤◌}
use borrow.Author.Rules.{rules}
use Rattle.std.proofs.Common.{inl, inr, ◌⊎◌}
use Rattle.std.specs.Prelude.{Ok}
use lib.ListN.{length}
use Rattle.session_record.specs.Session.{session_of}
use Rattle.session_record.specs.declared.Held.{Held}
use Rattle.session_commands.specs.Lent.{state_in}
use Rattle.listing.specs.Listing.{listing_bytes}
use Rattle.listing.proofs.Writing.{put_front}
use Rattle.stream_text.specs.StreamText.{part_within}
use Rattle.stream_text.proofs.Parts.{test_goes_on, test_stops, going_length, going_step, going_advances, going_ends, leaves_of, leaves_lent}
use Rattle.stream_text.proofs.obey_commands.Goals as goal

pub loop-at-preserved : goal.loop-at-preserved
loop-at-preserved c =
    let l = c.loop-at in
    let (left, holds) = test_goes_on l.at (length c.args.stream.now) c.room.result c.loop-at-test.true in (
      going_step l.invariant.0 left (omega (arith, holds, c.room.ensures)) _ _ _ _ _ _ _ c.obey_command-turn.ensures.obeyed (rw (c.given.ensures.transforms, c.given.ensures.chains) at c.write_reply.ensures.put),
      search rules,
      search rules,
    )

pub loop-at-smaller : goal.loop-at-smaller
loop-at-smaller c =
    let l = c.loop-at in
    let left = (test_goes_on l.at (length c.args.stream.now) c.room.result c.loop-at-test.true).0 in
    omega (arith, left, going_advances l.invariant.0 left _ _ _ _ _ c.obey_command-turn.ensures.obeyed)

pub returns-clause-leaves : goal.returns-clause-leaves
returns-clause-leaves c =
    let l = c.loop-at in
    let a = c.args in
    let old = c.new-writer.result.bytes.now in
    let g = l.invariant.0 in
    let stops : (length a.stream.now ≤ l.at) ⊎ (length old - l.writer.used < listing_bytes) = elim (test_stops l.at (length a.stream.now) c.room.result c.loop-at-test.false) [
      | inl e ↦ inl e
      | inr e ↦ inr (omega (arith, e, c.room.ensures, going_length g))
    ] in
    let same = ap
    (λ (x : Held). part_within (length a.stream.now) (state_in (session_of x a.session.shared) a.buffer.now a.answers.now) a.stream.now a.at (length old))
    c.from-held.ensures
    ∙ ap (λ (text : List ℕ). part_within (length a.stream.now) (state_in a.session a.buffer.now a.answers.now) a.stream.now a.at (length text)) c.new-writer.ensures.same_bytes in
    leaves_lent c.new-writer.ensures.same_bytes (search rules) (leaves_of (sym (going_ends g stops) ∙ same) c.with_summary.ensures (Ok tt) (put_front g.put))
