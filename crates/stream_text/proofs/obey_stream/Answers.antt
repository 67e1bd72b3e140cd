-- `stream_text::obey_stream` meets its contract: text that is too short, what is refused before all else, or the commands one after the other. Assumes nothing.
use Prim.Native.Nat.{◌<◌}
use native.Mathlib.Omega.{arith}
use mathlib.Core.Path.{refl, sym, ap, ◌∙◌}
use borrow.Author.Rules.{rules}
use lib.ListN.{length}
use Rattle.std.specs.Prelude.{Err, Ok}
use Rattle.inputs.specs.Inputs.{checked_of}
use Rattle.inputs.proofs.Answering.{checked_of-refused, checked_of_passed}
use Rattle.session_commands.specs.Lent.{state_in}
use Rattle.listing.specs.Listing.{listing_bytes}
use Rattle.listing.proofs.Writing.{front-nothing, puts_front}
use Rattle.stream_text.proofs.Parts.{text_refusal-short, text_refusal-holds, part_in-short, part_in-refused, part_in_passes, leaves_of, leaves_same, leaves_lent, front-refusal}
use Rattle.stream_text.proofs.obey_stream.Goals as goal

pub returns-then-text-lt-LISTING_BYTES-clause-obeyed : goal.returns-then-text-lt-LISTING_BYTES-clause-obeyed
unfolding checked_of
returns-then-text-lt-LISTING_BYTES-clause-obeyed c =
    let a = c.args in
    let t = state_in a.session a.buffer.now a.answers.now in
    let short : length a.text.now < listing_bytes = omega (arith, c.if-text-lt-LISTING_BYTES.true) in
    record {
      refused = ap Err c.wrong_length.ensures ∙ sym (ap checked_of (text_refusal-short t a.stream.now a.at (length a.text.now) short));
      leaves = leaves_of (sym (part_in-short t a.stream.now a.at (length a.text.now) short)) refl _ (front-nothing a.text.now);
    }

pub returns-in-Err-clause-obeyed : goal.returns-in-Err-clause-obeyed
unfolding checked_of
returns-in-Err-clause-obeyed c =
    let a = c.args in
    let t = state_in a.session a.buffer.now a.answers.now in
    let holds = c.if-text-lt-LISTING_BYTES.false in
    let refused = checked_of-refused _ _ (sym (rw (c.given.ensures.transforms, c.given.ensures.chains) at c.check_call.ensures) ∙ c.in-Err.is) in
    record {
      refused = sym (ap checked_of (text_refusal-holds t a.stream.now a.at (length a.text.now) holds));
      leaves =
          leaves_lent c.new-writer.ensures.same_bytes (search rules)
          (leaves_of (sym (part_in-refused t a.stream.now a.at _ (search rules) _ refused)) refl (Ok tt)
          (front-refusal _ c.new-writer.ensures.unused (search rules) (puts_front c.write_refusal.ensures c.new-writer.ensures.unused)));
    }

pub obey_commands-requires : goal.obey_commands-requires
obey_commands-requires c = checked_of_passed _ (sym (rw (c.given.ensures.transforms, c.given.ensures.chains) at c.check_call.ensures) ∙ c.in_default.is)

pub returns-clause-obeyed : goal.returns-clause-obeyed
unfolding checked_of
returns-clause-obeyed c =
    let a = c.args in
    let t = state_in a.session a.buffer.now a.answers.now in
    let holds = c.if-text-lt-LISTING_BYTES.false in
    let passed = checked_of_passed _ (sym (rw (c.given.ensures.transforms, c.given.ensures.chains) at c.check_call.ensures) ∙ c.in_default.is) in
    record {
      refused = c.obey_commands.ensures.passed ∙ sym (ap checked_of (text_refusal-holds t a.stream.now a.at (length a.text.now) holds));
      leaves = leaves_same (sym (part_in_passes t a.stream.now a.at (length a.text.now) holds passed)) c.obey_commands.ensures.leaves;
    }
