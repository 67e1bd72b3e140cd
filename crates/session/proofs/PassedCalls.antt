-- What a call that is not refused before all else may rely on: the stream's length, the memory's lengths, the record and the offset.
-- Assumes nothing.
use Prim.Native.Nat.{ℕ, ◌≤◌}
use mathlib.Core.Path.{◌≡◌}
use mathlib.Core.Bool.{true, not, ◌||◌}
use Rattle.std.specs.Prelude.{None}
use mathlib.Core.List.{List}
use lib.ListN.{length}
use lib.Dec.{eqb, ltb}
use borrow.Author.Tests.{eqb-true, ltb-false, not-false}
use Rattle.refusal.specs.Table.{first_of}
use Rattle.refusal.specs.declared.Refusal.TheVariants.{TooLong, WrongLength, Truncated}
use Rattle.session_record.specs.Session.{buffer_length, possible}
use Rattle.session_commands.specs.Obeyed.{State, first_length, second_length}
use Rattle.session.specs.Call.{max_stream, call_refusal}
use Rattle.lists.proofs.Tests.{or-false}
use Rattle.session_record.proofs.Refusals.{test_passed}

pub record Ready (t : State) (stream : List ℕ) (at : ℕ) : Type 0 where
  pub stream_fits : length stream ≤ max_stream
  pub buffer_fits : length t.buffer ≡ buffer_length
  pub first_fits : first_length ≤ length t.first
  pub second_fits : second_length ≤ length t.second
  pub record_possible : possible t.session ≡ true
  pub at_inside : at ≤ length stream

pub call_passed : (t : State) (stream : List ℕ) (at : ℕ) → call_refusal t stream at ≡ None → Ready t stream at
unfolding call_refusal first_of
call_passed t stream at e =
    let buffer = not (eqb (length t.buffer) buffer_length) in
    let first = ltb (length t.first) first_length in
    let second = ltb (length t.second) second_length in
    let bad = not (possible t.session) in
    let long = test_passed (ltb max_stream (length stream)) TooLong _ e in
    let lengths = test_passed (buffer || first || second || bad) WrongLength _ long.1 in
    let past = test_passed (ltb (length stream) at) (Truncated (length stream)) None lengths.1 in
    let three = or-false (buffer || first || second) bad lengths.0 in
    let two = or-false (buffer || first) second three.0 in
    let one = or-false buffer first two.0 in
    record {
      stream_fits = ltb-false max_stream (length stream) long.0;
      buffer_fits = eqb-true (length t.buffer) buffer_length (not-false _ one.0);
      first_fits = ltb-false (length t.first) first_length one.1;
      second_fits = ltb-false (length t.second) second_length two.1;
      record_possible = not-false (possible t.session) three.1;
      at_inside = ltb-false (length stream) at past.0;
    }
