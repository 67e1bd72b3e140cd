-- The session without the summary, as document 01 and change 1 of document 02 have it: the same commands on what is held alone, and of the record the check
-- for 5 looks at sizes, reference and mask bits alone. "Answers don't change": that the summary decides nothing is what a comparison with this says; that the
-- commands themselves do what the papers say is said by `CallDemand1` and by rows, since both sessions share what a command refuses and leaves of what is held.
-- Rests on the commands of `Commands`, by what they hold.
use Rattle.std.specs.Prelude.{ℕ, zero, suc, ◌+◌, true, false, not, ◌||◌, cond, List, [], ◌∷◌, ◌++◌, length, eqb, ltb, Float}
use Rattle.std.specs.Prelude.{Option, None, Some}
use Rattle.refusal.specs.Table.{refuse_if, first_of}
use Rattle.refusal.specs.declared.Refusal.{Refusal}
use Rattle.refusal.specs.declared.Refusal.TheVariants.{WrongLength, UnknownCommand, Truncated, TooLong}
use Rattle.command.specs.Command.{Command, edit, solve, Parsed, complete, broken, unknown, parse}
use Rattle.session_record.specs.Session.{held_of, buffer_length, possible_held}
use Rattle.session_record.specs.declared.Held.{Held}
use Rattle.session_commands.specs.Solve.{first_after_solve, second_after_solve}
use Rattle.session_commands.specs.Commands.{command_refusal, edit_held, buffer_after}
use Rattle.session_commands.specs.Obeyed.{first_length, second_length, State, Result, reply_to}
use Rattle.session.specs.Call.{max_stream}
use Rattle.session_commands.specs.Reply.{Reply}
use Rattle.listing.specs.Listing.{reply_text}
use Rattle.claims_streams.specs.Stream.{Answer, ends_stream}
use Rattle.std.specs.Prelude.{Err, Ok}
use Rattle.session_commands.specs.declared.Done.TheVariants.{End}

-- ---- what a call sees and leaves, without the summary

pub record PlainState : Type 0 where
  pub held : Held
  pub buffer : List Float
  pub first : List Float
  pub second : List ℕ

pub record PlainResult : Type 0 where
  pub reply : Reply
  pub after : PlainState
  pub next : ℕ

abbrev pub plain_result : Reply → PlainState → ℕ → PlainResult
plain_result r t n = record { reply = r; after = t; next = n }

-- A state, and what a call comes to, with the summary forgotten.
abbrev pub plain_of : State → PlainState
plain_of t = record { held = held_of t.session; buffer = t.buffer; first = t.first; second = t.second }

abbrev pub forgotten : Result → PlainResult
forgotten r = plain_result r.reply (plain_of r.after) r.next

-- ---- one call

unfoldable pub plain_refusal : PlainState → List ℕ → ℕ → Option Refusal
plain_refusal t stream at =
    first_of
    (refuse_if (ltb max_stream (length stream)) TooLong
    ∷ refuse_if
    (not (eqb (length t.buffer) buffer_length)
    || ltb (length t.first) first_length
    || ltb (length t.second) second_length
    || not (possible_held t.held))
    WrongLength
    ∷ refuse_if (ltb (length stream) at) (Truncated (length stream))
    ∷ [])

unfoldable pub plain_after : PlainState → Command → PlainState
plain_after t (edit e) = record { held = edit_held t.held e; buffer = buffer_after t.buffer (edit e); first = t.first; second = t.second }
plain_after t solve =
    record {
      held = t.held;
      buffer = t.buffer;
      first = first_after_solve t.held t.buffer t.first;
      second = second_after_solve t.held t.buffer t.second;
    }

unfoldable pub plain_read : PlainState → List ℕ → ℕ → Parsed → PlainResult
plain_read t stream at (complete command width) =
    elim (command_refusal t.held t.buffer command) [
      | Some r ↦ plain_result (Err r) t (at + width)
      | None ↦ plain_result (reply_to command) (plain_after t command) (at + width)
    ]
plain_read t stream at broken = plain_result (Err (Truncated at)) t (length stream)
plain_read t stream at (unknown byte) = plain_result (Err (UnknownCommand byte)) t (length stream)

unfoldable pub plain_call : PlainState → List ℕ → ℕ → PlainResult
plain_call t stream at =
    elim (plain_refusal t stream at) [
      | Some r ↦ plain_result (Err r) t (length stream)
      | None ↦ cond (eqb at (length stream)) (plain_result (Ok End) t at) (plain_read t stream at (parse stream at))
    ]

-- ---- a whole stream, call after call, and the lines that it prints

pub record PlainAnswer : Type 0 where
  pub reply : Reply
  pub after : PlainState

abbrev pub plain_answer : Answer → PlainAnswer
plain_answer a = record { reply = a.reply; after = plain_of a.after }

unfoldable pub plain_calls_from : ℕ → PlainState → List ℕ → ℕ → List PlainAnswer
plain_calls_from zero t stream at = []
plain_calls_from (suc most) t stream at =
    let r = plain_call t stream at in
    elim (ends_stream r.reply) [
      | true ↦ record { reply = r.reply; after = r.after } ∷ []
      | false ↦ record { reply = r.reply; after = r.after } ∷ plain_calls_from most r.after stream r.next
    ]

unfoldable pub plain_calls : PlainState → List ℕ → List PlainAnswer
plain_calls t stream = plain_calls_from (suc (length stream)) t stream 0

unfoldable pub plain_lines : List PlainAnswer → List ℕ
plain_lines [] = []
plain_lines (a ∷ later) = reply_text a.reply a.after.held a.after.first a.after.second ++ plain_lines later
