-- One call of the library, by documents 01 and 02: the checks before all else, the command at the offset, the reply, and everything that then stands in the record, the buffer and both answers.
-- Rests on the commands of `Command` and on one of them obeyed, in `Obeyed` of `session_commands`.
use Rattle.std.specs.Prelude.{ℕ, ◌+◌, ◌≡◌, Bool, not, ◌||◌, cond, List, [], ◌∷◌, length, eqb, ltb, Float, Option, None, Some, Err, Ok}
use Rattle.refusal.specs.Table.{refuse_if, first_of}
use Rattle.refusal.specs.declared.Refusal.{Refusal}
use Rattle.refusal.specs.declared.Refusal.TheVariants.{WrongLength, UnknownCommand, Truncated, TooLong}
use Rattle.command.specs.Command.{Parsed, complete, broken, unknown, parse}
use Rattle.session_record.specs.Session.{buffer_length, possible}
use Rattle.session.specs.declared.Step.{Step}
use Rattle.session_commands.specs.Obeyed.{first_length, second_length, State, Result, result, obeyed}
use Rattle.session_commands.specs.declared.Done.TheVariants.{End}

-- "a stream longer than 65,536 bytes"
abbrev pub max_stream : ℕ
max_stream = 65536

-- 5: "an answer is too short, the session buffer's length is wrong, or a session record handed in has sizes, a reference or mask bits
-- that no accepted commands could leave", and "A session record handed in with a false entry is 5".
abbrev pub unusable : State → Bool
unusable t =
    not (eqb (length t.buffer) buffer_length)
    || ltb (length t.first) first_length
    || ltb (length t.second) second_length
    || not (possible t.session)

-- "Each call checks 13, then 5, before all else"; an offset past the end "gives 11, detail the length".
unfoldable pub call_refusal : State → List ℕ → ℕ → Option Refusal
unfolding refuse_if first_of possible
call_refusal t stream at =
    first_of
    (refuse_if (ltb max_stream (length stream)) TooLong
    ∷ refuse_if (unusable t) WrongLength
    ∷ refuse_if (ltb (length stream) at) (Truncated (length stream))
    ∷ [])

-- A refusal that ends the stream: "the next offset is then its length".
abbrev pub stopped : State → List ℕ → Refusal → Result
stopped t stream r = result (Err r) t (length stream)

-- ---- one call

-- What stands at an offset before the end: 10, 11, or the command.
unfoldable pub read : State → List ℕ → ℕ → Parsed → Result
unfolding obeyed
read t stream at (complete command width) = obeyed t command (at + width)
read t stream at broken = stopped t stream (Truncated at)
read t stream at (unknown byte) = stopped t stream (UnknownCommand byte)

unfoldable pub call : State → List ℕ → ℕ → Result
unfolding call_refusal parse read
call t stream at =
    elim (call_refusal t stream at) [
      | Some r ↦ stopped t stream r
      | None ↦ cond (eqb at (length stream)) (result (Ok End) t at) (read t stream at (parse stream at))
    ]

-- What the code's answer, and the memory lent to it, are after the call.
pub record Called (t : State) (stream : List ℕ) (at : ℕ) (step : Step) (buffer : List Float) (first : List Float) (second : List ℕ) : Type 0 where
  pub reply : step.reply ≡ (call t stream at).reply
  pub next : step.next ≡ (call t stream at).next
  pub session : step.session ≡ (call t stream at).after.session
  pub buffer_after_is : buffer ≡ (call t stream at).after.buffer
  pub first_after_is : first ≡ (call t stream at).after.first
  pub second_after_is : second ≡ (call t stream at).after.second
