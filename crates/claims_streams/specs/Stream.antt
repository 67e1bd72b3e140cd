-- What a whole stream answers, by document 01, "A stream arrives", told without calls: which commands it holds and how it ends, what
-- commands answer one after the other, and both together. Then the calls one after the other, which are proved to give the same.
-- Rests on the commands of `Command` and how a stream of them ends in `Framing`, what they do in `Commands`, and one call in `Call`.
use Rattle.std.specs.Prelude.{ℕ, zero, suc, ◌+◌, ◌-◌, ◌≤◌, ◌<◌, ◌≡◌, Bool, true, false, ◌||◌, List, [], ◌∷◌, ◌++◌, length, take, drop, T, eqb, ltb}
use Rattle.std.specs.Prelude.{Option, None, Some}
use Rattle.refusal.specs.Table.{number_of, refuse_if, first_of}
use Rattle.refusal.specs.declared.Refusal.{Refusal}
use Rattle.refusal.specs.declared.Refusal.TheVariants.{WrongLength, UnknownCommand, Truncated, TooLong}
use Rattle.command.specs.Framing.{Ending, clean, unknown_byte, broken_at}
use Rattle.command.specs.Command.{Command, complete, broken, unknown, parse}
use Rattle.session_record.specs.Session.{held_of, buffer_length, possible}
use Rattle.session_commands.specs.Commands.{command_refusal}
use Rattle.session_commands.specs.Obeyed.{first_length, second_length, State, reply_to, state_after}
use Rattle.session.specs.Call.{unusable, max_stream, call}
use Rattle.session_commands.specs.Reply.{Reply}
use Rattle.std.specs.Prelude.{Err, Ok}
use Rattle.session_commands.specs.declared.Done.TheVariants.{Accepted, End, Solved}

-- ---- the commands that a stream holds

pub record Contents : Type 0 where
  pub commands : List Command
  pub ending : Ending

abbrev pub contents : List Command → Ending → Contents
contents l e = record { commands = l; ending = e }

-- What a stream holds from an offset on. At most so many commands are read: each takes a byte or more, so that the stream's length is
-- enough.
unfoldable pub contents_from : ℕ → List ℕ → ℕ → Contents
contents_from zero stream at = contents [] clean
contents_from (suc most) stream at =
    elim (eqb at (length stream)) [
      | true ↦ contents [] clean
      | false ↦ elim (parse stream at) [
        | complete command width ↦
            let later = contents_from most stream (at + width) in
            contents (command ∷ later.commands) later.ending
        | broken ↦ contents [] (broken_at at)
        | unknown byte ↦ contents [] (unknown_byte byte)
      ]
    ]

abbrev pub rest_of : List ℕ → ℕ → Contents
rest_of stream at = contents_from (length stream) stream at

unfoldable pub contents_of : List ℕ → Contents
contents_of stream = rest_of stream 0

-- From one offset to another a stream holds these commands, one after the other.
pub data Reads (stream : List ℕ) : ℕ → List Command → ℕ → Type 0 where
  nothing : {at : ℕ} → Reads stream at [] at
  one_more : {at width to : ℕ} {command : Command} {later : List Command} → parse stream at ≡ complete command width
      → Reads stream (at + width) later to → Reads stream at (command ∷ later) to

-- What stands at the offset where the commands end.
abbrev pub EndsAt : List ℕ → ℕ → Ending → Type 0
EndsAt stream at clean = at ≡ length stream
EndsAt stream at (unknown_byte byte) = (at < length stream) × (parse stream at ≡ unknown byte)
EndsAt stream at (broken_at offset) = (at < length stream) × (parse stream at ≡ broken) × (offset ≡ at)

-- The stream without so many bytes from an offset on.
abbrev pub struck : List ℕ → ℕ → ℕ → List ℕ
struck stream at width = take at stream ++ drop (at + width) stream

-- The ending with so many bytes fewer before it: the offset that 11 names is the one number that counts them.
unfoldable pub earlier : ℕ → Ending → Ending
earlier width clean = clean
earlier width (unknown_byte byte) = unknown_byte byte
earlier width (broken_at at) = broken_at (at - width)

-- ---- what commands answer, one after the other

-- A reply, and everything that then stands in the record, the buffer and both answers.
pub record Answer : Type 0 where
  pub reply : Reply
  pub after : State

abbrev pub answer : Reply → State → Answer
answer r t = record { reply = r; after = t }

-- "A refused command changes neither session nor buffer".
unfoldable pub answer_to : State → Command → Answer
answer_to t command =
    elim (command_refusal (held_of t.session) t.buffer command) [ Some r ↦ answer (Err r) t | None ↦ answer (reply_to command) (state_after t command) ]

unfoldable pub answers : State → List Command → List Answer
answers t [] = []
answers t (command ∷ later) = answer_to t command ∷ answers (answer_to t command).after later

unfoldable pub state_after_all : State → List Command → State
state_after_all t [] = t
state_after_all t (command ∷ later) = state_after_all (answer_to t command).after later

-- What stands after the last of the answers.
unfoldable pub last_state : State → List Answer → State
last_state t [] = t
last_state t (a ∷ later) = last_state a.after later

-- ---- what a stream answers

-- What a state is that 5 does not turn away, as plain facts.
pub record Usable (t : State) : Type 0 where
  pub buffer_fits : length t.buffer ≡ buffer_length
  pub first_fits : first_length ≤ length t.first
  pub second_fits : second_length ≤ length t.second
  pub record_possible : T (possible t.session)

-- "13, then 5, before all else"
unfoldable pub stream_refusal : State → List ℕ → Option Refusal
stream_refusal t stream = first_of (refuse_if (ltb max_stream (length stream)) TooLong ∷ refuse_if (unusable t) WrongLength ∷ [])

unfoldable pub ending_reply : Ending → Reply
ending_reply clean = Ok End
ending_reply (unknown_byte byte) = Err (UnknownCommand byte)
ending_reply (broken_at at) = Err (Truncated at)

-- The answers to the commands, then how the stream ends; that changes nothing.
unfoldable pub answers_of : State → Contents → List Answer
answers_of t held = answers t held.commands ++ (answer (ending_reply held.ending) (state_after_all t held.commands) ∷ [])

unfoldable pub meaning : State → List ℕ → List Answer
meaning t stream = elim (stream_refusal t stream) [ Some r ↦ answer (Err r) t ∷ [] | None ↦ answers_of t (contents_of stream) ]

-- ---- the calls, one after the other

-- "5, 10, 11 and 13 end the stream"; and "an offset equal to the length is the end".
unfoldable pub ends_stream : Reply → Bool
ends_stream (Ok End) = true
ends_stream (Ok Accepted) = false
ends_stream (Ok Solved) = false
ends_stream (Err r) = eqb (number_of r) 5 || eqb (number_of r) 10 || eqb (number_of r) 11 || eqb (number_of r) 13

-- A call at an offset, the next where that one told that the next command begins, and so on until a reply ends the stream; at most so
-- many calls.
unfoldable pub calls_from : ℕ → State → List ℕ → ℕ → List Answer
calls_from zero t stream at = []
calls_from (suc most) t stream at =
    let r = call t stream at in
    elim (ends_stream r.reply) [
      | true ↦ answer r.reply r.after ∷ []
      | false ↦ answer r.reply r.after ∷ calls_from most r.after stream r.next
    ]

-- One call for each byte, and one for the end, are enough.
unfoldable pub calls : State → List ℕ → List Answer
calls t stream = calls_from (suc (length stream)) t stream 0
