-- A pose taken back, by document 02, change 1, in words over the bytes of the stream: "An accepted Pose and its withdrawal as the next command leave the
-- session record as it was before the two, and the same commands from there on answer alike." Rests on the words of `CallDemand1`, what is alike in `Alike`,
-- one call in `Call` and whole streams in `Stream`.
use Rattle.std.specs.Prelude.{ℕ, ◌+◌, ◌≤◌, ◌<◌, ◌≡◌, ◌⊎◌, List, length, get_or}
use Rattle.std.specs.Float.{nan}
use Rattle.command.specs.Command.{pose_byte, withdraw_byte, withdraw_width}
use Rattle.session_commands.specs.Obeyed.{State, Result}
use Rattle.session.specs.Call.{max_stream}
use Rattle.claims_streams.specs.Stream.{meaning}
use Rattle.claims_streams.specs.CallDemand1.{Begins, operand, named_start}
use Rattle.claims_streams.specs.Alike.{Alike, AnswersAlike, Asked, EachAlike}
use Rattle.std.specs.Prelude.{Ok}
use Rattle.session_commands.specs.declared.Done.TheVariants.{Accepted}

-- A Pose stands at an offset of one stream, and the whole withdrawal of its cell at an offset of another, or of the same.
pub record PoseThenWithdrawal (stream : List ℕ) (at : ℕ) (stream' : List ℕ) (at' : ℕ) : Type 0 where
  pub pose_here : Begins stream at pose_byte
  pub withdrawal_there : Begins stream' at' withdraw_byte
  pub same_view : operand stream' at' 1 ≡ operand stream at 1
  pub same_camera : operand stream' at' 2 ≡ operand stream at 2
  pub whole : at' + withdraw_width ≤ length stream'
  pub not_too_long : length stream' ≤ max_stream

-- What the withdrawal comes to as the next command: t is the state before the Pose, which stands at `at` of the stream, and r the call that obeyed the
-- withdrawal at `at'`, in the state that the Pose left.
pub record TakenBack (t : State) (stream : List ℕ) (at at' : ℕ) (r : Result) : Type 0 where
  pub accepted : r.reply ≡ Ok Accepted
  pub reads_on : r.next ≡ at' + withdraw_width
  -- "leave the session record as it was before the two"
  pub same_record : r.after.session ≡ t.session
  -- Of the buffer, the seven floats of the cell alone may differ.
  pub other_floats : (i : ℕ) → (i < named_start stream at) ⊎ (named_start stream at + 7 ≤ i) → get_or r.after.buffer i nan ≡ get_or t.buffer i nan
  pub alike : Alike t r.after
  -- "the same commands from there on answer alike": call after call, whatever their streams and offsets, and every whole stream.
  pub calls_alike : (all : List Asked) → EachAlike t.buffer r.after.buffer t r.after all
  pub streams_alike : (later : List ℕ) → AnswersAlike t.buffer r.after.buffer (meaning t later) (meaning r.after later)
