-- What stands in the memory that a session is lent: the buffer, and the two answers. Rests on the state of `Obeyed`.
use Rattle.std.specs.Prelude.{List, Float}
use Rattle.placing.specs.declared.answer.LentAnswers.{LentAnswers}
use Rattle.session_record.specs.declared.Session.{Session}
use Rattle.session_commands.specs.Obeyed.{State, state}

-- A session with the memory that it is lent.
abbrev pub state_in : Session → List Float → LentAnswers → State
state_in s buffer answers = state s buffer answers.transforms.now answers.chains.now
