-- What a call of `session` answers: what was done, or what is refused; and what an edit comes to.
use Rattle.std.specs.Prelude.{Result}
use Rattle.refusal.specs.declared.Refusal.{Refusal}
use Rattle.session_commands.specs.declared.Done.{Done}

abbrev pub Reply : Type 0
Reply = Result Done Refusal

-- Whether an edit was obeyed, or what is refused: what is held is changed where it stands.
abbrev pub Edited : Type 0
Edited = Result (Unit {0}) Refusal
