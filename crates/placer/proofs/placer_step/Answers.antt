-- `placer_step` meets its contract: words that are no record are refused, and any other are the session that the call obeys a command with; they
-- are written anew where it accepts one. Assumes nothing.
use mathlib.Core.Path.{sym, ap, ◌∙◌}
use borrow.Author.Rules.{rules}
use Rattle.placer.specs.Code.{code_of}
use Rattle.placer.proofs.Steps.{stepped_refused, stepped_obeyed}
use Rattle.placer.proofs.placer_step.Goals as goal

pub returns-in_default : goal.returns-in_default
returns-in_default c =
    stepped_refused _ _ _ _ _ _ (sym c.record_in.ensures ∙ c.in_default.is) (c.refusal_code.ensures ∙ ap code_of c.wrong_length.ensures)

pub returns : goal.returns
returns c =
    stepped_obeyed _ _ _ _ _ _ c.in-Some.record (sym c.record_in.ensures ∙ c.in-Some.is) c.obey-step.ensures.called c.keep_record.ensures c.reply_code.ensures
    (search rules) (search rules) (search rules)
