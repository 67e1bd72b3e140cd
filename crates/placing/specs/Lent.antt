-- Whose memory the lent answers are. Assumes nothing.
use Rattle.std.specs.Prelude.{◌≡◌}
use Rattle.placing.specs.declared.answer.LentAnswers.{LentAnswers}

-- After a call the answers are still what the caller lent.
pub record SameAnswers (before after : LentAnswers) : Type 0 where
  pub same_transforms : after.transforms.ghost_name ≡ before.transforms.ghost_name
  pub same_chains : after.chains.ghost_name ≡ before.chains.ghost_name
