-- `print_stream` meets its contract: what its check refuses, or the count. Assumes nothing.
use Rattle.test_probe.proofs.Replies.{printed_refused}
use Rattle.test_probe.proofs.print_stream.Goals as goal

pub returns-in-Err : goal.returns-in-Err
returns-in-Err g c = printed_refused c.check_text.ensures c.in-Err.is c.refusal_code.ensures
