-- `read_record` meets its contract: the masks are copied, and each entry is read from its word. Assumes nothing.
use borrow.Author.Rules.{rules}
use native.Mathlib.Omega.{arith}
use Rattle.record_words.specs.Words.{shared_word}
use Rattle.record_words.proofs.Records.{part_made}
use Rattle.record_words.proofs.read_record.Goals as goal

pub returns : goal.returns
returns c =
    let shared = part_made _ _ c.args.words.now shared_word (λ i y q k. search rules) _ _ c.from_fn-shared.ensures.items (omega arith) in
    rw shared (search rules)
