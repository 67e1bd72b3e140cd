-- What was read stands behind what is kept, and where the memory is full a shorter length stands for all of it. Assumes nothing.
use borrow.Author.Rules.{rules}
use Rattle.descriptors.proofs.Front.{take-put_mid_within}
use Rattle.frames.proofs.Turning.{kept_more, kept_shorter, kept_taken}
use Rattle.frames.proofs.read_frames.Goals as goal

pub returns-then-kept-lt-INPUT_BYTES-clause-taken : goal.returns-then-kept-lt-INPUT_BYTES-clause-taken
returns-then-kept-lt-INPUT_BYTES-clause-taken g c =
    let l = c.loop in
    let got = c.in_ok-got in
    let part = c.read_to_end.new.memory in
    let more = kept_more part got.got l.invariant.1 (search rules) got.ensures.bytes (take-put_mid_within l.kept _ got.got l.memory part (search rules) (search rules)) in
    (search rules, kept_taken more (search rules) (got.ensures.end (search rules)))

pub loop-preserved : goal.loop-preserved
loop-preserved g c =
    let l = c.loop in
    let got = c.in_ok-got in
    let part = c.read_to_end.new.memory in
    let more = kept_more part got.got l.invariant.1 (search rules) got.ensures.bytes (take-put_mid_within l.kept _ got.got l.memory part (search rules) (search rules)) in
    let shorter = c.shortened-kept.ensures in
    (search rules, kept_shorter c.shortened-kept.result more (search rules) shorter.1 shorter.2)
