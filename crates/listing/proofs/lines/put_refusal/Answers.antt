-- `listing::lines::put_refusal` meets its contract: the word, two fields and the line's end, one behind the other. Assumes nothing.
use native.Mathlib.Omega.{arith}
use Rattle.listing.specs.Listing.{refusal_line}
use Rattle.putting.proofs.Putting.{puts_then, puts_length}
use Rattle.listing.proofs.Digits.{length_number}
use Rattle.listing.proofs.lines.put_refusal.Goals as goal

pub put_number-requires : goal.put_number-requires
put_number-requires c = omega (arith, puts_length, length_number)

pub put_number-requires-2 : goal.put_number-requires-2
put_number-requires-2 c = omega (arith, puts_length, length_number)

pub put_byte-requires : goal.put_byte-requires
put_byte-requires c = omega (arith, puts_length, length_number)

pub returns : goal.returns
unfolding refusal_line
returns c =
    rw (c.number.ensures, c.detail.ensures) at
    (puts_then c.put_bytes.ensures (puts_then c.put_number.ensures (puts_then c.put_number-2.ensures c.put_byte.ensures)))
