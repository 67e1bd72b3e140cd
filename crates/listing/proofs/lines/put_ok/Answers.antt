-- `listing::lines::put_ok` meets its contract: the word, two fields and the line's end, one behind the other. Assumes nothing.
use native.Mathlib.Omega.{arith}
use Rattle.listing.specs.Listing.{ok_line}
use Rattle.putting.proofs.Putting.{puts_then, puts_length}
use Rattle.listing.proofs.Digits.{length_small}
use Rattle.listing.proofs.lines.put_ok.Goals as goal

pub put_number-requires : goal.put_number-requires
put_number-requires c = omega (arith, puts_length, length_small)

pub put_number-requires-2 : goal.put_number-requires-2
put_number-requires-2 c = omega (arith, puts_length, length_small)

pub put_byte-requires : goal.put_byte-requires
put_byte-requires c = omega (arith, puts_length, length_small)

pub returns-clause-put : goal.returns-clause-put
unfolding ok_line
returns-clause-put c =
    rw (c.from.ensures, c.from-2.ensures) at
    (puts_then c.put_bytes.ensures (puts_then c.put_number.ensures (puts_then c.put_number-2.ensures c.put_byte.ensures)))

pub returns-clause-upper_bound : goal.returns-clause-upper_bound
returns-clause-upper_bound c = omega (arith, length_small)
