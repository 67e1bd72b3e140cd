-- `listing::text::put_number` meets its contract: `io::decimal`'s fewest digits are the decimal text, put behind the blank. Assumes nothing.
use native.Mathlib.Omega.{arith}
use Rattle.putting.proofs.Putting.{puts_then, puts_length}
use Rattle.listing.proofs.Digits.{digits_decimal_text}
use Rattle.listing.proofs.text.put_number.Goals as goal

pub put_bytes-requires : goal.put_bytes-requires
put_bytes-requires c =
    let d = c.decimal-count in
    rw (d.ensures.digits, digits_decimal_text c.from.result d.result (omega arith) d.ensures.len, c.from.ensures)
    (omega (arith, puts_length c.put_byte.ensures))

pub returns : goal.returns
returns c =
    let d = c.decimal-count in
    rw (d.ensures.digits, digits_decimal_text c.from.result d.result (omega arith) d.ensures.len, c.from.ensures) at
    (puts_then c.put_byte.ensures c.put_bytes.ensures)
