-- `listing::text::put_float` meets its contract: 64 bits take all 16 digits that `io::hex` was asked for, put behind the blank. Assumes nothing.
use native.Mathlib.Omega.{arith}
use Rattle.putting.proofs.Putting.{puts_then}
use Rattle.listing.proofs.Digits.{fewest_sixteen, digits_float_text}
use Rattle.listing.proofs.text.put_float.Goals as goal

pub returns : goal.returns
returns c =
    let h = c.hex-count in
    let all = fewest_sixteen c.bits_of.result h.result (omega arith) h.ensures.len in
    rw (h.ensures.digits, digits_float_text c.args.x c.bits_of.result h.result c.bits_of.ensures all) at
    (puts_then c.put_byte.ensures c.put_bytes.ensures)
