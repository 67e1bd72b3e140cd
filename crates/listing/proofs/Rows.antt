-- The rows of `Rows` hold, by computing with the definitions. Document 01's complete listing is in `claims_printing`. Assumes nothing.
use mathlib.Core.Path.{◌≡◌, refl}
use lib.Ieee.{of_bits, to_bits}
use Rattle.listing.specs.Listing.{decimal_within, decimal_text, float_text, refusal_line}
use Rattle.listing.specs.Rows.{all_computed, all_said, text_bytes, rows}

pub rows_print : all_computed rows ≡ all_said rows
unfolding rows all_computed all_said text_bytes float_text decimal_text decimal_within refusal_line of_bits to_bits
rows_print = refl
