-- The rows of `Rows` hold, by computing with the definition. Assumes nothing.
use mathlib.Core.Path.{◌≡◌, refl}
use Rattle.stream_text.specs.Rows.{all_refused, all_said, rows}

pub rows-refused : all_refused rows ≡ all_said rows
unfolding all_refused all_said rows
rows-refused = refl
