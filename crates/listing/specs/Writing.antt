-- A text at the front of lent memory. Assumes nothing.
use Rattle.std.specs.Prelude.{ℕ, ◌≤◌, ◌≡◌, List, ◌++◌, length, take, drop}

-- `new` is `old` with the text at its front, and `count` its length; the last two say it as a caller needs it that lends the text alone.
pub record Front (old text new : List ℕ) (count : ℕ) : Type 0 where
  pub text_length : count ≡ length text
  pub text_bytes_is : new ≡ text ++ drop count old
  pub within : count ≤ length new
  pub taken : count ≡ length (take count new)
