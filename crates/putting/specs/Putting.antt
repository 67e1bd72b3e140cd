-- Bytes put into lent memory from a place on, and into a writer's. Assumes nothing.
use Rattle.std.specs.Prelude.{ℕ, ◌+◌, ◌≤◌, ◌≡◌, List, ◌++◌, length, take, drop}
use Rattle.putting.specs.declared.Writer.{Writer}

-- `new` is `old` with the text from `at` on, all of it within, and `next` is the place behind it.
pub record Put (old : List ℕ) (at : ℕ) (text new : List ℕ) (next : ℕ) : Type 0 where
  pub room : at + length text ≤ length old
  pub bytes : new ≡ take at old ++ (text ++ drop (at + length text) old)
  pub behind : next ≡ at + length text

-- The text is put behind what `before` has written, into the same lent memory.
pub record Puts (before : Writer) (text : List ℕ) (after : Writer) : Type 0 where
  pub put : Put before.bytes.now before.used text after.bytes.now after.used
  pub same_reference : after.bytes.ghost_name ≡ before.bytes.ghost_name
