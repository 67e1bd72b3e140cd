-- The bytes of a part of a list, and that eight bytes from a place are the number that std reads from them. Assumes nothing.
use Prim.Native.Nat.{ℕ, ◌+◌, ◌<◌}
use native.Mathlib.Nat.{add-zero}
use native.Mathlib.Omega.{arith}
use mathlib.Core.Path.{◌≡◌, ◌∙◌}
use mathlib.Core.List.{List}
use lib.ListN.{get_or, take, drop}
use lib.Seq.{get_or-take, get_or-drop}
use Rattle.std.specs.Int.{w64, from_le_bytes}
use Rattle.command.specs.Command.{word_at}

-- A byte of a part, where it stands in the whole.
pub get_or-part : (bytes : List ℕ) (at n i : ℕ) → i < n → get_or (take n (drop at bytes)) i 0 ≡ get_or bytes (at + i) 0
get_or-part bytes at n i h = get_or-take n (drop at bytes) i 0 h ∙ get_or-drop at bytes i 0

pub word_at_is : (bytes : List ℕ) (at : ℕ) → word_at bytes at ≡ from_le_bytes w64 (take 8 (drop at bytes))
unfolding word_at
word_at_is bytes at =
    rw (
      get_or-part bytes at 8 0 (omega arith),
      get_or-part bytes at 8 1 (omega arith),
      get_or-part bytes at 8 2 (omega arith),
      get_or-part bytes at 8 3 (omega arith),
      get_or-part bytes at 8 4 (omega arith),
      get_or-part bytes at 8 5 (omega arith),
      get_or-part bytes at 8 6 (omega arith),
      get_or-part bytes at 8 7 (omega arith),
      add-zero,
    )
    (omega arith)
