-- How a stream is cut into commands, whatever they say: a table gives the width of a command by its first byte, and nothing else is looked at.
-- Document 01: "A command is one byte followed by operands of fixed widths." Assumes nothing.
use Prim.Native.Nat.{ℕ, zero, suc, ◌+◌, ◌<◌}
use Rattle.std.specs.Prelude.{◌≡◌, cond, length, get_or, eqb, leb, Option, None, Some}
use Rattle.std.proofs.Math.Bool.{true, false}
use mathlib.Core.List.{List, [], ◌∷◌}

-- ---- one command

-- What stands at an offset before the end: a whole command with its width, one that the stream ends within, or a byte that begins none.
pub data Framed : Type 0 where
  whole : ℕ → Framed
  short : Framed
  foreign : ℕ → Framed

unfoldable pub framed_by : List ℕ → ℕ → Option ℕ → Framed
framed_by stream at None = foreign (get_or stream at 0)
framed_by stream at (Some width) = cond (leb (at + width) (length stream)) (whole width) short

-- ---- a whole stream

-- A command's place: where it begins, and its width.
pub record Frame : Type 0 where
  pub offset : ℕ
  pub width : ℕ

abbrev pub frame : ℕ → ℕ → Frame
frame o w = record { offset = o; width = w }

-- A stream ends after its last command, at a byte that begins none, or within the command that begins at an offset.
pub data Ending : Type 0 where
  clean : Ending
  unknown_byte : ℕ → Ending
  broken_at : ℕ → Ending

pub record Frames : Type 0 where
  pub places : List Frame
  pub ending : Ending

abbrev pub frames : List Frame → Ending → Frames
frames l e = record { places = l; ending = e }

module _ (widths : ℕ → Option ℕ) where
  unfoldable pub framed : List ℕ → ℕ → Framed
  unfolding framed_by
  framed stream at = framed_by stream at (widths (get_or stream at 0))

  -- The commands from an offset on. At most so many are read: each takes a byte or more, so that the stream's length is enough.
  unfoldable pub frames_from : ℕ → List ℕ → ℕ → Frames
  unfolding framed
  frames_from zero stream at = frames [] clean
  frames_from (suc most) stream at =
      elim (eqb at (length stream)) [
        | true ↦ frames [] clean
        | false ↦ elim (framed stream at) [
          | whole w ↦
              let later = frames_from most stream (at + w) in
              frames (frame at w ∷ later.places) later.ending
          | short ↦ frames [] (broken_at at)
          | foreign byte ↦ frames [] (unknown_byte byte)
        ]
      ]

  -- Every command of the table takes a byte or more.
  abbrev pub SomeByte : Type 0
  SomeByte = (byte w : ℕ) → widths byte ≡ Some w → 0 < w

  -- From one offset to another these commands stand one after the other.
  pub data Follow (stream : List ℕ) : ℕ → List Frame → ℕ → Type 0 where
    no_more : {at : ℕ} → Follow stream at [] at
    one-frame : {at w to : ℕ} {later : List Frame} → framed stream at ≡ whole w → Follow stream (at + w) later to
        → Follow stream at (frame at w ∷ later) to

  -- What stands at the offset where the commands end.
  abbrev pub FramesEnd : List ℕ → ℕ → Ending → Type 0
  FramesEnd stream at clean = at ≡ length stream
  FramesEnd stream at (unknown_byte byte) = (at < length stream) × (framed stream at ≡ foreign byte)
  FramesEnd stream at (broken_at offset) = (at < length stream) × (framed stream at ≡ short) × (offset ≡ at)
