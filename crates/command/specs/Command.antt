-- Commands in a stream of bytes, by document 01, "A stream arrives", and document 02: "A command is one byte followed by operands of fixed widths. Floats are the 64 bits of an IEEE 754 double, low byte first."
-- Rests on the poses of `arithmetic`, and on how a table of widths cuts a stream, in `Framing`.
use Rattle.std.specs.Prelude.{ℕ, ◌+◌, ◌*◌, cond, List, [], ◌∷◌, get_or, take, drop, eqb, Option, None, Some, Float}
use Rattle.std.specs.Float.{binary64}
use Rattle.std.specs.Float.Ieee.{of_bits}
use Rattle.arithmetic.specs.Pose.{vec3, quaternion, pose}
use Rattle.arithmetic.specs.declared.pose.Pose.{Pose}
use Rattle.command.specs.Framing.{Framed, whole, short, foreign, Frame, frame, framed}

-- A command edits the session, or is Solve, which answers from it: "0x01 Size: views, cameras, reference; one byte each. 0x02 Pose: view, camera, one
-- byte each, then seven floats. 0x03 Solve: no operands." Document 02: "Command 0x04, with view and camera bytes, withdraws it."
pub data Edit : Type 0 where
  size : (views cameras reference : ℕ) → Edit
  place : (view camera : ℕ) → Pose → Edit
  withdraw : (view camera : ℕ) → Edit

pub data Command : Type 0 where
  edit : Edit → Command
  solve : Command

-- The bytes that begin Size, Pose, Solve and Withdraw, and how many bytes each takes with its operands.
abbrev pub size_byte : ℕ
size_byte = 1

abbrev pub pose_byte : ℕ
pose_byte = 2

abbrev pub solve_byte : ℕ
solve_byte = 3

abbrev pub withdraw_byte : ℕ
withdraw_byte = 4

abbrev pub size_width : ℕ
size_width = 4

abbrev pub pose_width : ℕ
pose_width = 59

abbrev pub solve_width : ℕ
solve_width = 1

abbrev pub withdraw_width : ℕ
withdraw_width = 3

-- Four bytes from `at`, low byte first.
abbrev pub half_at : List ℕ → ℕ → ℕ
half_at bytes at = get_or bytes at 0 + 256 * get_or bytes (at + 1) 0 + 65536 * get_or bytes (at + 2) 0 + 16777216 * get_or bytes (at + 3) 0

-- Eight bytes from `at`, low byte first.
unfoldable pub word_at : List ℕ → ℕ → ℕ
word_at bytes at =
    get_or bytes at 0
    + 256 * get_or bytes (at + 1) 0
    + 65536 * get_or bytes (at + 2) 0
    + 16777216 * get_or bytes (at + 3) 0
    + 4294967296 * get_or bytes (at + 4) 0
    + 1099511627776 * get_or bytes (at + 5) 0
    + 281474976710656 * get_or bytes (at + 6) 0
    + 72057594037927936 * get_or bytes (at + 7) 0

unfoldable pub double_at : List ℕ → ℕ → Float
unfolding word_at
double_at bytes at = of_bits binary64 (word_at bytes at)

-- Seven floats from `at`.
unfoldable pub offered_pose : List ℕ → ℕ → Pose
unfolding double_at
offered_pose bytes at =
    pose (vec3 (double_at bytes at) (double_at bytes (at + 8)) (double_at bytes (at + 16)))
    (quaternion (double_at bytes (at + 24)) (double_at bytes (at + 32)) (double_at bytes (at + 40)) (double_at bytes (at + 48)))

-- The table of widths: the bytes that begin a command, and how many bytes it takes.
unfoldable pub width_of : ℕ → Option ℕ
width_of byte =
    cond (eqb byte size_byte) (Some size_width)
    (cond (eqb byte pose_byte) (Some pose_width)
    (cond (eqb byte solve_byte) (Some solve_width)
    (cond (eqb byte withdraw_byte) (Some withdraw_width) None)))

-- The command that these bytes are, from the first to the last: which one is told by the first byte, one of the table.
unfoldable pub decode : List ℕ → Command
unfolding offered_pose
decode bytes =
    let byte : ℕ → ℕ = λ i. get_or bytes i 0 in
    cond (eqb (byte 0) size_byte) (edit (size (byte 1) (byte 2) (byte 3)))
    (cond (eqb (byte 0) pose_byte) (edit (place (byte 1) (byte 2) (offered_pose bytes 3)))
    (cond (eqb (byte 0) withdraw_byte) (edit (withdraw (byte 1) (byte 2))) solve))

-- The command at a place of a stream, and those at several.
unfoldable pub command_at : List ℕ → Frame → Command
unfolding decode
command_at stream here = decode (take here.width (drop here.offset stream))

unfoldable pub commands_at : List ℕ → List Frame → List Command
unfolding command_at
commands_at stream [] = []
commands_at stream (here ∷ later) = command_at stream here ∷ commands_at stream later

-- What stands at an offset before the end: a command with its width, one that the stream ends within, or a byte that begins none.
pub data Parsed : Type 0 where
  complete : Command → ℕ → Parsed
  broken : Parsed
  unknown : ℕ → Parsed

-- By the framing: what is whole is the command that its bytes are.
unfoldable pub decoded : List ℕ → ℕ → Framed → Parsed
unfolding command_at
decoded stream at (whole width) = complete (command_at stream (frame at width)) width
decoded stream at short = broken
decoded stream at (foreign byte) = unknown byte

unfoldable pub parse : List ℕ → ℕ → Parsed
unfolding framed width_of decoded
parse stream at = decoded stream at (framed width_of stream at)
