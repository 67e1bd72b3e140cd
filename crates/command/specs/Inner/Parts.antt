-- What the functions that read commands promise, beside the definitions of `Command`. Assumes nothing.
use Rattle.std.specs.Prelude.{ℕ, ◌+◌, ◌≤◌, ◌≡◌, List, length, get_or, cond, Float, Option, None, Some, Result, Ok, Err}
use Rattle.std.specs.Float.Ieee.Scale.{finite}
use Rattle.arithmetic.specs.Pose.{finite_pose}
use Rattle.arithmetic.specs.declared.pose.Pose.{Pose as PoseOfNumbers}
use Rattle.command.specs.Command.{Edit, size, place, withdraw, Command, edit, solve, size_byte, pose_byte, solve_byte, withdraw_byte, size_width, pose_width, solve_width, withdraw_width, complete, broken, unknown, parse, offered_pose, width_of}
use Rattle.command.specs.declared.parse.Kind.{Kind}
use Rattle.command.specs.declared.parse.Kind.TheVariants.{Size, Pose, Solve, Withdraw}
use Rattle.command.specs.declared.parse.ParseError.{ParseError}
use Rattle.command.specs.declared.parse.ParseError.TheVariants.{Unknown, Broken}

-- The bytes of a pose: seven doubles.
abbrev pub pose_bytes : ℕ
pose_bytes = 56

-- A double, and a pose, that are read where all the numbers are finite.
abbrev pub finite_double : Float → Option Float
finite_double x = cond (finite x) (Some x) None

abbrev pub pose_of_finite : PoseOfNumbers → Option PoseOfNumbers
pose_of_finite p = cond (finite_pose p) (Some p) None

-- The edits whose operands follow `at`.
abbrev pub size_at : List ℕ → ℕ → Edit
size_at stream at = size (get_or stream (at + 1) 0) (get_or stream (at + 2) 0) (get_or stream (at + 3) 0)

abbrev pub place_at : List ℕ → ℕ → Edit
place_at stream at = place (get_or stream (at + 1) 0) (get_or stream (at + 2) 0) (offered_pose stream (at + 3))

abbrev pub withdraw_at : List ℕ → ℕ → Edit
withdraw_at stream at = withdraw (get_or stream (at + 1) 0) (get_or stream (at + 2) 0)

-- ---- kinds of commands

-- The byte that begins a command.
abbrev pub byte_of : Kind → ℕ
byte_of Size = size_byte
byte_of Pose = pose_byte
byte_of Solve = solve_byte
byte_of Withdraw = withdraw_byte

-- How many bytes it takes with its operands.
abbrev pub kind_width : Kind → ℕ
kind_width Size = size_width
kind_width Pose = pose_width
kind_width Solve = solve_width
kind_width Withdraw = withdraw_width

-- The command whose operands follow `at`.
abbrev pub command_of : Kind → List ℕ → ℕ → Command
command_of Size stream at = edit (size_at stream at)
command_of Pose stream at = edit (place_at stream at)
command_of Solve stream at = solve
command_of Withdraw stream at = edit (withdraw_at stream at)

-- The kind whose commands this byte begins, or that it begins none.
abbrev pub IsKindOf : ℕ → Result Kind ParseError → Type 0
IsKindOf byte (Ok kind) = byte ≡ byte_of kind
IsKindOf byte (Err error) = (error ≡ Unknown byte) × (width_of byte ≡ None)

-- What each answer of `parse` says of the stream: a whole command has all its operands there.
abbrev pub ParsedAs : List ℕ → ℕ → Result Kind ParseError → Type 0
ParsedAs stream at (Ok kind) = (parse stream at ≡ complete (command_of kind stream at) (kind_width kind)) × (at + kind_width kind ≤ length stream)
ParsedAs stream at (Err (Unknown byte)) = parse stream at ≡ unknown byte
ParsedAs stream at (Err Broken) = parse stream at ≡ broken
