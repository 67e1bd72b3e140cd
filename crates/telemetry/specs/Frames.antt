-- Packed telemetry frames turned into Pose commands, by document 02, change 3: "The arm controller sends 30-byte frames: view, camera, three translations as signed 32-bit micrometres,
-- four rotation numbers as signed 32-bit units of 2 to the −30; low byte first, rotation in the order i, j, k, w. Turn a file of frames, in their order, into Pose commands, in
-- metres." Rests on the commands of `command`, the poses of `arithmetic`, the table of refusals, and the numbers of `Quotient`.
use Rattle.std.specs.Prelude.{ℕ, ◌+◌, ◌*◌, ◌/◌, ◌%◌, ◌<◌, ◌≡◌, not, cond, List, [], ◌∷◌, length, get_or, eqb, leb, ltb, Option, None, Some, Result, Err, Ok, Float}
use Rattle.lists.specs.Lists.{gather}
use Rattle.arithmetic.specs.Pose.{vec3, quaternion, pose}
use Rattle.arithmetic.specs.declared.pose.Pose.{Pose}
use Rattle.refusal.specs.Table.{refuse_if, first_of}
use Rattle.refusal.specs.declared.Refusal.{Refusal}
use Rattle.refusal.specs.declared.Refusal.TheVariants.{WrongLength, BrokenFrame, TooManyFrames}
use Rattle.command.specs.Command.{place, Command, edit, pose_width, half_at}
use Rattle.command.specs.Writing.{bytes_of}
use Rattle.telemetry.specs.Quotient.{count_of, quotient, micrometres, rotation_units}

abbrev pub frame_bytes : ℕ
frame_bytes = 30

abbrev pub max_frames : ℕ
max_frames = 1024

-- ---- one frame, which begins at a place

-- "signed 32-bit micrometres", in metres; "signed 32-bit units of 2 to the −30".
unfoldable pub metres_at : List ℕ → ℕ → Float
unfolding count_of quotient
metres_at bytes at = quotient (count_of (half_at bytes at)) micrometres

unfoldable pub rotation_at : List ℕ → ℕ → Float
unfolding count_of quotient
rotation_at bytes at = quotient (count_of (half_at bytes at)) rotation_units

-- Behind the bytes of view and camera three translations, then i, j, k, w.
unfoldable pub packed_pose : List ℕ → ℕ → Pose
unfolding metres_at rotation_at
packed_pose bytes at =
    pose (vec3 (metres_at bytes (at + 2)) (metres_at bytes (at + 6)) (metres_at bytes (at + 10)))
    (quaternion (rotation_at bytes (at + 14)) (rotation_at bytes (at + 18)) (rotation_at bytes (at + 22)) (rotation_at bytes (at + 26)))

unfoldable pub packed_command : List ℕ → ℕ → Command
unfolding packed_pose
packed_command bytes at = edit (place (get_or bytes at 0) (get_or bytes (at + 1) 0) (packed_pose bytes at))

-- ---- a file of frames

-- The elements of a list are bytes.
abbrev pub Bytes : List ℕ → Type 0
Bytes file = (i : ℕ) → get_or file i 0 < 256

abbrev pub frames_in : List ℕ → ℕ
frames_in bytes = length bytes / frame_bytes

-- "59 bytes per frame", in the frames' order.
unfoldable pub command_bytes : List ℕ → List ℕ
unfolding gather bytes_of packed_command
command_bytes bytes = gather (frames_in bytes) (λ k. bytes_of (packed_command bytes (frame_bytes * k)))

-- "Refusal 14: the length is no multiple of 30. Refusal 15: more than 1,024 frames. Order: 14, 15, then 5 if the answer is not exactly that long."
unfoldable pub frames_refusal : ℕ → ℕ → Option Refusal
unfolding refuse_if first_of
frames_refusal bytes lent =
    first_of
    (refuse_if (not (eqb (bytes % frame_bytes) 0)) BrokenFrame
    ∷ refuse_if (ltb max_frames (bytes / frame_bytes)) TooManyFrames
    ∷ refuse_if (not (eqb lent (pose_width * (bytes / frame_bytes)))) WrongLength
    ∷ [])

-- What the entry answers, and what stands in the lent answer afterwards: a refusal leaves it as it was.
abbrev pub Imported : Type 0
Imported = Result ℕ Refusal

unfoldable pub imported_by : Option Refusal → ℕ → Imported
imported_by (Some r) frames = Err r
imported_by None frames = Ok frames

unfoldable pub left_by : Option Refusal → List ℕ → List ℕ → List ℕ
left_by (Some r) lent commands = lent
left_by None lent commands = commands

unfoldable pub imported_of : List ℕ → List ℕ → Imported
unfolding frames_refusal imported_by
imported_of bytes lent = imported_by (frames_refusal (length bytes) (length lent)) (frames_in bytes)

unfoldable pub import_leaves : List ℕ → List ℕ → List ℕ
unfolding frames_refusal left_by command_bytes
import_leaves bytes lent = left_by (frames_refusal (length bytes) (length lent)) lent (command_bytes bytes)

-- ---- a length in place of another

abbrev pub max_bytes : ℕ
max_bytes = frame_bytes * max_frames

-- A length that may pass stays; for any other stands the least number of frames that does not pass, and the length's own rest.
unfoldable pub kept_length : ℕ → ℕ
kept_length n = cond (leb n max_bytes) n (max_bytes + frame_bytes + n % frame_bytes)

-- Inputs of these two lengths are refused alike, whatever is lent, and so are they with as many bytes more.
abbrev pub RefusedAlike : ℕ → ℕ → Type 0
RefusedAlike a b = (more lent : ℕ) → frames_refusal (a + more) lent ≡ frames_refusal (b + more) lent
