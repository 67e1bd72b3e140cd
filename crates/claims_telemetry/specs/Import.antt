-- What is demanded of the import of packed frames, in words and with places and sizes as numbers: document 02, change 3. "The arm controller sends 30-byte frames: view, camera, three
-- translations as signed 32-bit micrometres, four rotation numbers as signed 32-bit units of 2 to the −30; low byte first, rotation in the order i, j, k, w." Rests on the nearest
-- doubles of `Nearest`, and on commands as bytes: how they are written and how a stream is read.
use Rattle.std.specs.Prelude.{ℕ, suc, ◌+◌, ◌*◌, ◌^◌, ◌≤◌, ◌<◌, ◌≡◌, ◌↔◌, true, List, ◌++◌, length, get_or, take, drop, Err, Ok, ℤ, pos, negsuc, Float}
use Rattle.std.specs.Float.{binary64}
use Rattle.std.specs.Float.Ieee.{of_bits}
use Rattle.lists.specs.Lists.{tabulate}
use Rattle.arithmetic.specs.Pose.{finite_pose}
use Rattle.arithmetic.specs.declared.pose.Pose.{Pose}
use Rattle.refusal.specs.Table.{number_of, detail_of}
use Rattle.refusal.specs.declared.Refusal.{Refusal}
use Rattle.command.specs.Framing.{frame, frames, clean, frames_from}
use Rattle.command.specs.Command.{place, Command, edit, width_of, commands_at, complete, parse}
use Rattle.command.specs.Writing.{bytes_of}
use Rattle.telemetry.specs.Frames.{Bytes, Imported}
use Rattle.claims_telemetry.specs.Nearest.{IsNearest, IsExact}

-- ---- one number

-- Four bytes from a place on, "low byte first", are this signed count: as they stand up to 2 ^ 31 − 1, and 2 ^ 32 less where that is negative. `negsuc n` is −(n + 1).
abbrev pub word_from : List ℕ → ℕ → ℕ
word_from bytes at = get_or bytes at 0 + 256 * get_or bytes (at + 1) 0 + 65536 * get_or bytes (at + 2) 0 + 16777216 * get_or bytes (at + 3) 0

abbrev pub SignedAt : List ℕ → ℕ → ℤ → Type 0
SignedAt bytes at (pos n) = (n < 2 ^ 31) × (word_from bytes at ≡ n)
SignedAt bytes at (negsuc n) = (n < 2 ^ 31) × (word_from bytes at + suc n ≡ 2 ^ 32)

-- "Each translation is the nearest double to the count divided by 1,000,000, and each rotation number is exact"; both have the count's sign, and a zero word gives plus zero.
abbrev pub MetresAt : List ℕ → ℕ → Float → Type 0
MetresAt bytes at x = (count : ℤ) × SignedAt bytes at count × IsNearest count 1000000 x

abbrev pub RotationAt : List ℕ → ℕ → Float → Type 0
RotationAt bytes at x = (count : ℤ) × SignedAt bytes at count × IsExact count (2 ^ 30) x

-- ---- one frame, which begins at a place, and its pose

pub record PoseOfFrame (bytes : List ℕ) (at : ℕ) (p : Pose) : Type 0 where
  pub x_metres : MetresAt bytes (at + 2) p.translation.x
  pub y_metres : MetresAt bytes (at + 6) p.translation.y
  pub z_metres : MetresAt bytes (at + 10) p.translation.z
  pub i_exact : RotationAt bytes (at + 14) p.rotation.i
  pub j_exact : RotationAt bytes (at + 18) p.rotation.j
  pub k_exact : RotationAt bytes (at + 22) p.rotation.k
  pub w_exact : RotationAt bytes (at + 26) p.rotation.w

-- Eight bytes from a place on, low byte first, are the bits of this double.
abbrev pub DoubleAt : List ℕ → ℕ → Float → Type 0
DoubleAt bytes at x = of_bits binary64 (word_from bytes at + 4294967296 * word_from bytes (at + 4)) ≡ x

-- A Pose command's 59 bytes stand at a place: 2, the view, the camera, and seven floats.
pub record PoseAt (bytes : List ℕ) (at view camera : ℕ) (p : Pose) : Type 0 where
  pub pose_byte : get_or bytes at 0 ≡ 2
  pub view_byte : get_or bytes (at + 1) 0 ≡ view
  pub camera_byte : get_or bytes (at + 2) 0 ≡ camera
  pub x_bits : DoubleAt bytes (at + 3) p.translation.x
  pub y_bits : DoubleAt bytes (at + 11) p.translation.y
  pub z_bits : DoubleAt bytes (at + 19) p.translation.z
  pub i_bits : DoubleAt bytes (at + 27) p.rotation.i
  pub j_bits : DoubleAt bytes (at + 35) p.rotation.j
  pub k_bits : DoubleAt bytes (at + 43) p.rotation.k
  pub w_bits : DoubleAt bytes (at + 51) p.rotation.w

-- "Turn a file of frames, in their order, into Pose commands": the command of frame k, whose pose is finite, so that a session never refuses it with 7. It stands in the 59 bytes from 59 * k
-- on, and whoever reads the answer in a stream, behind any bytes and before any, finds it there.
pub record CommandOfFrame (bytes commands : List ℕ) (k : ℕ) (command : Command) : Type 0 where
  pub pose : Pose
  pub pose_of_frame : PoseOfFrame bytes (30 * k) pose
  pub pose_finite : finite_pose pose ≡ true
  pub is_place : command ≡ edit (place (get_or bytes (30 * k) 0) (get_or bytes (30 * k + 1) 0) pose)
  pub its_bytes_read : PoseAt commands (59 * k) (get_or bytes (30 * k) 0) (get_or bytes (30 * k + 1) 0) pose
  pub its_bytes : take 59 (drop (59 * k) commands) ≡ bytes_of command
  pub in_a_stream : (before after : List ℕ) → parse (before ++ (commands ++ after)) (length before + 59 * k) ≡ complete command 59

-- ---- a file of so many frames

-- "The answer is lent, 59 bytes per frame." Read as a stream it is these commands, in order, and nothing else.
pub record CommandsOfFrames (bytes : List ℕ) (n : ℕ) (commands : List ℕ) : Type 0 where
  pub command : ℕ → Command
  pub each : (k : ℕ) → k < n → CommandOfFrame bytes commands k (command k)
  pub as_long : length commands ≡ 59 * n
  pub places : frames_from width_of (length commands) commands 0 ≡ frames (tabulate n (λ k. frame (59 * k) 59)) clean
  pub read_back : commands_at commands (tabulate n (λ k. frame (59 * k) 59)) ≡ tabulate n command

-- "Refusal 14: the length is no multiple of 30. Refusal 15: more than 1,024 frames. Order: 14, 15, then 5 if the answer is not exactly that long." The four cases are all there are; a refusal
-- writes nothing, and its detail is 0. Of an empty file there are 0 frames, and its answer has no bytes. What is imported is said of frames that are bytes, as those of every caller are.
abbrev pub RefusedWith : Imported → ℕ → Type 0
RefusedWith answer number = (q : Refusal) × (answer ≡ Err q) × (number_of q ≡ number) × (detail_of q ≡ 0)

pub record ImportDemand (bytes lent : List ℕ) (answer : Imported) (lent' : List ℕ) : Type 0 where
  pub no_multiple : ((n : ℕ) → length bytes ≡ 30 * n → ⊥) → RefusedWith answer 14
  pub too_many : (n : ℕ) → length bytes ≡ 30 * n → 1024 < n → RefusedWith answer 15
  pub another_length : (n : ℕ) → length bytes ≡ 30 * n → n ≤ 1024 → (length lent ≡ 59 * n → ⊥) → RefusedWith answer 5
  pub imported : Bytes bytes → (n : ℕ) → length bytes ≡ 30 * n → n ≤ 1024 → length lent ≡ 59 * n → (answer ≡ Ok n) × CommandsOfFrames bytes n lent'
  pub unchanged : (r : Refusal) → answer ≡ Err r → lent' ≡ lent

-- ---- an input in place of a longer one

-- Files of these two lengths are refused alike: both with 14, or both with 15; or else they are as long as each other. With what is kept of an input in the first place and all of it in the second
-- this is what the program `frames` goes by: an input that is longer than any that passes is refused by its whole length.
pub record LengthsAlike (a b : ℕ) : Type 0 where
  pub both_broken : ((n : ℕ) → a ≡ 30 * n → ⊥) ↔ ((n : ℕ) → b ≡ 30 * n → ⊥)
  pub both_many : ((n : ℕ) × (a ≡ 30 * n) × (1024 < n)) ↔ ((n : ℕ) × (b ≡ 30 * n) × (1024 < n))
  pub else_equal : (n : ℕ) → b ≡ 30 * n → n ≤ 1024 → a ≡ b
