-- Numbers written low byte first, one behind the other: a double as std writes it, several of them by a writer, and a whole Pose command. Assumes nothing.
use Prim.Native.Nat.{ℕ, ◌+◌, ◌*◌, ◌<◌}
use native.Mathlib.Nat.{div-div-eq-div-mul}
use native.Mathlib.Omega.{arith}
use mathlib.Core.Path.{◌≡◌, refl}
use mathlib.Core.List.{List, [], ◌∷◌, append-nil}
use Rattle.std.proofs.lemmas.List.{take_more}
use Rattle.std.proofs.lemmas.List.Concat.{flat_map-append}
use lib.ListN.{length, get_or, take}
use lib.Ieee.{Float, binary64, to_bits, nan}
use Rattle.std.specs.Int.{w64, to_le_bytes}
use Rattle.std.specs.List.{flat_map}
use Rattle.arithmetic.specs.Pose.{flat}
use Rattle.arithmetic.specs.declared.pose.Pose.{Pose}
use Rattle.putting.specs.Putting.{Puts}
use Rattle.putting.specs.declared.Writer.{Writer}
use Rattle.putting.proofs.Putting.{puts_then}
use Rattle.command.specs.Command.{place, edit, pose_width}
use Rattle.command.specs.Writing.{low_bytes, double_bytes, pose_bytes_of, bytes_of}

pub double_bytes_is : (x : Float) → double_bytes x ≡ to_le_bytes w64 (to_bits binary64 x)
unfolding double_bytes low_bytes
double_bytes_is x = simp div-div-eq-div-mul

-- ---- several doubles, one behind the other

pub length_doubles : (numbers : List Float) → length (flat_map double_bytes numbers) ≡ 8 * length numbers
unfolding double_bytes low_bytes
length_doubles [] = refl
length_doubles (x ∷ numbers) = omega (arith, length_doubles numbers)

-- One double more, as a writer puts its bytes.
pub puts_next_double : {before middle after : Writer} {bytes : List ℕ} (numbers : List Float) (i : ℕ) → i < length numbers
    → Puts before (flat_map double_bytes (take i numbers)) middle → bytes ≡ to_le_bytes w64 (to_bits binary64 (get_or numbers i nan))
    → Puts middle bytes after → Puts before (flat_map double_bytes (take (i + 1) numbers)) after
puts_next_double numbers i h p e q =
    rw (take_more numbers i nan h, flat_map-append, append-nil, double_bytes_is (get_or numbers i nan)) (puts_then p (rw e at q))

pub pose_bytes_of-flat : (p : Pose) → pose_bytes_of p ≡ flat_map double_bytes (flat p)
unfolding pose_bytes_of
pose_bytes_of-flat p = simp append-nil

-- ---- a command

pub length_place_bytes : (view camera : ℕ) (p : Pose) → length (bytes_of (edit (place view camera p))) ≡ pose_width
unfolding bytes_of pose_bytes_of double_bytes low_bytes
length_place_bytes view camera p = refl
