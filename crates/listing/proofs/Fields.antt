-- Floats as the fields that end a line. Assumes nothing.
use Prim.Native.Nat.{ℕ, ◌+◌, ◌*◌, ◌<◌}
use native.Mathlib.Omega.{arith}
use mathlib.Core.Path.{◌≡◌, refl}
use mathlib.Core.List.{List, [], ◌∷◌, ◌++◌, append_assoc, append-nil}
use Rattle.std.proofs.lemmas.List.{take_more}
use Rattle.std.proofs.lemmas.List.Concat.{flat_map-append}
use Rattle.std.specs.List.{flat_map}
use Rattle.std.specs.Prelude.{map}
use lib.ListN.{length, get_or, take, length-append}
use lib.Ieee.{Float, nan}
use Rattle.putting.specs.Putting.{Puts}
use Rattle.putting.specs.declared.Writer.{Writer}
use Rattle.putting.proofs.Putting.{puts_then}
use Rattle.listing.specs.Listing.{blank, newline, float_text, fields_text}
use Rattle.listing.specs.Widths.{float_bytes, pose_bytes}
use Rattle.listing.proofs.Digits.{length-float_text}

-- A float after a blank.
abbrev pub float_field : Float → List ℕ
float_field x = blank ∷ float_text x

pub length_float_fields : (numbers : List Float) → length (flat_map float_field numbers) ≡ float_bytes * length numbers
length_float_fields [] = refl
length_float_fields (x ∷ numbers) = simp (length-append, length-float_text, length_float_fields numbers) (omega arith)

-- One field more.
pub puts_next_float : {before middle after : Writer} (numbers : List Float) (i : ℕ) → i < length numbers
    → Puts before (flat_map float_field (take i numbers)) middle → Puts middle (blank ∷ float_text (get_or numbers i nan)) after
    → Puts before (flat_map float_field (take (i + 1) numbers)) after
puts_next_float numbers i h p q = rw (take_more numbers i nan h, flat_map-append, append-nil) (puts_then p q)

pub fields_text-floats : (numbers : List Float) → fields_text (map float_text numbers) ≡ flat_map float_field numbers ++ (newline ∷ [])
fields_text-floats [] = refl
fields_text-floats (x ∷ numbers) = simp (fields_text-floats numbers, append_assoc)

-- So many floats as a line's fields.
pub length_fields_text : (numbers : List Float) → length (fields_text (map float_text numbers)) ≡ pose_bytes (length numbers)
length_fields_text numbers = rw (fields_text-floats numbers) (simp (length-append, length_float_fields numbers) (omega arith))
