-- Words, frames and lengths beside what they come to, worked out by hand from document 02, change 3, the doubles by exact fractions. Where code and definition change together, the rows
-- hold the definitions, at these alone. Rests on the import of packed frames.
use Rattle.std.specs.Prelude.{ℕ, List, [], ◌∷◌, ◌++◌, replicate, Option, None, Some, Err, Ok}
use Rattle.std.specs.Float.{binary64}
use Rattle.std.specs.Float.Ieee.{to_bits}
use Rattle.refusal.specs.Table.{number_of, detail_of}
use Rattle.refusal.specs.declared.Refusal.{Refusal}
use Rattle.telemetry.specs.Frames.{metres_at, rotation_at, command_bytes, frames_refusal, Imported, imported_of, import_leaves}

-- What the definitions compute, and what the row says.
pub record Row : Type 0 where
  pub computed : List ℕ
  pub said : List ℕ

unfoldable pub all_computed : List Row → List (List ℕ)
all_computed [] = []
all_computed (r ∷ later) = r.computed ∷ all_computed later

unfoldable pub all_said : List Row → List (List ℕ)
all_said [] = []
all_said (r ∷ later) = r.said ∷ all_said later

-- The four bytes of a word, and the bits of the double that it is as a translation, or as a number of a rotation.
abbrev metres : List ℕ → ℕ → Row
metres word bits = record { computed = to_bits binary64 (metres_at word 0) ∷ []; said = bits ∷ [] }

abbrev rotation : List ℕ → ℕ → Row
rotation word bits = record { computed = to_bits binary64 (rotation_at word 0) ∷ []; said = bits ∷ [] }

-- How many bytes of frames, how many bytes lent, and what is told: nothing, or a refusal's number and detail.
abbrev told : Option Refusal → List ℕ
told None = []
told (Some r) = number_of r ∷ detail_of r ∷ []

abbrev lengths : ℕ → ℕ → List ℕ → Row
lengths bytes lent said = record { computed = told (frames_refusal bytes lent); said = said }

-- Frames, and the bytes of their commands; frames, what is lent, and what is left in it.
abbrev commands : List ℕ → List ℕ → Row
commands frames said = record { computed = command_bytes frames; said = said }

-- What is answered: the number of frames alone, or a refusal's number and detail.
abbrev answered : Imported → List ℕ
answered (Ok n) = n ∷ []
answered (Err q) = number_of q ∷ detail_of q ∷ []

abbrev answers : List ℕ → List ℕ → List ℕ → Row
answers frames lent said = record { computed = answered (imported_of frames lent); said = said }

abbrev leaves : List ℕ → List ℕ → List ℕ → Row
leaves frames lent said = record { computed = import_leaves frames lent; said = said }

-- Micrometres: 0, 1, −1, 3, 5, 10, 15, 19, −7, 15625, −15625, 250000, 1000000, −1000000, 123456789, 2147483647, −2147483647, −2147483648.
-- At 5, 10, 15 and 19 the count times the double nearest 1 / 1,000,000 has another last bit.
unfoldable pub metres_rows : List Row
metres_rows =
    metres (0 ∷ 0 ∷ 0 ∷ 0 ∷ []) 0x0000_0000_0000_0000
    ∷ metres (1 ∷ 0 ∷ 0 ∷ 0 ∷ []) 0x3eb0_c6f7_a0b5_ed8d
    ∷ metres (255 ∷ 255 ∷ 255 ∷ 255 ∷ []) 0xbeb0_c6f7_a0b5_ed8d
    ∷ metres (3 ∷ 0 ∷ 0 ∷ 0 ∷ []) 0x3ec9_2a73_7110_e454
    ∷ metres (5 ∷ 0 ∷ 0 ∷ 0 ∷ []) 0x3ed4_f8b5_88e3_68f1
    ∷ metres (10 ∷ 0 ∷ 0 ∷ 0 ∷ []) 0x3ee4_f8b5_88e3_68f1
    ∷ metres (15 ∷ 0 ∷ 0 ∷ 0 ∷ []) 0x3eef_7510_4d55_1d69
    ∷ metres (19 ∷ 0 ∷ 0 ∷ 0 ∷ []) 0x3ef3_ec46_0ed8_0a18
    ∷ metres (249 ∷ 255 ∷ 255 ∷ 255 ∷ []) 0xbedd_5c31_593e_5fb7
    ∷ metres (9 ∷ 61 ∷ 0 ∷ 0 ∷ []) 0x3f90_0000_0000_0000
    ∷ metres (247 ∷ 194 ∷ 255 ∷ 255 ∷ []) 0xbf90_0000_0000_0000
    ∷ metres (144 ∷ 208 ∷ 3 ∷ 0 ∷ []) 0x3fd0_0000_0000_0000
    ∷ metres (64 ∷ 66 ∷ 15 ∷ 0 ∷ []) 0x3ff0_0000_0000_0000
    ∷ metres (192 ∷ 189 ∷ 240 ∷ 255 ∷ []) 0xbff0_0000_0000_0000
    ∷ metres (21 ∷ 205 ∷ 91 ∷ 7 ∷ []) 0x405e_dd3c_07ee_0b0b
    ∷ metres (255 ∷ 255 ∷ 255 ∷ 127 ∷ []) 0x40a0_c6f7_a094_5f9e
    ∷ metres (1 ∷ 0 ∷ 0 ∷ 128 ∷ []) 0xc0a0_c6f7_a094_5f9e
    ∷ metres (0 ∷ 0 ∷ 0 ∷ 128 ∷ []) 0xc0a0_c6f7_a0b5_ed8d
    ∷ []

-- Units of 2 to the −30: 0, 1, −1, 3, 759250125, −536870912, 1073741824, −1073741824, 2147483647, −2147483647, −2147483648.
unfoldable pub rotation_rows : List Row
rotation_rows =
    rotation (0 ∷ 0 ∷ 0 ∷ 0 ∷ []) 0x0000_0000_0000_0000
    ∷ rotation (1 ∷ 0 ∷ 0 ∷ 0 ∷ []) 0x3e10_0000_0000_0000
    ∷ rotation (255 ∷ 255 ∷ 255 ∷ 255 ∷ []) 0xbe10_0000_0000_0000
    ∷ rotation (3 ∷ 0 ∷ 0 ∷ 0 ∷ []) 0x3e28_0000_0000_0000
    ∷ rotation (205 ∷ 60 ∷ 65 ∷ 45 ∷ []) 0x3fe6_a09e_6680_0000
    ∷ rotation (0 ∷ 0 ∷ 0 ∷ 224 ∷ []) 0xbfe0_0000_0000_0000
    ∷ rotation (0 ∷ 0 ∷ 0 ∷ 64 ∷ []) 0x3ff0_0000_0000_0000
    ∷ rotation (0 ∷ 0 ∷ 0 ∷ 192 ∷ []) 0xbff0_0000_0000_0000
    ∷ rotation (255 ∷ 255 ∷ 255 ∷ 127 ∷ []) 0x3fff_ffff_ffc0_0000
    ∷ rotation (1 ∷ 0 ∷ 0 ∷ 128 ∷ []) 0xbfff_ffff_ffc0_0000
    ∷ rotation (0 ∷ 0 ∷ 0 ∷ 128 ∷ []) 0xc000_0000_0000_0000
    ∷ []

unfoldable pub length_rows : List Row
length_rows =
    lengths 0 0 []
    ∷ lengths 0 1 (5 ∷ 0 ∷ [])
    ∷ lengths 1 0 (14 ∷ 0 ∷ [])
    ∷ lengths 29 59 (14 ∷ 0 ∷ [])
    ∷ lengths 30 59 []
    ∷ lengths 30 58 (5 ∷ 0 ∷ [])
    ∷ lengths 30 60 (5 ∷ 0 ∷ [])
    ∷ lengths 31 59 (14 ∷ 0 ∷ [])
    ∷ lengths 30720 60416 []
    ∷ lengths 30720 60415 (5 ∷ 0 ∷ [])
    ∷ lengths 30720 60417 (5 ∷ 0 ∷ [])
    ∷ lengths 30721 60416 (14 ∷ 0 ∷ [])
    ∷ lengths 30749 60416 (14 ∷ 0 ∷ [])
    ∷ lengths 30750 60475 (15 ∷ 0 ∷ [])
    ∷ lengths 30750 0 (15 ∷ 0 ∷ [])
    ∷ lengths 30751 60475 (14 ∷ 0 ∷ [])
    ∷ lengths 1000000 0 (14 ∷ 0 ∷ [])
    ∷ lengths 1000020 0 (15 ∷ 0 ∷ [])
    ∷ []

-- View 5, camera 11: 1 m, −1 µm, 123.456789 m; 2 to the −30, −1/2, 759250125 units (near the root of 1/2), −1.
unfoldable pub one_frame : List ℕ
one_frame = 5 ∷ 11 ∷ 64 ∷ 66 ∷ 15 ∷ 0 ∷ 255 ∷ 255 ∷ 255 ∷ 255 ∷ 21 ∷ 205 ∷ 91 ∷ 7 ∷ 1 ∷ 0 ∷ 0 ∷ 0 ∷ 0 ∷ 0 ∷ 0 ∷ 224 ∷ 205 ∷ 60 ∷ 65 ∷ 45 ∷ 0 ∷ 0 ∷ 0 ∷ 192 ∷ []

unfoldable pub one_command : List ℕ
one_command =
    2 ∷ 5 ∷ 11 ∷ 0 ∷ 0 ∷ 0 ∷ 0 ∷ 0 ∷ 0 ∷ 240 ∷ 63 ∷ 141 ∷ 237 ∷ 181 ∷ 160 ∷ 247 ∷ 198 ∷ 176 ∷ 190 ∷ 11 ∷ 11 ∷ 238 ∷ 7 ∷ 60
    ∷ 221 ∷ 94 ∷ 64 ∷ 0 ∷ 0 ∷ 0 ∷ 0 ∷ 0 ∷ 0 ∷ 16 ∷ 62 ∷ 0 ∷ 0 ∷ 0 ∷ 0 ∷ 0 ∷ 0 ∷ 224 ∷ 191 ∷ 0 ∷ 0 ∷ 128 ∷ 102 ∷ 158
    ∷ 160 ∷ 230 ∷ 63 ∷ 0 ∷ 0 ∷ 0 ∷ 0 ∷ 0 ∷ 0 ∷ 240 ∷ 191 ∷ []

-- View 63, camera 0: 0, −2147.483648 m, 5 µm; 0, 0, 0, the greatest count.
unfoldable pub other_frame : List ℕ
other_frame = 63 ∷ 0 ∷ 0 ∷ 0 ∷ 0 ∷ 0 ∷ 0 ∷ 0 ∷ 0 ∷ 128 ∷ 5 ∷ 0 ∷ 0 ∷ 0 ∷ 0 ∷ 0 ∷ 0 ∷ 0 ∷ 0 ∷ 0 ∷ 0 ∷ 0 ∷ 0 ∷ 0 ∷ 0 ∷ 0 ∷ 255 ∷ 255 ∷ 255 ∷ 127 ∷ []

unfoldable pub other_command : List ℕ
other_command =
    2 ∷ 63 ∷ 0 ∷ 0 ∷ 0 ∷ 0 ∷ 0 ∷ 0 ∷ 0 ∷ 0 ∷ 0 ∷ 141 ∷ 237 ∷ 181 ∷ 160 ∷ 247 ∷ 198 ∷ 160 ∷ 192 ∷ 241 ∷ 104 ∷ 227 ∷ 136 ∷ 181
    ∷ 248 ∷ 212 ∷ 62 ∷ 0 ∷ 0 ∷ 0 ∷ 0 ∷ 0 ∷ 0 ∷ 0 ∷ 0 ∷ 0 ∷ 0 ∷ 0 ∷ 0 ∷ 0 ∷ 0 ∷ 0 ∷ 0 ∷ 0 ∷ 0 ∷ 0 ∷ 0 ∷ 0
    ∷ 0 ∷ 0 ∷ 0 ∷ 0 ∷ 0 ∷ 192 ∷ 255 ∷ 255 ∷ 255 ∷ 255 ∷ 63 ∷ []

-- In their order; and a refusal leaves what was lent: an answer a byte too long, and a part of a frame. Then what is answered.
unfoldable pub frame_rows : List Row
unfolding one_frame one_command other_frame other_command
frame_rows =
    commands [] []
    ∷ commands one_frame one_command
    ∷ commands (one_frame ++ other_frame) (one_command ++ other_command)
    ∷ commands (other_frame ++ one_frame) (other_command ++ one_command)
    ∷ leaves one_frame (replicate 59 7) one_command
    ∷ leaves one_frame (replicate 60 7) (replicate 60 7)
    ∷ leaves (0 ∷ one_frame) (replicate 59 7) (replicate 59 7)
    ∷ answers [] [] (0 ∷ [])
    ∷ answers one_frame (replicate 59 7) (1 ∷ [])
    ∷ answers (one_frame ++ other_frame) (replicate 118 7) (2 ∷ [])
    ∷ answers one_frame (replicate 60 7) (5 ∷ 0 ∷ [])
    ∷ answers (0 ∷ one_frame) (replicate 59 7) (14 ∷ 0 ∷ [])
    ∷ []

unfoldable pub rows : List Row
unfolding metres_rows rotation_rows length_rows frame_rows
rows = metres_rows ++ (rotation_rows ++ (length_rows ++ frame_rows))
