-- The most bytes that each part of a listing takes. Assumes nothing.
use Rattle.std.specs.Prelude.{ℕ, ◌+◌, ◌*◌}

-- A blank and three digits: a count, an index, a parent or a link count.
abbrev pub small_bytes : ℕ
small_bytes = 4

-- A blank and 16 digits.
abbrev pub float_bytes : ℕ
float_bytes = 17

-- A pose that is printed as so many floats, and the line's end.
abbrev pub pose_bytes : ℕ → ℕ
pose_bytes floats = floats * float_bytes + 1

-- The lines: two letters or one, the fields, and the line's end.
abbrev pub ok_bytes : ℕ
ok_bytes = 2 + 2 * small_bytes + 1

-- Index, parent and links.
abbrev pub camera_bytes : ℕ → ℕ
camera_bytes floats = 1 + 3 * small_bytes + pose_bytes floats

-- Index.
abbrev pub view_bytes : ℕ → ℕ
view_bytes floats = 1 + small_bytes + pose_bytes floats
