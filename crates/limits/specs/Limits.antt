-- The limits of document 01, "The direct call", the views that it asks for a link and the layout of its two answers.
-- Assumes nothing.
use Rattle.std.specs.Prelude.{ℕ, ◌+◌, ◌*◌}

-- "Views: 1 to 64."
abbrev pub max_views : ℕ
max_views = 64

-- "Cameras: 1 to 16."
abbrev pub max_cameras : ℕ
max_cameras = 16

-- "Cameras are linked if they share a view": one shared view links two cameras.
abbrev pub one_view : ℕ
one_view = 1

-- ---- the first answer

-- A pose is "seven floats".
abbrev pub pose_floats : ℕ
pose_floats = 7

-- "The first answer has at least 7 × (cameras + views) floats, cameras first".
abbrev pub first_needs : ℕ → ℕ → ℕ
first_needs cameras views = pose_floats * (cameras + views)

-- ---- the second answer

-- "the second at least 2 × cameras bytes, a parent and a link count each": the bytes of a camera, and where these two stand.
abbrev pub chain_bytes : ℕ
chain_bytes = 2

abbrev pub parent_place : ℕ → ℕ
parent_place c = chain_bytes * c

abbrev pub links_place : ℕ → ℕ
links_place c = chain_bytes * c + 1

abbrev pub second_needs : ℕ → ℕ
second_needs cameras = chain_bytes * cameras
