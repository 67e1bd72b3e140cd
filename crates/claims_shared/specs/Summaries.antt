-- What the entries of a record's summary are, in the terms of document 01's chains: the views shared by the poses held, and the ones of both masks. Rests
-- on the grid that a session holds and on the shared counts of `chains`.
use Rattle.std.specs.Prelude.{ℕ, ◌+◌, ◌*◌, ◌≤◌, ◌<◌, ◌≡◌, ◌⊎◌, Bool, true, false, List, get_or, Float}
use Rattle.std.specs.Prelude.{Option, None, Some}
use Rattle.std.specs.Int.Bits.{bit_and}
use Rattle.std.specs.Int.Count.{ones}
use Rattle.arithmetic.specs.declared.pose.Pose.{Pose}
use Rattle.lists.specs.Finding.{count}
use Rattle.chains.specs.Shared.{shared}
use Rattle.placing.specs.Grid.{holds}
use Rattle.session_record.specs.Session.{held_of, session_grid}
use Rattle.session_record.specs.declared.Session.{Session}

-- The entry of cameras a and b, row by row.
abbrev pub entry : Session → ℕ → ℕ → ℕ
entry s a b = get_or s.shared (16 * a + b) 0

-- Whether a cell that holds this holds a pose.
unfoldable pub holds_pose : Option Pose → Bool
holds_pose None = false
holds_pose (Some p) = true

pub record Summarises (s : Session) : Type 0 where
  -- "Two different cameras share each view that holds poses of both": the count that links and parents go by, on the grid that Solve sees.
  pub shared_on_grid : (buffer : List Float) (a b : ℕ) → a < s.cameras → b < s.cameras
      → entry s a b ≡ shared (holds (session_grid (held_of s) buffer)) s.views a b
  -- "a camera with itself counts its own poses"
  pub own_poses : (buffer : List Float) (a : ℕ) → a < s.cameras → entry s a a ≡ count (λ v. holds (session_grid (held_of s) buffer) v a) s.views
  -- "The shared count is the number of ones in both masks taken together, bit by bit."
  pub ones_of_both : (a b : ℕ) → a < 16 → b < 16 → entry s a b ≡ ones (bit_and (get_or s.masks a 0) (get_or s.masks b 0))
  pub symmetric : (a b : ℕ) → a < 16 → b < 16 → entry s a b ≡ entry s b a
  pub nothing_outside : (a b : ℕ) → a < 16 → b < 16 → (s.cameras ≤ a) ⊎ (s.cameras ≤ b) → entry s a b ≡ 0
