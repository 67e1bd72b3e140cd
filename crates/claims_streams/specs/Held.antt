-- Which poses a session holds after commands: a fold over the edits that were accepted, the last one that names a cell deciding what it holds.
-- Rests on what commands answer in `Stream`.
use Rattle.std.specs.Prelude.{ℕ, ◌+◌, ◌*◌, ◌<◌, ◌≡◌, Bool, true, false, ◌&&◌, ◌||◌, cond, List, [], ◌∷◌, ◌++◌, length, get_or, eqb, Float}
use Rattle.std.specs.Prelude.{Option, None, Some}
use Rattle.std.specs.Float.{nan}
use Rattle.arithmetic.specs.Pose.{pose_at}
use Rattle.arithmetic.specs.declared.pose.Pose.{Pose}
use Rattle.limits.specs.Limits.{max_cameras}
use Rattle.lists.specs.Masks.{in_mask}
use Rattle.command.specs.Command.{Edit, size, place, withdraw, Command, edit, solve}
use Rattle.session_commands.specs.Obeyed.{State}
use Rattle.session_commands.specs.Reply.{Reply}
use Rattle.claims_streams.specs.Stream.{answer_to}
use Rattle.std.specs.Prelude.{Err, Ok}
use Rattle.session_commands.specs.declared.Done.TheVariants.{Accepted, End, Solved}

-- ---- the edits that are accepted, in their order

unfoldable pub edits_in : Command → List Edit
edits_in (edit change) = change ∷ []
edits_in solve = []

-- By the reply to a command.
unfoldable pub accepted_in : Command → Reply → List Edit
unfolding edits_in
accepted_in command (Ok End) = []
accepted_in command (Ok Accepted) = edits_in command
accepted_in command (Ok Solved) = []
accepted_in command (Err r) = []

unfoldable pub accepted_edits : State → List Command → List Edit
unfolding accepted_in answer_to
accepted_edits t [] = []
accepted_edits t (command ∷ later) = accepted_in command (answer_to t command).reply ++ accepted_edits (answer_to t command).after later

-- ---- what they leave of a cell

-- What an accepted edit leaves of a cell that held this.
unfoldable pub cell_after : Edit → ℕ → ℕ → Option Pose → Option Pose
cell_after (size views cameras reference) v c before = before
cell_after (place view camera p) v c before = cond (eqb view v && eqb camera c) (Some p) before
cell_after (withdraw view camera) v c before = cond (eqb view v && eqb camera c) None before

unfoldable pub held_from : Option Pose → List Edit → ℕ → ℕ → Option Pose
unfolding cell_after
held_from before [] v c = before
held_from before (change ∷ later) v c = held_from (cell_after change v c before) later v c

-- The pose of view v and camera c after these edits of a fresh session, if it holds one.
abbrev pub held_after : List Edit → ℕ → ℕ → Option Pose
held_after edits v c = held_from None edits v c

-- Whether an edit names a cell, and whether one of several does.
unfoldable pub names : Edit → ℕ → ℕ → Bool
names (size views cameras reference) v c = false
names (place view camera p) v c = eqb view v && eqb camera c
names (withdraw view camera) v c = eqb view v && eqb camera c

unfoldable pub named : List Edit → ℕ → ℕ → Bool
unfolding names
named [] v c = false
named (change ∷ later) v c = names change v c || named later v c

-- The last of these edits that names the cell is a Pose with these numbers.
pub record LastIsPose (edits : List Edit) (v c : ℕ) (p : Pose) : Type 0 where
  pub before : List Edit
  pub later : List Edit
  pub splits : edits ≡ before ++ (place v c p ∷ later)
  pub no_later : named later v c ≡ false

-- Whether an edit writes the floats of a cell, and whether one of several does.
unfoldable pub writes : Edit → ℕ → ℕ → Bool
writes (size views cameras reference) v c = false
writes (place view camera p) v c = eqb view v && eqb camera c
writes (withdraw view camera) v c = false

unfoldable pub written : List Edit → ℕ → ℕ → Bool
unfolding writes
written [] v c = false
written (change ∷ later) v c = writes change v c || written later v c

-- ---- masks and buffer

-- They hold just this in a cell: its bit is clear, or it is set and "a cell's seven from 7 × (view × 16 + camera)" are that pose's.
abbrev pub HoldsCell : List ℕ → List Float → ℕ → ℕ → Option Pose → Type 0
HoldsCell masks buffer v c None = in_mask (get_or masks c 0) v ≡ false
HoldsCell masks buffer v c (Some p) = (in_mask (get_or masks c 0) v ≡ true) × (pose_at buffer (7 * (v * 16 + c)) ≡ p)

-- They hold what these edits of a fresh session leave, and nothing else; `start` is what the buffer held before any of them.
pub record HoldsExactly (edits : List Edit) (start : List Float) (t : State) : Type 0 where
  -- "bit v is set when view v holds a pose of that camera"
  pub cells : (v c : ℕ) → c < max_cameras → HoldsCell t.session.masks t.buffer v c (held_after edits v c)
  -- "an accepted Pose writes those seven only"
  pub others_kept : (v c : ℕ) → c < max_cameras → written edits v c ≡ false
      → (k : ℕ) → k < 7 → get_or t.buffer (7 * (v * 16 + c) + k) nan ≡ get_or start (7 * (v * 16 + c) + k) nan
  -- "a lent buffer of exactly 7,168 floats": it stays as long as it was.
  pub same_length : length t.buffer ≡ length start
