-- A session that began fresh never holds a number that is not finite: `held_finite`. An accepted Pose was checked for 7, and nothing else
-- is held. So demands 2 and 3 hold of every Solve in its streams (`solve_from_fresh`), and 7 never refuses a Solve (`never_7_at_solve`).
-- Assumes nothing.
use Prim.Native.Nat.{ℕ, ◌*◌, ◌/◌, ◌%◌, ◌≤◌, ◌<◌}
use native.Mathlib.Nat.{mod-lt}
use native.Mathlib.Omega.{arith}
use mathlib.Core.Path.{◌≡◌, refl, sym, ap, subst, ◌∙◌}
use mathlib.Core.Bool.{Bool, true, false, not, cond}
use Rattle.std.specs.Prelude.{Option, None, Some}
use mathlib.Core.List.{List, [], ◌∷◌, ◌++◌}
use lib.ListN.{length, get_or}
use lib.Dec.{T}
use lib.Ieee.{Float}
use Rattle.arithmetic.specs.Pose.{pose_at, finite_pose}
use Rattle.arithmetic.specs.declared.pose.Pose.{Pose}
use Rattle.refusal.specs.Table.{refuse_if, refuse_at, first_of}
use Rattle.refusal.specs.declared.Refusal.{Refusal}
use Rattle.refusal.specs.declared.Refusal.TheVariants.{NotFinite, NoSize}
use Rattle.limits.specs.Limits.{max_cameras}
use Rattle.lists.specs.Masks.{in_mask}
use Rattle.placing.specs.Grid.{Grid}
use Rattle.extrinsics.specs.Outcome.{is_not_finite, lowest_not_finite, not_finite, lowest_empty_view, grid_refusal}
use Rattle.placing.specs.Rig.{rig_cell, rig_grid}
use Rattle.inputs.proofs.Answering.{refuse_at-none}
use Rattle.lists.proofs.Lowest.{lowest-nothing}
use Rattle.lists.proofs.Tabulated.{get_d_tabulate}
use Rattle.claims_direct.proofs.GridRefusals.{left, grid_refusal-unreached, grid_refusal-empty_view}
use Rattle.claims_direct.proofs.HeldCells.{some-column}
use Rattle.command.specs.Command.{Command, solve}
use Rattle.session_record.specs.Session.{held_of, fresh, buffer_length, cell_start, has_size, rig_of, session_grid, possible}
use Rattle.session_commands.specs.Commands.{command_refusal}
use Rattle.session_commands.specs.Obeyed.{first_length, second_length, State, state}
use Rattle.session.specs.Call.{max_stream}
use Rattle.session_record.specs.declared.Session.{Session}
use Rattle.claims_streams.specs.Stream.{contents_of, Answer, state_after_all, calls, Usable}
use Rattle.claims_streams.specs.Held.{held_after, accepted_edits, HoldsCell}
use Rattle.claims_streams.specs.SolveDemands.{AsDemanded}
use Rattle.claims_streams.proofs.Accepting.{solve_checks}
use Rattle.claims_streams.proofs.Sound.{within_limits}
use Rattle.claims_streams.proofs.Edits.Law.{FiniteCell}
use Rattle.claims_streams.proofs.Held.{usable_start, held_exactly, finite_held}
use Rattle.claims_streams.proofs.SolveInStreams.{solve_in_stream}
use Rattle.claims_streams.proofs.Usable.{usable_after_all}

-- ---- grids

-- A cell that is marked and holds finite numbers, if any, has them in the buffer.
finite_cell : (masks : List ℕ) (buffer : List Float) (v c : ℕ) (o : Option Pose) → HoldsCell masks buffer v c o → FiniteCell o
    → T (in_mask (get_or masks c 0) v) → T (finite_pose (pose_at buffer (cell_start v c)))
finite_cell masks buffer v c None clear finite marked = absurd (subst T clear marked)
finite_cell masks buffer v c (Some p) (_, same) finite marked = subst (λ (q : Pose). T (finite_pose q)) (sym same) finite

finite_marked : (b : Bool) (p : Pose) → (T b → T (finite_pose p)) → is_not_finite (cond b (Some p) None) ≡ false
unfolding is_not_finite
finite_marked true p f = go (finite_pose p) (f tt)
  where
    go : (b : Bool) → T b → not b ≡ false
    go true h = refl
    go false h = absurd h
finite_marked false p f = refl

-- 7 finds nothing where every pose that the masks mark is finite.
finite_grid : (s : Session) (buffer : List Float) → T (possible s)
    → ((v c : ℕ) → c < max_cameras → T (in_mask (get_or s.masks c 0) v) → T (finite_pose (pose_at buffer (cell_start v c))))
    → not_finite (session_grid (held_of s) buffer) ≡ None
unfolding not_finite lowest_not_finite rig_grid
finite_grid s buffer allowed each =
    refuse_at-none (lowest_not_finite (session_grid (held_of s) buffer)) NotFinite
    (lowest-nothing (λ i. is_not_finite (get_or (session_grid (held_of s) buffer).cells i None)) (s.views * s.cameras) cell_finite)
  where
    cell_finite : (i : ℕ) → i < s.views * s.cameras → is_not_finite (get_or (session_grid (held_of s) buffer).cells i None) ≡ false
    cell_finite i h =
        let some_camera : 0 < s.cameras = some-column i s.views s.cameras h in
        let cameras_fit : s.cameras ≤ max_cameras = (within_limits s allowed).1 in
        let v = i / s.cameras in
        let c = i % s.cameras in
        ap is_not_finite (get_d_tabulate (s.views * s.cameras) (λ j. rig_cell (rig_of (held_of s)) buffer (j / s.cameras) (j % s.cameras)) None i h)
        ∙ finite_marked (in_mask (get_or s.masks c 0) v) (pose_at buffer (cell_start v c)) (each v c (omega (arith, mod-lt i some_camera)))

-- ---- what Solve refuses

-- Where 7 finds nothing in a grid, it is refused by 8 or 9, if at all.
grid_not_7 : (g : Grid) → not_finite g ≡ None → (n : ℕ) → grid_refusal g ≡ Some (NotFinite n) → ⊥
unfolding refuse_at
grid_not_7 g finite n e = go (left g) refl (lowest_empty_view g) refl
  where
    go : (l : List ℕ) → left g ≡ l → (o : Option ℕ) → lowest_empty_view g ≡ o → ⊥
    go (c ∷ l) f o h = let z : ◌≡◌ {A = ℕ} 0 1 = cc (grid_refusal-unreached g finite c l f) in omega arith
    go [] f None h = let z : ◌≡◌ {A = ℕ} 0 1 = cc (grid_refusal-empty_view g finite f) in omega arith
    go [] f (Some v) h = let z : ◌≡◌ {A = ℕ} 0 1 = cc (grid_refusal-empty_view g finite f) in omega arith

solve-not_7 : (s : Session) (buffer : List Float) → not_finite (session_grid (held_of s) buffer) ≡ None
    → (n : ℕ) → command_refusal (held_of s) buffer solve ≡ Some (NotFinite n) → ⊥
unfolding first_of refuse_if
solve-not_7 s buffer finite n e =
    go (has_size (held_of s)) (grid_refusal (session_grid (held_of s) buffer)) (grid_not_7 (session_grid (held_of s) buffer) finite n) (sym (solve_checks s buffer) ∙ e)
  where
    go : (sized : Bool) (o : Option Refusal) → (o ≡ Some (NotFinite n) → ⊥) → first_of (refuse_if (not sized) NoSize ∷ o ∷ []) ≡ Some (NotFinite n) → ⊥
    go true None other f = other f
    go true (Some r) other f = other f
    go false o other f = let z : ◌≡◌ {A = ℕ} 0 1 = cc in omega arith

-- ---- a session that began fresh

-- From a fresh session, whatever the buffer held.
module _ (buffer first : List Float) (second : List ℕ) (buffer_fits : length buffer ≡ buffer_length)
    (first_fits : first_length ≤ length first) (second_fits : second_length ≤ length second) where
  abbrev start : State
  start = state fresh buffer first second

  usable : Usable start
  usable = usable_start buffer first second buffer_fits first_fits second_fits

  -- After any commands 7 finds nothing in "the grid that masks and buffer hold".
  pub held_finite : (commands : List Command)
      → not_finite (session_grid (held_of (state_after_all start commands).session) (state_after_all start commands).buffer) ≡ None
  held_finite commands =
      finite_grid (state_after_all start commands).session (state_after_all start commands).buffer (usable_after_all commands start usable).record_possible
      (λ v c h.
      finite_cell (state_after_all start commands).session.masks (state_after_all start commands).buffer v c (held_after (accepted_edits start commands) v c)
      ((held_exactly buffer first second buffer_fits first_fits second_fits commands).cells v c h)
      (finite_held buffer first second buffer_fits first_fits second_fits commands v c))

  -- So every Solve in a stream, once a Size was accepted, answers as both demands ask.
  pub solve_from_fresh : (stream : List ℕ) → length stream ≤ max_stream → (before after : List Command)
      → (contents_of stream).commands ≡ before ++ (solve ∷ after) → 0 < (state_after_all start before).session.views
      → (outside : Answer) → AsDemanded (state_after_all start before) (get_or (calls start stream) (length before) outside)
  solve_from_fresh stream short before after held some_view =
      solve_in_stream start usable stream short before after held some_view (held_finite before)

  -- "Solve checks 7, 8, 9": here 7 never refuses it.
  pub never_7_at_solve : (commands : List Command) (n : ℕ)
      → command_refusal (held_of (state_after_all start commands).session) (state_after_all start commands).buffer solve ≡ Some (NotFinite n) → ⊥
  never_7_at_solve commands =
      solve-not_7 (state_after_all start commands).session (state_after_all start commands).buffer (held_finite commands)
