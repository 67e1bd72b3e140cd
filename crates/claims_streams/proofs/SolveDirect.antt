-- Solve is the direct call: on the counts, marks and floats that a session stands for, the direct call has the session's grid, passes
-- its checks 1 to 6, refuses what Solve refuses and answers what Solve answers. So what is shown of the direct call holds of Solve.
-- Assumes nothing.
use Prim.Native.Nat.{ℕ, zero, suc, ◌+◌, ◌*◌, ◌/◌, ◌%◌, ◌≤◌, ◌<◌}
use native.Mathlib.Decide.{dec_lt}
use native.Mathlib.Omega.{arith}
use mathlib.Core.Path.{◌≡◌, refl, sym, ap, ap₂, ◌∙◌}
use mathlib.Core.Bool.{Bool, true, false, not, cond}
use Rattle.std.specs.Prelude.{Option, None, Some}
use mathlib.Core.List.{List, [], ◌∷◌, ◌++◌}
use lib.ListN.{length, get_or, length-replicate, get_or-replicate, get_or-append}
use lib.Seq.{get_or-append-add}
use lib.Dec.{T, eqb, ltb}
use lib.Ieee.{Float, nan}
use borrow.Author.Tests.{eq-eqb, ne_eqb, le-ltb}
use Rattle.arithmetic.specs.Pose.{flat, pose_at}
use Rattle.arithmetic.specs.declared.pose.Pose.{Pose}
use Rattle.limits.specs.Limits.{first_needs, second_needs}
use Rattle.lists.specs.Masks.{in_mask}
use Rattle.lists.specs.Lists.{tabulate, gather}
use Rattle.placing.specs.Grid.{Grid}
use Rattle.placing.specs.Estimate.{transforms, chains}
use Rattle.extrinsics.specs.Outcome.{grid_refusal, outcome_of, answered}
use Rattle.placing.specs.Rig.{masked_cell, rig_cell, rig_grid}
use Rattle.refusal.specs.Table.{refuse_if, first_of}
use Rattle.refusal.specs.declared.Refusal.{Refusal}
use Rattle.refusal.specs.declared.Refusal.TheVariants.{CountDiffers, BadMark, NoSize}
use Rattle.inputs.specs.Inputs.{size_refusal, cell_count, lowest_other_count, count_refusal, length_refusal, lowest_bad_mark, mark_refusal, input_refusal}
use Rattle.extrinsics.specs.Direct.{marked_cell, direct_grid, direct_refusal}
use Rattle.placing.specs.Grid.{Cell}
use Rattle.inputs.proofs.Answering.{refuse_at-none, first_of_none, Sizes, size_refusal-sizes}
use Rattle.lists.proofs.Lowest.{lowest-nothing}
use Rattle.lists.proofs.Blocks.{length-gather}
use Rattle.lists.proofs.Tabulated.{length-tabulate, get_d_tabulate, tabulate_agree}
use Rattle.command.specs.Command.{Command, solve}
use Rattle.session_record.specs.Session.{held_of, cell_start, has_size, rig_of, session_grid, possible}
use Rattle.session_commands.specs.Commands.{command_refusal, session_after, buffer_after}
use Rattle.session_commands.specs.Obeyed.{first_length, second_length, State, reply_to, first_after, second_after, state_after}
use Rattle.claims_streams.specs.Stream.{answer, answer_to, state_after_all, Usable}
use Rattle.claims_streams.specs.DirectInputs.{counts_of, marks_of, floats_of, reply_of, AsDirect}
use Rattle.session_record.specs.declared.Session.{Session}
use Rattle.claims_streams.proofs.Accepting.{refuse_if_false, first_of_all_none, solve_checks}
use Rattle.claims_streams.proofs.Cells.{pose_at-flat}
use Rattle.claims_streams.proofs.Sound.{has_sizes, sound_of_possible}
use Rattle.claims_streams.proofs.Usable.{answer_to-accepted, answer_to-refused, usable_after_all}
use Rattle.std.specs.Prelude.{Err}

-- ---- blocks of seven

-- What stands in block i of those gathered.
get_or-gather : (f : ℕ → List Float) → ((i : ℕ) → length (f i) ≡ 7) → (n i k : ℕ) → i < n → k < 7 → get_or (gather n f) (7 * i + k) nan ≡ get_or (f i) k nan
unfolding gather
get_or-gather f each zero i k h l = absurd (omega arith)
get_or-gather f each (suc n) i k h l = go (dec_lt i n) (get_or-gather f each n i k)
  where
    go : Dec (i < n) → (i < n → k < 7 → get_or (gather n f) (7 * i + k) nan ≡ get_or (f i) k nan) → get_or (gather n f ++ f n) (7 * i + k) nan ≡ get_or (f i) k nan
    go (yes b) before = get_or-append (gather n f) (f n) nan (7 * i + k) (omega (arith, length-gather f 7 each n)) ∙ before b l
    go (no b) before =
        ap (λ (j : ℕ). get_or (gather n f ++ f n) j nan) (omega (arith, length-gather f 7 each n))
        ∙ get_or-append-add (gather n f) (f n) k nan
        ∙ ap (λ (j : ℕ). get_or (f j) k nan) (omega arith)

-- ---- the grid

held-or-empty : (b : Bool) (p : Pose) → cond b (Some p) None ≡ cond (eqb (cond b 1 0) 0) None (Some p)
held-or-empty true p = refl
held-or-empty false p = refl

module _ (s : Session) where
  pub length-marks_of : length (marks_of s) ≡ s.views * s.cameras
  unfolding marks_of
  length-marks_of = length-tabulate (s.views * s.cameras) _

  pub mark_at : (i : ℕ) → i < s.views * s.cameras → get_or (marks_of s) i 0 ≡ cond (in_mask (get_or s.masks (i % s.cameras) 0) (i / s.cameras)) 1 0
  unfolding marks_of
  mark_at i h = get_d_tabulate (s.views * s.cameras) (λ j. cond (in_mask (get_or s.masks (j % s.cameras) 0) (j / s.cameras)) 1 0) 0 i h

  pub mark_small : (i : ℕ) → i < s.views * s.cameras → get_or (marks_of s) i 0 ≤ 1
  mark_small i h = rw (mark_at i h) (go (in_mask (get_or s.masks (i % s.cameras) 0) (i / s.cameras)))
    where
      go : (b : Bool) → cond b 1 0 ≤ 1
      go true = omega arith
      go false = omega arith

module _ (s : Session) (buffer : List Float) where
  abbrev cells : ℕ
  cells = s.views * s.cameras

  pub pose_at-floats_of : (i : ℕ) → i < cells → pose_at (floats_of s buffer) (7 * i) ≡ pose_at buffer (cell_start (i / s.cameras) (i % s.cameras))
  unfolding floats_of
  pose_at-floats_of i h =
      pose_at-flat (floats_of s buffer) (7 * i) (pose_at buffer (cell_start (i / s.cameras) (i % s.cameras)))
      (λ k l. get_or-gather (λ j. flat (pose_at buffer (cell_start (j / s.cameras) (j % s.cameras)))) (λ j. refl) cells i k h l)

  pub rig_cell-marked : (i : ℕ) → i < cells → rig_cell (rig_of (held_of s)) buffer (i / s.cameras) (i % s.cameras) ≡ marked_cell (marks_of s) (floats_of s buffer) i
  unfolding rig_cell masked_cell marked_cell
  rig_cell-marked i h =
      held-or-empty (in_mask (get_or s.masks (i % s.cameras) 0) (i / s.cameras)) (pose_at buffer (cell_start (i / s.cameras) (i % s.cameras)))
      ∙ ap₂ (λ (m : ℕ) (p : Pose). cond (eqb m 0) None (Some p))
      (sym (mark_at s i h)) (sym (pose_at-floats_of i h))

  pub length-floats_of : length (floats_of s buffer) ≡ 7 * cells
  unfolding floats_of
  length-floats_of = length-gather (λ i. flat (pose_at buffer (cell_start (i / s.cameras) (i % s.cameras)))) 7 (λ i. refl) cells

  module _ (some_view : 0 < s.views) where
    pub length-counts_of : length (counts_of s) ≡ s.views
    unfolding counts_of
    length-counts_of = length-replicate s.views s.cameras

    pub each-counts_of : (v : ℕ) → v < s.views → get_or (counts_of s) v 0 ≡ s.cameras
    unfolding counts_of
    each-counts_of v h = get_or-replicate s.views v s.cameras 0 h

    first-counts_of : get_or (counts_of s) 0 0 ≡ s.cameras
    first-counts_of = each-counts_of 0 some_view

    -- "the grid that masks and buffer hold" is the direct call's.
    pub grid_is_direct : session_grid (held_of s) buffer ≡ direct_grid (counts_of s) (marks_of s) (floats_of s buffer) s.reference
    unfolding rig_grid direct_grid
    grid_is_direct =
        let grid : ℕ → ℕ → List Cell → Grid = λ v c l. record { views = v; cameras = c; reference = s.reference; cells = l } in
        ap (grid s.views s.cameras)
        (tabulate_agree cells (λ i. rig_cell (rig_of (held_of s)) buffer (i / s.cameras) (i % s.cameras)) (marked_cell (marks_of s) (floats_of s buffer)) rig_cell-marked)
        ∙ ap₂ (λ (v c : ℕ). grid v c (tabulate (v * c) (marked_cell (marks_of s) (floats_of s buffer)))) (sym length-counts_of) (sym first-counts_of)

    -- The record is one that accepted commands could leave, and the lent answers have "at least 560 floats and 32 bytes".
    module _ (allowed : T (possible s)) (first_room second_room : ℕ) (first_fits : first_length ≤ first_room) (second_fits : second_length ≤ second_room) where
      sizes : Sizes s.views s.cameras s.reference
      sizes = has_sizes s (sound_of_possible s allowed) some_view

      sizes_pass : size_refusal (length (counts_of s)) (get_or (counts_of s) 0 0) s.reference ≡ None
      sizes_pass =
          ap₂ (λ (v c : ℕ). size_refusal v c s.reference) length-counts_of first-counts_of
          ∙ size_refusal-sizes s.views s.cameras s.reference sizes

      counts_pass : count_refusal (counts_of s) ≡ None
      unfolding count_refusal lowest_other_count
      counts_pass =
          refuse_at-none (lowest_other_count (counts_of s)) CountDiffers
          (lowest-nothing (λ v. not (eqb (get_or (counts_of s) v 0) (get_or (counts_of s) 0 0))) (length (counts_of s))
          (λ v h. ap not (eq-eqb (get_or (counts_of s) v 0) (get_or (counts_of s) 0 0) (each-counts_of v (omega (arith, length-counts_of)) ∙ sym first-counts_of))))

      cell_count-counts_of : cell_count (counts_of s) ≡ cells
      cell_count-counts_of = ap₂ (λ (v c : ℕ). v * c) length-counts_of first-counts_of

      lengths_pass : length_refusal (length (counts_of s)) (get_or (counts_of s) 0 0) (length (marks_of s)) (length (floats_of s buffer)) first_room second_room ≡ None
      unfolding length_refusal refuse_if
      lengths_pass =
          rw (
            length-counts_of,
            first-counts_of,
            eq-eqb (length (marks_of s)) cells (length-marks_of s),
            eq-eqb (length (floats_of s buffer)) (7 * cells) length-floats_of,
            le-ltb first_room (first_needs s.cameras s.views) (omega (arith, sizes.views_fit, sizes.cameras_fit)),
            le-ltb second_room (second_needs s.cameras) (omega (arith, sizes.cameras_fit)),
          )

      marks_pass : mark_refusal (cell_count (counts_of s)) (marks_of s) ≡ None
      unfolding mark_refusal lowest_bad_mark
      marks_pass =
          refuse_at-none (lowest_bad_mark (cell_count (counts_of s)) (marks_of s)) BadMark
          (lowest-nothing (λ i. ltb 1 (get_or (marks_of s) i 0)) (cell_count (counts_of s))
          (λ i h. le-ltb 1 (get_or (marks_of s) i 0) (mark_small s i (omega (arith, cell_count-counts_of)))))

      -- The direct call's checks 1 to 6 find nothing.
      pub inputs_pass : input_refusal (counts_of s) (marks_of s) (length (floats_of s buffer)) s.reference first_room second_room ≡ None
      unfolding input_refusal
      inputs_pass =
          first_of_all_none
          (size_refusal (length (counts_of s)) (get_or (counts_of s) 0 0) s.reference
          ∷ count_refusal (counts_of s)
          ∷ length_refusal (length (counts_of s)) (get_or (counts_of s) 0 0) (length (marks_of s)) (length (floats_of s buffer)) first_room second_room
          ∷ mark_refusal (cell_count (counts_of s)) (marks_of s)
          ∷ [])
          (sizes_pass, (counts_pass, (lengths_pass, (marks_pass, tt))))

      -- So the direct call refuses what Solve refuses.
      pub solve-refusal-direct : command_refusal (held_of s) buffer solve ≡ direct_refusal (counts_of s) (marks_of s) (floats_of s buffer) s.reference first_room second_room
      unfolding direct_refusal
      solve-refusal-direct =
          solve_checks s buffer
          ∙ first_of_none (refuse_if (not (has_size (held_of s))) NoSize) (grid_refusal (session_grid (held_of s) buffer) ∷ [])
          (refuse_if_false (not (has_size (held_of s))) NoSize (ap (λ (b : Bool). not (not b)) (ne_eqb s.views 0 (omega arith))))
          ∙ ap (λ (g : Grid). first_of (grid_refusal g ∷ [])) grid_is_direct
          ∙ sym (first_of_none (input_refusal (counts_of s) (marks_of s) (length (floats_of s buffer)) s.reference first_room second_room)
          (grid_refusal (direct_grid (counts_of s) (marks_of s) (floats_of s buffer) s.reference) ∷ []) inputs_pass)

-- ---- the answer

module _ (t : State) (u : Usable t) (some_view : 0 < t.session.views) where
  abbrev refusal : Option Refusal
  refusal = direct_refusal (counts_of t.session) (marks_of t.session) (floats_of t.session t.buffer) t.session.reference (length t.first) (length t.second)

  same_refusal : command_refusal (held_of t.session) t.buffer solve ≡ refusal
  same_refusal =
      solve-refusal-direct t.session t.buffer some_view u.record_possible
      (length t.first) (length t.second) u.first_fits u.second_fits

  abbrev own : Grid
  own = direct_grid (counts_of t.session) (marks_of t.session) (floats_of t.session t.buffer) t.session.reference

  as_direct_solved : refusal ≡ None → AsDirect t (answer (reply_to solve) (state_after t solve))
  unfolding reply_of outcome_of reply_to state_after session_after buffer_after first_after second_after
  as_direct_solved e =
      let same = grid_is_direct t.session t.buffer some_view in
      record {
        outcome = outcome_of refusal;
        direct = record {
          outcome = refl;
          first_answer = ap₂ (λ (o : Option Refusal) (g : Grid). answered o (transforms g) t.first) (sym e) same;
          second_answer = ap₂ (λ (o : Option Refusal) (g : Grid). answered o (chains g) t.second) (sym e) same;
        };
        reply = ap (λ (o : Option Refusal). reply_of (outcome_of o)) (sym e);
        same_session = refl;
        same_buffer = refl;
      }

  as_direct-refused : (r : Refusal) → refusal ≡ Some r → AsDirect t (answer (Err r) t)
  unfolding reply_of outcome_of answered
  as_direct-refused r e =
      record {
        outcome = outcome_of refusal;
        direct = record {
          outcome = refl;
          first_answer = ap (λ (o : Option Refusal). answered o (transforms own) t.first) (sym e);
          second_answer = ap (λ (o : Option Refusal). answered o (chains own) t.second) (sym e);
        };
        reply = ap (λ (o : Option Refusal). reply_of (outcome_of o)) (sym e);
        same_session = refl;
        same_buffer = refl;
      }

  -- "Solve answers as the direct call would on the grid that masks and buffer hold, into two lent answers".
  pub solve_as_direct : AsDirect t (answer_to t solve)
  solve_as_direct = go refusal refl
    where
      go : (o : Option Refusal) → refusal ≡ o → AsDirect t (answer_to t solve)
      go None e = rw (answer_to-accepted t solve (same_refusal ∙ e)) (as_direct_solved e)
      go (Some r) e = rw (answer_to-refused t solve r (same_refusal ∙ e)) (as_direct-refused r e)

-- After any commands, once a Size was accepted.
pub solve-after : (t : State) → Usable t → (before : List Command) → 0 < (state_after_all t before).session.views
    → AsDirect (state_after_all t before) (answer_to (state_after_all t before) solve)
solve-after t u before some_view = solve_as_direct (state_after_all t before) (usable_after_all before t u) some_view
