-- Demand 1 for one call of the session (`call_demand_1`): whatever the state, the stream and the offset, the call refuses by a number and a detail
-- exactly when the papers' words for it hold and none before them do; and so for the code's own answer (`called_demand_1`). The checks in words
-- come to what the call finds (`CallWords`), list after list in the papers' order; what a call leaves that is not refused is in `AcceptedCalls`.
-- Assumes nothing.
use Prim.Native.Nat.{ℕ, ◌+◌, ◌≤◌, ◌<◌}
use native.Mathlib.Omega.{arith}
use mathlib.Core.Path.{◌≡◌, refl, sym, ap, subst, ◌∙◌}
use mathlib.Core.Logic.{◌⊎◌, inl, inr, ⊎_elim}
use mathlib.Core.Bool.{false}
use Rattle.std.specs.Prelude.{Option, None, Some}
use mathlib.Core.List.{List, ◌++◌}
use lib.ListN.{length, get_or}
use lib.Ieee.{Float}
use borrow.Author.Tests.{eqb-false}
use Rattle.refusal.specs.Table.{number_of, detail_of, or_else}
use Rattle.refusal.specs.declared.Refusal.{Refusal}
use Rattle.refusal.specs.declared.Refusal.TheVariants.{UnknownCommand, Truncated}
use Rattle.claims_direct.specs.Deciding.{Check, Decides, AllSilent}
use Rattle.claims_direct.proofs.GridRefusals.{or_else_none}
use Rattle.lists.proofs.Tests.{or-false}
use Rattle.command.specs.Command.{size, place, withdraw, Command, edit, solve, size_byte, pose_byte, solve_byte, withdraw_byte, size_width, pose_width, solve_width, withdraw_width, parse, offered_pose}
use Rattle.session_record.specs.Session.{held_of}
use Rattle.session_commands.specs.Commands.{command_refusal, Left}
use Rattle.session_commands.specs.Obeyed.{State, state, result, reply_to, state_after, obeyed}
use Rattle.session.specs.Call.{call_refusal, stopped, read, call, Called}
use Rattle.session.specs.Inner.Steps.{result_of}
use Rattle.session_commands.specs.Reply.{Reply}
use Rattle.session.specs.declared.Step.{Step}
use Rattle.session_commands.proofs.Obeying.{obeyed_cases}
use Rattle.session.proofs.Calling.{call_cases}
use Rattle.claims_streams.specs.Stream.{Answer, Usable, ends_stream}
use Rattle.claims_streams.specs.CallDemand1.{when, Begins, BeginsOfWidth, operand, size_command_checks, pose_command_checks, withdraw_command_checks, solve_command_checks, first_checks, reading_checks, command_checks, call_checks, RefusedWith, EndsTheStream, SizeLeaves, PoseLeaves, WithdrawLeaves, SolveLeaves, CallDemand1}
use Rattle.claims_streams.proofs.CallWords.{comes_first, usable_of_call, Reading, no_command, cut_short, whole-size, whole-pose, whole-withdraw, whole-solve, reading, comes_unknown, comes_cut_short, comes_whole, comes_nothing-read, comes_size, comes_pose, comes_withdraw, comes_solve}
use Rattle.claims_streams.proofs.AcceptedCalls.{size-leaves, pose-leaves, withdraw-leaves, solve-leaves}
use Rattle.claims_streams.proofs.DecidingParts.{Comes, some_same, some-not-none, comes_append, comes_when, comes_when-not}
use Rattle.claims_streams.proofs.Records.{possible-left}
use Rattle.claims_streams.proofs.Streams.{command_goes_on}
use Rattle.claims_streams.proofs.Usable.{answer_to-refused}
use Rattle.std.specs.Prelude.{Err, Ok}
use Rattle.session_commands.specs.declared.Done.TheVariants.{Accepted, End, Solved}

-- ---- replies

abbrev kind : Reply → ℕ
kind (Ok End) = 0
kind (Ok Accepted) = 1
kind (Ok Solved) = 2
kind (Err q) = 3

other_kind : (r r' : Reply) → (kind r ≡ kind r' → ⊥) → r ≡ r' → ⊥
other_kind r r' differ e = differ (ap kind e)

refused_same : (p q : Refusal) → ◌≡◌ {A = Reply} (Err p) (Err q) → p ≡ q
refused_same p q e = cc

-- The numbers that end a stream.
abbrev Ending : ℕ → Type 0
Ending n = (n ≡ 5) ⊎ ((n ≡ 10) ⊎ ((n ≡ 11) ⊎ (n ≡ 13)))

ending-number : (q : Refusal) → EndsTheStream (Err q) → Ending (number_of q)
ending-number q (inl e) = absurd (other_kind (Err q) (Ok End) (omega arith) e)
ending-number q (inr (n, d, (p, same, number, detail), ending)) = subst Ending (sym (ap number_of (refused_same q p same) ∙ number)) ending

number-ends : (q : Refusal) → Ending (number_of q) → EndsTheStream (Err q)
number-ends q ending = inr (number_of q, detail_of q, (q, refl, refl, refl), ending)

-- A refusal after which the stream goes on has no such number.
goes_on_number : (q : Refusal) → ends_stream (Err q) ≡ false → Ending (number_of q) → ⊥
unfolding ends_stream
goes_on_number q e ending =
    let (e₃, not-13) = or-false _ _ e in
    let (e₂, not-11) = or-false _ _ e₃ in
    let (not-5, not-10) = or-false _ _ e₂ in
    ⊎_elim (eqb-false _ _ not-5) (⊎_elim (eqb-false _ _ not-10) (⊎_elim (eqb-false _ _ not-11) (eqb-false _ _ not-13))) ending

-- ---- what the checks come to, and the demand

-- A command that changes the session begins there.
abbrev Changes : List ℕ → ℕ → Type 0
Changes stream at = Begins stream at size_byte ⊎ (Begins stream at pose_byte ⊎ Begins stream at withdraw_byte)

-- So it is before the end, and no Solve.
changes_begin : (stream : List ℕ) (at : ℕ) → Changes stream at → (at < length stream) × (get_or stream at 0 ≡ solve_byte → ⊥)
changes_begin stream at (inl (l, b)) = (l, λ s. omega arith)
changes_begin stream at (inr (inl (l, b))) = (l, λ s. omega arith)
changes_begin stream at (inr (inr (l, b))) = (l, λ s. omega arith)

module _ (t : State) (stream : List ℕ) (at : ℕ) where
  abbrev checks : List Check
  checks = call_checks t stream at

  -- Where the next command begins, if the reply does not end the stream.
  abbrev NextCommand : ℕ → Type 0
  NextCommand next = (width : ℕ) × BeginsOfWidth stream at width × (at + width ≤ length stream) × (next ≡ at + width)

  demand_refused : (q : Refusal) (next : ℕ) → Comes checks (Some q) → (Ending (number_of q) → next ≡ length stream)
      → ((Ending (number_of q) → ⊥) → NextCommand next) → CallDemand1 t stream at (result (Err q) t next)
  demand_refused q next comes at-end goes_on =
      record {
        refused_exactly = λ n d. (
          λ (p, same, number, detail). (comes.decided n d).1 (p, ap Some (refused_same q p same), number, detail),
          λ decides. let (p, same, number, detail) = (comes.decided n d).0 decides in (p, ap Err (some_same q p same), number, detail),
        );
        end_exactly = (λ e. absurd (other_kind (Err q) (Ok End) (omega arith) e), λ w. absurd (some-not-none (comes.silent.0 w.0)));
        accepted_exactly = (λ e. absurd (other_kind (Err q) (Ok Accepted) (omega arith) e), λ w. absurd (some-not-none (comes.silent.0 w.0)));
        solved_exactly = (λ e. absurd (other_kind (Err q) (Ok Solved) (omega arith) e), λ w. absurd (some-not-none (comes.silent.0 w.0)));
        refusal_changes_nothing = λ n d refused. refl;
        end_changes_nothing = λ e. refl;
        accepted_size = λ e. absurd (other_kind (Err q) (Ok Accepted) (omega arith) e);
        accepted_pose = λ e. absurd (other_kind (Err q) (Ok Accepted) (omega arith) e);
        accepted_withdraw = λ e. absurd (other_kind (Err q) (Ok Accepted) (omega arith) e);
        solved_leaves = λ e. absurd (other_kind (Err q) (Ok Solved) (omega arith) e);
        next_at_end = λ ends. at-end (ending-number q ends);
        next_command_is = λ on. goes_on (λ ending. on (number-ends q ending));
      }

  -- No refusal is found, and the reply is none.
  module _ (comes : Comes checks None) where
    none-refused : (r : Reply) → (kind r ≡ 3 → ⊥) → (n d : ℕ) → RefusedWith r n d → ⊥
    none-refused r differ n d (q, same, _, _) = other_kind r (Err q) differ same

    none_decided : (n d : ℕ) → Decides checks n d → ⊥
    none_decided n d decides = some-not-none (sym ((comes.decided n d).0 decides).1)

    all_silent : AllSilent checks
    all_silent = comes.silent.1 refl

    demand_end : at ≡ length stream → CallDemand1 t stream at (result (Ok End) t at)
    demand_end here =
        record {
          refused_exactly = λ n d. (λ refused. absurd (none-refused (Ok End) (omega arith) n d refused), λ decides. absurd (none_decided n d decides));
          end_exactly = (λ e. (all_silent, here), λ w. refl);
          accepted_exactly = (
            λ e. absurd (other_kind (Ok End) (Ok Accepted) (omega arith) e),
            λ w. absurd (past (changes_begin stream at w.1).0),
          );
          solved_exactly = (λ e. absurd (other_kind (Ok End) (Ok Solved) (omega arith) e), λ w. absurd (past w.1.0));
          refusal_changes_nothing = λ n d refused. refl;
          end_changes_nothing = λ e. refl;
          accepted_size = λ e. absurd (other_kind (Ok End) (Ok Accepted) (omega arith) e);
          accepted_pose = λ e. absurd (other_kind (Ok End) (Ok Accepted) (omega arith) e);
          accepted_withdraw = λ e. absurd (other_kind (Ok End) (Ok Accepted) (omega arith) e);
          solved_leaves = λ e. absurd (other_kind (Ok End) (Ok Solved) (omega arith) e);
          next_at_end = λ ends. here;
          next_command_is = λ on. absurd (on (inl refl));
        }
      where
        past : at < length stream → ⊥
        past l = omega arith

    not-ending : (r : Reply) → (kind r ≡ 0 → ⊥) → (kind r ≡ 3 → ⊥) → EndsTheStream r → ⊥
    not-ending r not_end not-refused (inl e) = other_kind r (Ok End) not_end e
    not-ending r not_end not-refused (inr (n, d, refused, _)) = none-refused r not-refused n d refused

    demand_accepted : (after : State) (width : ℕ) → Changes stream at → BeginsOfWidth stream at width → at + width ≤ length stream
        → (Begins stream at size_byte → SizeLeaves t stream at after) → (Begins stream at pose_byte → PoseLeaves t stream at after)
        → (Begins stream at withdraw_byte → WithdrawLeaves t stream at after) → CallDemand1 t stream at (result (Ok Accepted) after (at + width))
    demand_accepted after width begins of_width fits leaves-sizes leaves-pose leaves-withdrawn =
        record {
          refused_exactly = λ n d. (λ refused. absurd (none-refused (Ok Accepted) (omega arith) n d refused), λ decides. absurd (none_decided n d decides));
          end_exactly = (
            λ e. absurd (other_kind (Ok Accepted) (Ok End) (omega arith) e),
            λ w. absurd (let l = (changes_begin stream at begins).0 in let e = w.1 in omega arith),
          );
          accepted_exactly = (λ e. (all_silent, begins), λ w. refl);
          solved_exactly = (
            λ e. absurd (other_kind (Ok Accepted) (Ok Solved) (omega arith) e),
            λ w. absurd ((changes_begin stream at begins).1 w.1.1),
          );
          refusal_changes_nothing = λ n d refused. absurd (none-refused (Ok Accepted) (omega arith) n d refused);
          end_changes_nothing = λ e. absurd (other_kind (Ok Accepted) (Ok End) (omega arith) e);
          accepted_size = λ e. leaves-sizes;
          accepted_pose = λ e. leaves-pose;
          accepted_withdraw = λ e. leaves-withdrawn;
          solved_leaves = λ e. absurd (other_kind (Ok Accepted) (Ok Solved) (omega arith) e);
          next_at_end = λ ends. absurd (not-ending (Ok Accepted) (omega arith) (omega arith) ends);
          next_command_is = λ on. (width, of_width, fits, refl);
        }

    demand_solved : (after : State) → Begins stream at solve_byte → at + solve_width ≤ length stream → SolveLeaves t after
        → CallDemand1 t stream at (result (Ok Solved) after (at + solve_width))
    demand_solved after begins fits leaves =
        record {
          refused_exactly = λ n d. (λ refused. absurd (none-refused (Ok Solved) (omega arith) n d refused), λ decides. absurd (none_decided n d decides));
          end_exactly = (λ e. absurd (other_kind (Ok Solved) (Ok End) (omega arith) e), λ w. absurd (let l = begins.0 in let e = w.1 in omega arith));
          accepted_exactly = (
            λ e. absurd (other_kind (Ok Solved) (Ok Accepted) (omega arith) e),
            λ w. absurd ((changes_begin stream at w.1).1 begins.1),
          );
          solved_exactly = (λ e. (all_silent, begins), λ w. refl);
          refusal_changes_nothing = λ n d refused. absurd (none-refused (Ok Solved) (omega arith) n d refused);
          end_changes_nothing = λ e. absurd (other_kind (Ok Solved) (Ok End) (omega arith) e);
          accepted_size = λ e. absurd (other_kind (Ok Solved) (Ok Accepted) (omega arith) e);
          accepted_pose = λ e. absurd (other_kind (Ok Solved) (Ok Accepted) (omega arith) e);
          accepted_withdraw = λ e. absurd (other_kind (Ok Solved) (Ok Accepted) (omega arith) e);
          solved_leaves = λ e. leaves;
          next_at_end = λ ends. absurd (not-ending (Ok Solved) (omega arith) (omega arith) ends);
          next_command_is = λ on. (solve_width, inr (inr (inl (begins, refl))), fits, refl);
        }

  -- ---- the commands' checks, of which at most one list speaks

  other_byte : (a b : ℕ) → (a ≡ b → ⊥) → Begins stream at a → Begins stream at b → ⊥
  other_byte a b differ (_, x) (_, y) = differ (sym x ∙ y)

  -- One command's checks before those of others: it is not this one, or it is, and the others say nothing.
  module _ (byte : ℕ) (own others : List Check) (o : Option Refusal) where
    not_here : (Begins stream at byte → ⊥) → Comes others o → Comes (when (Begins stream at byte) own ++ others) o
    unfolding or_else
    not_here other comes = comes_append others (when (Begins stream at byte) own) None o (comes_when-not (Begins stream at byte) other own) (λ e. comes)

    here : Begins stream at byte → Comes own o → Comes others None → Comes (when (Begins stream at byte) own ++ others) o
    here begins comes silent =
        subst (Comes (when (Begins stream at byte) own ++ others)) (or_else_none o)
        (comes_append others (when (Begins stream at byte) own) o None (comes_when (Begins stream at byte) begins own o comes) (λ e. silent))

  abbrev solve_here : List Check
  solve_here = when (Begins stream at solve_byte) (solve_command_checks t stream at)

  abbrev from_withdraw : List Check
  from_withdraw = when (Begins stream at withdraw_byte) (withdraw_command_checks t stream at) ++ solve_here

  abbrev from_pose : List Check
  from_pose = when (Begins stream at pose_byte) (pose_command_checks t stream at) ++ from_withdraw

  -- None of the commands from some on begins there.
  no_solve : (Begins stream at solve_byte → ⊥) → Comes solve_here None
  no_solve other = comes_when-not (Begins stream at solve_byte) other (solve_command_checks t stream at)

  none_from_withdraw : (Begins stream at withdraw_byte → ⊥) → (Begins stream at solve_byte → ⊥) → Comes from_withdraw None
  none_from_withdraw w s = not_here withdraw_byte (withdraw_command_checks t stream at) solve_here None w (no_solve s)

  none_from_pose : (Begins stream at pose_byte → ⊥) → (Begins stream at withdraw_byte → ⊥) → (Begins stream at solve_byte → ⊥) → Comes from_pose None
  none_from_pose p w s = not_here pose_byte (pose_command_checks t stream at) from_withdraw None p (none_from_withdraw w s)

  comes_commands-size : Begins stream at size_byte → (o : Option Refusal) → Comes (size_command_checks t stream at) o → Comes (command_checks t stream at) o
  comes_commands-size begins o comes =
      here size_byte (size_command_checks t stream at) from_pose o begins comes
      (none_from_pose (other_byte size_byte pose_byte (omega arith) begins) (other_byte size_byte withdraw_byte (omega arith) begins)
      (other_byte size_byte solve_byte (omega arith) begins))

  comes_commands-pose : Begins stream at pose_byte → (o : Option Refusal) → Comes (pose_command_checks t stream at) o → Comes (command_checks t stream at) o
  comes_commands-pose begins o comes =
      not_here size_byte (size_command_checks t stream at) from_pose o (other_byte pose_byte size_byte (omega arith) begins)
      (here pose_byte (pose_command_checks t stream at) from_withdraw o begins comes
      (none_from_withdraw (other_byte pose_byte withdraw_byte (omega arith) begins) (other_byte pose_byte solve_byte (omega arith) begins)))

  comes_commands-withdraw : Begins stream at withdraw_byte → (o : Option Refusal) → Comes (withdraw_command_checks t stream at) o
      → Comes (command_checks t stream at) o
  comes_commands-withdraw begins o comes =
      not_here size_byte (size_command_checks t stream at) from_pose o (other_byte withdraw_byte size_byte (omega arith) begins)
      (not_here pose_byte (pose_command_checks t stream at) from_withdraw o (other_byte withdraw_byte pose_byte (omega arith) begins)
      (here withdraw_byte (withdraw_command_checks t stream at) solve_here o begins comes (no_solve (other_byte withdraw_byte solve_byte (omega arith) begins))))

  comes_commands-solve : Begins stream at solve_byte → (o : Option Refusal) → Comes (solve_command_checks t stream at) o → Comes (command_checks t stream at) o
  comes_commands-solve begins o comes =
      not_here size_byte (size_command_checks t stream at) from_pose o (other_byte solve_byte size_byte (omega arith) begins)
      (not_here pose_byte (pose_command_checks t stream at) from_withdraw o (other_byte solve_byte pose_byte (omega arith) begins)
      (not_here withdraw_byte (withdraw_command_checks t stream at) solve_here o (other_byte solve_byte withdraw_byte (omega arith) begins)
      (comes_when (Begins stream at solve_byte) begins (solve_command_checks t stream at) o comes)))

  comes_commands-none : ((byte : ℕ) → Begins stream at byte → ⊥) → Comes (command_checks t stream at) None
  comes_commands-none nothing =
      not_here size_byte (size_command_checks t stream at) from_pose None (nothing size_byte) (none_from_pose (nothing pose_byte) (nothing withdraw_byte) (nothing solve_byte))

  -- ---- one call

  module _ (sixteen : length t.session.masks ≡ 16) where
    -- Refused before all else.
    module _ (q : Refusal) (e : call_refusal t stream at ≡ Some q) where
      first-number : Ending (number_of q)
      unfolding Decides
      first-number = go (((comes_first t sixteen stream at).decided (number_of q) (detail_of q)).1 (q, e, refl, refl))
        where
          go : Decides (first_checks t stream at) (number_of q) (detail_of q) → Ending (number_of q)
          go (inl (number, _)) = inr (inr (inr (sym number)))
          go (inr (_, inl (number, _))) = inl (sym number)
          go (inr (_, inr (_, inl (number, _)))) = inr (inr (inl (sym number)))
          go (inr (_, inr (_, inr (_, never)))) = absurd never

      demand_first : CallDemand1 t stream at (stopped t stream q)
      unfolding or_else
      demand_first =
          let comes : Comes checks (Some q) =
          comes_append (reading_checks t stream at ++ command_checks t stream at) (first_checks t stream at) (Some q) None
          (subst (Comes (first_checks t stream at)) e (comes_first t sixteen stream at)) (λ f. absurd (some-not-none f)) in
          demand_refused q (length stream) comes (λ ending. refl) (λ on. absurd (on first-number))

    module _ (e : call_refusal t stream at ≡ None) where
      -- Nothing before all else: then the checks of reading, and after them the command's.
      comes_after : (o₁ o₂ : Option Refusal) → Comes (reading_checks t stream at) o₁ → (o₁ ≡ None → Comes (command_checks t stream at) o₂)
          → Comes checks (or_else o₁ o₂)
      unfolding or_else
      comes_after o₁ o₂ reads commands =
          comes_append (reading_checks t stream at ++ command_checks t stream at) (first_checks t stream at) None (or_else o₁ o₂)
          (subst (Comes (first_checks t stream at)) e (comes_first t sixteen stream at))
          (λ f. comes_append (command_checks t stream at) (reading_checks t stream at) o₁ o₂ reads commands)

      demand_at_end : at ≡ length stream → CallDemand1 t stream at (result (Ok End) t at)
      unfolding or_else
      demand_at_end here =
          demand_end
          (comes_after None None (comes_nothing-read stream at t (omega arith)) (λ f. comes_commands-none (λ byte begins. let l = begins.0 in omega arith)))
          here

      module _ (before-end : at < length stream) where
        usable : Usable t
        usable = (usable_of_call t stream at e).0

        left : Left t.session
        left = (possible-left t.session sixteen).0 usable.record_possible

        -- "10, 11": the stream ends.
        demand_stopped : (q : Refusal) → Comes (reading_checks t stream at) (Some q) → Ending (number_of q) → CallDemand1 t stream at (stopped t stream q)
        unfolding or_else
        demand_stopped q comes ending =
            demand_refused q (length stream) (comes_after (Some q) None comes (λ f. absurd (some-not-none f))) (λ x. refl) (λ on. absurd (on ending))

        -- A whole command, refused or not.
        demand_obeyed : (command : Command) (width : ℕ) → BeginsOfWidth stream at width → at + width ≤ length stream
            → Comes (command_checks t stream at) (command_refusal (held_of t.session) t.buffer command)
            → (command_refusal (held_of t.session) t.buffer command ≡ None → Comes checks None
            → CallDemand1 t stream at (result (reply_to command) (state_after t command) (at + width)))
            → CallDemand1 t stream at (obeyed t command (at + width))
        unfolding or_else
        demand_obeyed command width begins fits commands accepted =
            obeyed_cases t command (at + width) (CallDemand1 t stream at)
            (λ q f.
            let goes_on : ends_stream (Err q) ≡ false =
            ap (λ (a : Answer). ends_stream a.reply) (sym (answer_to-refused t command q f)) ∙ command_goes_on t command in
            demand_refused q (at + width) (subst (Comes checks) f comes) (λ ending. absurd (goes_on_number q goes_on ending)) (λ on. (width, begins, fits, refl)))
            (λ f. accepted f (subst (Comes checks) f comes))
          where
            comes : Comes checks (command_refusal (held_of t.session) t.buffer command)
            comes = comes_after None (command_refusal (held_of t.session) t.buffer command) (comes_whole stream at t width begins fits) (λ f. commands)

        demand_reading : Reading stream at → CallDemand1 t stream at (read t stream at (parse stream at))
        unfolding command_refusal read reply_to
        demand_reading (no_command byte parsed begins no_byte) =
            rw parsed (demand_stopped (UnknownCommand byte) (comes_unknown stream at t byte begins no_byte) (inr (inl refl)))
        demand_reading (cut_short width parsed begins short) =
            rw parsed (demand_stopped (Truncated at) (comes_cut_short stream at t width begins short) (inr (inr (inl refl))))
        demand_reading (whole-size parsed begins fits) =
            let command = edit (size (operand stream at 1) (operand stream at 2) (operand stream at 3)) in
            rw parsed
            (demand_obeyed command size_width (inl (begins, refl)) fits (comes_commands-size begins _ (comes_size stream at t left))
            (λ passes comes.
            demand_accepted comes (state_after t command) size_width (inl begins) (inl (begins, refl)) fits (λ own. size-leaves t stream at)
            (λ other. absurd (other_byte size_byte pose_byte (omega arith) begins other)) (λ other. absurd (other_byte size_byte withdraw_byte (omega arith) begins other))))
        demand_reading (whole-pose parsed begins fits) =
            let command = edit (place (operand stream at 1) (operand stream at 2) (offered_pose stream (at + 3))) in
            rw parsed
            (demand_obeyed command pose_width (inr (inl (begins, refl))) fits (comes_commands-pose begins _ (comes_pose stream at t left))
            (λ passes comes.
            demand_accepted comes (state_after t command) pose_width (inr (inl begins)) (inr (inl (begins, refl))) fits
            (λ other. absurd (other_byte pose_byte size_byte (omega arith) begins other)) (λ own. pose-leaves t stream at usable sixteen passes)
            (λ other. absurd (other_byte pose_byte withdraw_byte (omega arith) begins other))))
        demand_reading (whole-withdraw parsed begins fits) =
            let command = edit (withdraw (operand stream at 1) (operand stream at 2)) in
            rw parsed
            (demand_obeyed command withdraw_width (inr (inr (inr (begins, refl)))) fits (comes_commands-withdraw begins _ (comes_withdraw stream at t left))
            (λ passes comes.
            demand_accepted comes (state_after t command) withdraw_width (inr (inr begins)) (inr (inr (inr (begins, refl)))) fits
            (λ other. absurd (other_byte withdraw_byte size_byte (omega arith) begins other))
            (λ other. absurd (other_byte withdraw_byte pose_byte (omega arith) begins other)) (λ own. withdraw-leaves t stream at usable sixteen passes)))
        demand_reading (whole-solve parsed begins fits) =
            rw parsed
            (demand_obeyed solve solve_width (inr (inr (inl (begins, refl)))) fits (comes_commands-solve begins _ (comes_solve t usable left stream at))
            (λ passes comes. demand_solved comes (state_after t solve) begins fits (solve-leaves t usable passes)))

-- Whatever the state, the stream and the offset; 16 masks is what the record's type says.
pub call_demand_1 : (t : State) (stream : List ℕ) (at : ℕ) → length t.session.masks ≡ 16 → CallDemand1 t stream at (call t stream at)
call_demand_1 t stream at sixteen =
    call_cases t stream at (CallDemand1 t stream at) (demand_first t stream at sixteen) (demand_at_end t stream at sixteen)
    (λ e h.
    let before : at < length stream = omega (arith, (usable_of_call t stream at e).1) in
    demand_reading t stream at sixteen e before (reading stream at before))

-- So for the code's own answer, and the memory lent to it: what `obey` ensures is demand 1.
pub called_demand_1 : (t : State) (stream : List ℕ) (at : ℕ) (step : Step) (buffer first : List Float) (second : List ℕ)
    → length t.session.masks ≡ 16 → Called t stream at step buffer first second → CallDemand1 t stream at (result_of step buffer first second)
called_demand_1 t stream at step buffer first second sixteen called =
    subst (CallDemand1 t stream at) (sym same) (call_demand_1 t stream at sixteen)
  where
    same : result_of step buffer first second ≡ call t stream at
    same = λ i.
        result (called.reply i) (state (called.session i) (called.buffer_after_is i) (called.first_after_is i) (called.second_after_is i)) (called.next i)
