-- A Solve anywhere in a stream (`solve_in_stream`): after the answers to the commands before it stands the answer of the direct call that
-- the session then stands for; where every held number is finite, it is what demands 2 and 3 ask. Assumes nothing.
use Prim.Native.Nat.{ℕ, ◌≤◌, ◌<◌}
use mathlib.Core.Path.{◌≡◌, refl, sym, ap, subst, ◌∙◌}
use Rattle.std.specs.Prelude.{None}
use mathlib.Core.List.{List, [], ◌∷◌, ◌++◌, append_assoc}
use lib.ListN.{length, get_or}
use lib.Seq.{get_or_at}
use Rattle.extrinsics.specs.Outcome.{not_finite}
use Rattle.command.specs.Command.{Command, solve}
use Rattle.session_record.specs.Session.{held_of, session_grid}
use Rattle.session_commands.specs.Obeyed.{State}
use Rattle.session.specs.Call.{max_stream}
use Rattle.claims_streams.specs.Stream.{contents_of, Answer, answer, answer_to, answers, state_after_all, ending_reply, answers_of, calls, Usable}
use Rattle.claims_streams.specs.DirectInputs.{AsDirect}
use Rattle.claims_streams.specs.SolveDemands.{AsDemanded}
use Rattle.claims_streams.proofs.SolveDirect.{solve-after}
use Rattle.claims_streams.proofs.SolveDemands.{solve_demand_2, solve_demand_3}
use Rattle.claims_streams.proofs.Streams.{calls_give_answers}
use Rattle.claims_streams.proofs.Striking.{answers-append, length-answers}
use Rattle.claims_streams.proofs.Usable.{usable_after_all}

-- ---- answers to commands

answers-command : (t : State) (command : Command) (later : List Command)
    → answers t (command ∷ later) ≡ answer_to t command ∷ answers (answer_to t command).after later
unfolding answers
answers-command t command later = refl

-- ---- a stream that holds a Solve

module _ (t : State) (u : Usable t) (stream : List ℕ) (short : length stream ≤ max_stream) (before after : List Command)
    (held : (contents_of stream).commands ≡ before ++ (solve ∷ after)) where
  abbrev then : State
  then = state_after_all t before

  abbrev last : Answer
  last = answer (ending_reply (contents_of stream).ending) (state_after_all t (contents_of stream).commands)

  -- "The library obeys one command per call": the answers before it, its own, and those after it.
  pub calls_around-solve :
      calls t stream ≡ answers t before ++ (answer_to then solve ∷ (answers (answer_to then solve).after after ++ (last ∷ [])))
  unfolding answers_of
  calls_around-solve =
      calls_give_answers t stream short u
      ∙ ap (λ (l : List Answer). l ++ (last ∷ []))
      (ap (answers t) held ∙ answers-append t before (solve ∷ after) ∙ ap (λ (l : List Answer). answers t before ++ l) (answers-command then solve after))
      ∙ append_assoc (answers t before) (answer_to then solve ∷ answers (answer_to then solve).after after) (last ∷ [])

  -- So the answer after those of the commands before it is Solve's.
  pub answer_of_solve : (outside : Answer) → get_or (calls t stream) (length before) outside ≡ answer_to then solve
  answer_of_solve outside =
      ap (λ (l : List Answer). get_or l (length before) outside) calls_around-solve
      ∙ get_or_at (answers t before) (answer_to then solve) (answers (answer_to then solve).after after ++ (last ∷ [])) outside (length before)
      (length-answers before t)

  module _ (some_view : 0 < (state_after_all t before).session.views) where
    -- "Solve answers as the direct call would on the grid that masks and buffer hold, into two lent answers".
    pub solve_in_stream-direct : (outside : Answer) → AsDirect (state_after_all t before) (get_or (calls t stream) (length before) outside)
    solve_in_stream-direct outside = subst (AsDirect then) (sym (answer_of_solve outside)) (solve-after t u before some_view)

    -- Where every held number is finite, as both demands ask.
    pub solve_in_stream : not_finite (session_grid (held_of (state_after_all t before).session) (state_after_all t before).buffer) ≡ None
        → (outside : Answer) → AsDemanded (state_after_all t before) (get_or (calls t stream) (length before) outside)
    solve_in_stream finite outside =
        let direct : AsDirect then (answer_to then solve) = solve-after t u before some_view in
        subst (AsDemanded then) (sym (answer_of_solve outside))
        (record {
          as_direct = direct;
          demand_2 = solve_demand_2 then (usable_after_all before t u) some_view finite direct;
          demand_3 = solve_demand_3 then (usable_after_all before t u) some_view finite direct;
        })
