-- Demands 2 and 3 of a Solve through `placer_step` (`solve_step_as_demanded`): where Solve's byte stands at the offset, in words that are a
-- record with sizes, over a buffer whose held numbers are finite, what the caller then has in hand is what both demands ask of the direct
-- call that words and buffer stand for. Assumes nothing.
use Prim.Native.Nat.{ℕ, ◌+◌, ◌≤◌, ◌<◌}
use native.Mathlib.Omega.{arith}
use mathlib.Core.Path.{◌≡◌, sym, ap, subst, ◌∙◌}
use mathlib.Core.Bool.{true}
use Rattle.std.specs.Prelude.{None}
use mathlib.Core.List.{List}
use lib.ListN.{length, get_or}
use lib.Ieee.{Float}
use Rattle.extrinsics.specs.Outcome.{not_finite}
use Rattle.command.specs.Command.{solve, solve_byte, solve_width}
use Rattle.command.proofs.Decoding.{parse-solve}
use Rattle.session_record.specs.Session.{held_of, session_grid}
use Rattle.session_commands.specs.Obeyed.{State, Result, result}
use Rattle.session.specs.Call.{max_stream, read, call}
use Rattle.claims_streams.specs.Stream.{answer, answer_to, Usable}
use Rattle.claims_streams.specs.DirectInputs.{AsDirect}
use Rattle.claims_streams.specs.SolveDemands.{AsDemanded}
use Rattle.claims_streams.proofs.SolveDirect.{solve_as_direct}
use Rattle.claims_streams.proofs.SolveDemands.{solve_demand_2, solve_demand_3}
use Rattle.claims_streams.proofs.Streams.{call_reads, passes_of_usable, obeyed-answer_to}
use Rattle.record_words.specs.Words.{views_word, session_in, is_record}
use Rattle.placer.specs.Step.{Stepped}
use Rattle.placer.proofs.Reading.{SmallReply}
use Rattle.claims_exports.specs.InHand.{state_in, answer_in}
use Rattle.claims_exports.proofs.Details.{small_answer}
use Rattle.claims_exports.proofs.Answers.{next_again, answer_again}

-- The call at Solve's byte, in any state that passes the checks before all else.
pub call-solve : (t : State) → Usable t → (stream : List ℕ) → length stream ≤ max_stream → (at : ℕ) → at < length stream → get_or stream at 0 ≡ solve_byte
    → call t stream at ≡ result (answer_to t solve).reply (answer_to t solve).after (at + solve_width)
unfolding read
call-solve t u stream short at h e =
    call_reads t stream at (passes_of_usable t stream short u) h
    ∙ ap (read t stream at) (parse-solve stream at e (omega arith))
    ∙ obeyed-answer_to t solve (at + solve_width)

module _ (words stream : List ℕ) (at : ℕ) (buffer first : List Float) (second : List ℕ) (r next : ℕ) (words' : List ℕ) (buffer' first' : List Float)
    (second' : List ℕ) (step : Stepped words stream at buffer first second r next words' buffer' first' second')
    (a-record : is_record words ≡ true) (usable : Usable (state_in words buffer first second)) (short : length stream ≤ max_stream)
    (inside : at < length stream) (solve-here : get_or stream at 0 ≡ solve_byte) where
  abbrev t : State
  t = state_in words buffer first second

  called : call t stream at ≡ result (answer_to t solve).reply (answer_to t solve).after (at + solve_width)
  called = call-solve t usable stream short at inside solve-here

  pub solve_step_next : next ≡ at + solve_width
  solve_step_next =
      next_again words stream at buffer first second r next words' buffer' first' second' a-record step ∙ ap (λ (x : Result). x.next) called

  solve_step_answers : answer_in r words' buffer' first' second' ≡ answer_to t solve
  solve_step_answers =
      answer_again words stream at buffer first second r next words' buffer' first' second' a-record step
      (subst (λ (x : Result). SmallReply x.reply) (sym called) (small_answer t usable.record_possible solve tt))
      ∙ ap (λ (x : Result). answer x.reply x.after) called

  module _ (some_view : 0 < get_or words views_word 0) where
    -- "Solve answers as the direct call would on the grid that masks and buffer hold, into two lent answers".
    pub solve_step_as_direct : AsDirect (state_in words buffer first second) (answer_in r words' buffer' first' second')
    solve_step_as_direct = subst (AsDirect t) (sym solve_step_answers) (solve_as_direct t usable some_view)

    -- Where every held number is finite, as both demands ask.
    pub solve_step_as_demanded : not_finite (session_grid (held_of (session_in words)) buffer) ≡ None
        → AsDemanded (state_in words buffer first second) (answer_in r words' buffer' first' second')
    solve_step_as_demanded finite =
        let direct : AsDirect t (answer_to t solve) = solve_as_direct t usable some_view in
        subst (AsDemanded t) (sym solve_step_answers)
        (record {
          as_direct = direct;
          demand_2 = solve_demand_2 t usable some_view finite direct;
          demand_3 = solve_demand_3 t usable some_view finite direct;
        })
