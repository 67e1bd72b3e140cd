-- Demands 2 and 3 of every Solve that a caller of `placer_step` feeds in from a fresh session's zeros (`solve_in_steps`): the answer in hand after the
-- call that obeys it is what both demands ask. Assumes nothing.
use Prim.Native.Nat.{ℕ, ◌≤◌, ◌<◌}
use mathlib.Core.Path.{◌≡◌, sym, ap, subst, ◌∙◌}
use mathlib.Core.List.{List, ◌∷◌, ◌++◌}
use lib.ListN.{length, get_or}
use lib.Ieee.{Float}
use Rattle.command.specs.Command.{Command, solve}
use Rattle.session_record.specs.Session.{fresh, buffer_length}
use Rattle.session_commands.specs.Obeyed.{first_length, second_length, State, state}
use Rattle.session.specs.Call.{max_stream}
use Rattle.claims_streams.specs.Stream.{contents_of, Answer, state_after_all}
use Rattle.claims_streams.specs.SolveDemands.{AsDemanded}
use Rattle.claims_streams.proofs.FiniteHeld.{solve_from_fresh}
use Rattle.claims_streams.proofs.Streams.{calls_give_meaning}
use Rattle.claims_exports.specs.InHand.{Bytes}
use Rattle.claims_exports.specs.Steps.{Steps, fresh_words}
use Rattle.claims_exports.proofs.Streams.{steps_from_fresh}

module _ (buffer first : List Float) (second : List ℕ) (buffer_fits : length buffer ≡ buffer_length)
    (first_fits : first_length ≤ length first) (second_fits : second_length ≤ length second) where
  abbrev start : State
  start = state fresh buffer first second

  pub solve_in_steps : (stream : List ℕ) → Bytes stream → length stream ≤ max_stream → (before after : List Command)
      → (contents_of stream).commands ≡ before ++ (solve ∷ after) → 0 < (state_after_all (state fresh buffer first second) before).session.views
      → (answers : List Answer) → Steps stream fresh_words 0 buffer first second answers
      → (outside : Answer) → AsDemanded (state_after_all (state fresh buffer first second) before) (get_or answers (length before) outside)
  solve_in_steps stream bytes short before after held some_view answers steps outside =
      let same = steps_from_fresh stream bytes steps ∙ sym (calls_give_meaning start stream) in
      subst (AsDemanded (state_after_all start before)) (ap (λ (l : List Answer). get_or l (length before) outside) (sym same))
      (solve_from_fresh buffer first second buffer_fits first_fits second_fits stream short before after held some_view outside)
