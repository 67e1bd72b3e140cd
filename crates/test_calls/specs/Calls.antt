-- Calls of the session, one after the other, until the next offset is not below the stream's length. Rests on one call in `Call` of `session`.
use Rattle.std.specs.Prelude.{ℕ, ◌≤◌, ◌<◌, List, [], ◌∷◌, length, Float}
use Rattle.std.specs.List.{FoldsTo}
use Rattle.session_commands.specs.Obeyed.{State, state}
use Rattle.session.specs.Call.{Called}
use Rattle.session.specs.declared.Step.{Step}

-- From a state and an offset on, the calls answer these steps and leave the last state.
pub data Calls (stream : List ℕ) : State → ℕ → List Step → State → Type 0 where
  last_call : {t : State} {at : ℕ} {step : Step} {buffer first : List Float} {second : List ℕ} → Called t stream at step buffer first second → length stream ≤ step.next
      → Calls stream t at (step ∷ []) (state step.session buffer first second)
  one_more : {t after : State} {at : ℕ} {step : Step} {later : List Step} {buffer first : List Float} {second : List ℕ} → Called t stream at step buffer first second
      → step.next < length stream → Calls stream (state step.session buffer first second) step.next later after → Calls stream t at (step ∷ later) after

-- From f on, what changes as `took` says was handed these steps, each once and in order.
abbrev pub Told : {F : Type 0} → (F → Step → F → Type 0) → F → List ℕ → State → ℕ → State → Type 0
Told {F} took f stream t at after = (steps : List Step) × (last : F) × FoldsTo took f steps last × Calls stream t at steps after
