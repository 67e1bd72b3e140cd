-- `write_chains` meets its contract: the answer is filled from the front, two bytes at a time (`Filling`). Assumes nothing.
use mathlib.Core.Path.{◌≡◌}
use mathlib.Core.List.{[], ◌∷◌, ◌++◌}
use lib.ListN.{drop}
use Rattle.limits.specs.Limits.{second_needs}
use Rattle.lists.specs.Lists.{gather}
use Rattle.chains.specs.Inner.Trees.{parent_at, links_at}
use Rattle.placing.proofs.answer.write_chains.Given as goal

abbrev pub invariant-loop-camera : goal.invariant-loop-camera
invariant-loop-camera l = l.answer ≡ gather l.camera (λ c. parent_at l.tree c ∷ links_at l.tree c ∷ []) ++ drop (second_needs l.camera) l.initial.answer
