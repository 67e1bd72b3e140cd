-- `best_parent` meets its contract. The loop's invariant: what is found so far is the first of the cameras passed that has most views. Assumes nothing.
use Rattle.std.specs.Prelude.{◌≡◌, take}
use Rattle.chains.specs.Masks.{shared_by}
use Rattle.chains.specs.Inner.Search.{views_to_pass, first_most}
use Rattle.chains.proofs.Network.best_parent.Given as goal

abbrev pub invariant-loop-candidate : goal.invariant-loop-candidate
invariant-loop-candidate l =
    (l.parent ≡ first_most l.self.least (shared_by l.self.masks l.camera) (take l.candidate-index l.layer))
    × (l.most ≡ views_to_pass l.self.least (shared_by l.self.masks l.camera) l.parent)
