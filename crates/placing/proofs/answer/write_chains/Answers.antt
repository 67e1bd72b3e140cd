-- `write_chains` meets its contract: the answer is filled from the front, two bytes at a time (`Filling`). Assumes nothing.
use Prim.Native.Nat.{ℕ, ◌+◌}
use native.Mathlib.Omega.{arith}
use native.Mathlib.Numerals.{add-one}
use mathlib.Core.Path.{refl, sym, ap, ap₂, ◌∙◌, subst}
use mathlib.Core.Bool.{false≢true}
use mathlib.Core.List.{[], ◌∷◌, append_assoc}
use lib.ListN.{set, take, drop}
use lib.Seq.{sets-eq}
use Rattle.std.specs.Prelude.{IsSome}
use Rattle.limits.specs.Limits.{chain_bytes, parent_place, links_place}
use Rattle.chains.specs.Inner.Trees.{parent_at, links_at}
use Rattle.placing.proofs.Filling.{fill_next}
use Rattle.placing.proofs.Rooting.{parent_at-place, links_at-place}
use Rattle.placing.proofs.answer.write_chains.Goals as goal
use Rattle.placing.proofs.answer.write_chains.Goals.{in-Some, in_default}

pub loop-camera-preserved : goal.loop-camera-preserved
loop-camera-preserved c =
    let tree = c.args.tree.now in
    let camera = c.loop-camera.camera in
    let answer = c.loop-camera.answer in
    let block = λ (i : ℕ). parent_at tree i ∷ links_at tree i ∷ [] in
    elim c.match-tree-camera.branch [
      | in-Some w ↦ w.answer-is
          ∙ ap₂ (λ (parent links : ℕ). set (set answer (parent_place camera) parent) (links_place camera) links)
          (sym (parent_at-place tree camera w.in-Some.place w.in-Some.is)) (sym (links_at-place tree camera w.in-Some.place w.in-Some.is))
          ∙ ap (λ (k : ℕ). set (set answer (parent_place camera) (parent_at tree camera)) k (links_at tree camera)) (add-one (parent_place camera))
          ∙ sets-eq (block camera) answer (parent_place camera) (omega arith)
          ∙ append_assoc (take (parent_place camera) answer) (block camera) (drop (parent_place camera + chain_bytes) answer)
          ∙ fill_next block chain_bytes (λ i. refl) answer c.args.answer.now camera c.loop-camera.invariant
      | in_default w ↦ absurd (false≢true (subst IsSome w.in_default.is (c.requires.all_placed camera (omega arith))))
    ]
