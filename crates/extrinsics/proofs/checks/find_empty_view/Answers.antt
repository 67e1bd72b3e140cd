-- `find_empty_view` meets its contract: a view is empty where the union of the masks, `held`, has no bit for it. Assumes nothing.
use Prim.Native.Nat.{ℕ, ◌/◌, ◌%◌, ◌^◌}
use native.Mathlib.Omega.{arith}
use mathlib.Core.Path.{◌≡◌, sym, ap, ◌∙◌}
use mathlib.Core.Logic.{◌↔◌}
use mathlib.Core.Bool.{true, false, not}
use borrow.Author.Tests.{eq-eqb, ne_eqb}
use lib.Dec.{T}
use lib.Bits.{bit_and, and_mask}
use lib.Ieee.{Float}
use mathlib.Core.List.{List}
use Rattle.lists.specs.Masks.{in_mask}
use Rattle.placing.specs.Rig.{rig_grid}
use Rattle.lists.specs.Finding.{lowest}
use Rattle.extrinsics.specs.Outcome.{is_empty_view, lowest_empty_view}
use Rattle.placing.specs.declared.grid.Rig.{Rig}
use Rattle.lists.proofs.Lowest.{lowest-none_more, lowest-first, lowest_agree}
use Rattle.extrinsics.proofs.MaskUnion.{InOneOf}
use Rattle.extrinsics.proofs.EmptyViews.{is_empty_view-not-in_mask}
use Rattle.extrinsics.proofs.checks.find_empty_view.Goals as goal
use Rattle.extrinsics.proofs.checks.find_empty_view.Invariants.{not_in}

-- The lowest empty view by the union of the masks.
lowest_empty_view-not_in : (r : Rig) (floats : List Float) (held : ℕ) → ((v : ℕ) → T (in_mask held v) ↔ InOneOf r.masks r.cameras v)
    → lowest_empty_view (rig_grid r floats) ≡ lowest (not_in held) r.views
unfolding lowest_empty_view rig_grid
lowest_empty_view-not_in r floats held union =
    lowest_agree (is_empty_view (rig_grid r floats)) (not_in held) r.views (λ v h. is_empty_view-not-in_mask r floats held v h (union v))

-- The code's test of a bit.
bit_clear : (mask v : ℕ) → bit_and (mask / 2 ^ v) 1 ≡ 0 → not_in mask v ≡ true
unfolding in_mask
bit_clear mask v e = ap not (ne_eqb (mask / 2 ^ v % 2) 1 (omega (arith, and_mask (mask / 2 ^ v) 1)))

bit_set : (mask v : ℕ) → (bit_and (mask / 2 ^ v) 1 ≡ 0 → ⊥) → not_in mask v ≡ false
unfolding in_mask
bit_set mask v n =
    let odd : mask / 2 ^ v % 2 ≡ 0 → ⊥ = λ z. n (and_mask (mask / 2 ^ v) 1 ∙ z) in
    ap not (eq-eqb (mask / 2 ^ v % 2) 1 (omega arith))

pub returns-then-held-view-eq0 : goal.returns-then-held-view-eq0
returns-then-held-view-eq0 c =
    let seen = c.args.seen.now in
    let held = c.held_views-held.result in
    let view = c.loop-view.view in
    sym (lowest_empty_view-not_in seen.rig seen.floats.now held c.held_views-held.ensures
    ∙ lowest-first (not_in held) view seen.rig.views (omega arith) c.loop-view.invariant (bit_clear held view c.if-held-view-eq0.true))

pub loop-view-preserved : goal.loop-view-preserved
loop-view-preserved c =
    let held = c.held_views-held.result in
    let view = c.loop-view.view in
    lowest-none_more (not_in held) view c.loop-view.invariant (bit_set held view c.if-held-view-eq0.false)

pub returns : goal.returns
returns c =
    let seen = c.args.seen.now in
    let all : c.loop-view.view ≡ seen.rig.views = omega arith in
    sym (lowest_empty_view-not_in seen.rig seen.floats.now c.held_views-held.result c.held_views-held.ensures ∙ (rw all at c.loop-view.invariant))
