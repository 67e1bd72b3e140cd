-- `find_empty_view` meets its contract: a view is empty where the union of the masks, `held`, has no bit for it. Assumes nothing.
use Prim.Native.Nat.{ℕ}
use mathlib.Core.Path.{◌≡◌}
use mathlib.Core.Bool.{Bool, not}
use Rattle.std.specs.Prelude.{None}
use Rattle.lists.specs.Masks.{in_mask}
use Rattle.lists.specs.Finding.{lowest}
use Rattle.extrinsics.proofs.checks.find_empty_view.Given as goal

-- A view without a bit in the mask.
abbrev pub not_in : ℕ → ℕ → Bool
not_in mask v = not (in_mask mask v)

abbrev pub invariant-loop-view : goal.invariant-loop-view
invariant-loop-view l = lowest (not_in l.held) l.view ≡ None
