-- What the direct call's checks have shown once they have passed: the rig that its marks make fits its floats, and both answers have room. Assumes nothing.
use Prim.Native.Nat.{ℕ, ◌≤◌, ◌<◌}
use mathlib.Core.Path.{◌≡◌, sym, subst}
use Rattle.std.specs.Prelude.{None}
use mathlib.Core.List.{List}
use lib.ListN.{length, get_or}
use lib.Ieee.{Float}
use Rattle.limits.specs.Limits.{first_needs, second_needs}
use Rattle.inputs.specs.Inputs.{input_refusal}
use Rattle.inputs.specs.Inner.Marks.{mask_of}
use Rattle.placing.specs.Inner.Fitting.{Fitting}
use Rattle.extrinsics.proofs.MarkedGrid.{dense_rig}
use Rattle.extrinsics.proofs.DirectCall as checks
use Rattle.extrinsics.proofs.DirectCall.{input_lengths}

module _ (counts marks : List ℕ) (floats : List Float) (reference : ℕ) (first : List Float) (second : List ℕ) (masks : List ℕ) (n : ℕ) (view-0 : n ≡ get_or counts 0 0)
    (made : (c : ℕ) → c < n → get_or masks c 0 ≡ mask_of marks n (length counts) c)
    (passed : input_refusal counts marks (length floats) reference (length first) (length second) ≡ None) where
  pub direct_fitting : Fitting (dense_rig masks (length counts) n reference) floats × (first_needs n (length counts) ≤ length first) × (second_needs n ≤ length second)
  direct_fitting =
      let lengths = input_lengths counts marks (length floats) reference (length first) (length second) passed in (
        checks.direct_fitting counts marks floats reference first second masks n view-0 made passed,
        subst (λ (k : ℕ). first_needs k (length counts) ≤ length first) (sym view-0) lengths.first_fits,
        subst (λ (k : ℕ). second_needs k ≤ length second) (sym view-0) lengths.second_fits,
      )
