-- Laws of answers as data: what a check or a search answers says what was found, and the first check that finds something decides.
-- Assumes nothing.
use Prim.Native.Nat.{ℕ, ◌*◌, ◌≤◌, ◌<◌}
use native.Mathlib.Omega.{arith}
use Rattle.std.proofs.lemmas.Bool.Decides.{nat_tests}
use mathlib.Core.Path.{◌≡◌, refl, sym}
use mathlib.Core.Bool.{Bool, true, false}
use Rattle.std.specs.Prelude.{Option, None, Some, MatchOption, Err, Ok}
use mathlib.Core.List.{List, [], ◌∷◌, ◌++◌}
use Rattle.lists.specs.Finding.{lowest}
use Rattle.lists.proofs.Lowest.{lowest-nothing, lowest-first}
use Rattle.refusal.specs.Table.{refuse_if, refuse_at, or_else, first_of}
use Rattle.refusal.specs.declared.Refusal.{Refusal}
use Rattle.limits.specs.Limits.{max_views, max_cameras, first_needs, second_needs}
use Rattle.inputs.specs.Inputs.{size_refusal, length_refusal, checked_of}

pub checked_of-refused : (o : Option Refusal) (r : Refusal) → checked_of o ≡ Err r → o ≡ Some r
unfolding checked_of
checked_of-refused o r e = grind arith

pub checked_of_passed : (o : Option Refusal) → checked_of o ≡ Ok tt → o ≡ None
unfolding checked_of
checked_of_passed o e = grind arith

-- The first number below n that passes, if any does, is the lowest.
pub first_is_lowest : (test : ℕ → Bool) (n : ℕ) (o : Option ℕ)
    → MatchOption o ((k : ℕ) → k < n → test k ≡ false) (λ i. (i < n) × (test i ≡ true) × ((k : ℕ) → k < i → test k ≡ false))
    → o ≡ lowest test n
first_is_lowest test n None none = sym (lowest-nothing test n none)
first_is_lowest test n (Some i) (below, passes, before) = sym (lowest-first test i n below (lowest-nothing test i before) passes)

pub refuse_at-some : (o : Option ℕ) (refusal : ℕ → Refusal) (n : ℕ) → o ≡ Some n → refuse_at o refusal ≡ Some (refusal n)
unfolding refuse_at
refuse_at-some o refusal n e = rw e refl

pub refuse_at-none : (o : Option ℕ) (refusal : ℕ → Refusal) → o ≡ None → refuse_at o refusal ≡ None
unfolding refuse_at
refuse_at-none o refusal e = rw e refl

pub first_of_some : (check : Option Refusal) (later : List (Option Refusal)) (r : Refusal) → check ≡ Some r → first_of (check ∷ later) ≡ Some r
unfolding first_of
first_of_some check later r e = rw e refl

pub first_of_none : (check : Option Refusal) (later : List (Option Refusal)) → check ≡ None → first_of (check ∷ later) ≡ first_of later
unfolding first_of
first_of_none check later e = rw e refl

pub first_of_append : (checks later : List (Option Refusal)) → first_of (checks ++ later) ≡ or_else (first_of checks) (first_of later)
unfolding first_of or_else
first_of_append [] later = refl
first_of_append (None ∷ checks) later = first_of_append checks later
first_of_append (Some r ∷ checks) later = refl

-- ---- what a check that finds nothing has shown

pub refuse_if-none : (b : Bool) (r : Refusal) → refuse_if b r ≡ None → b ≡ false
unfolding refuse_if
refuse_if-none b r e = grind arith

pub refuse_at-nothing : (o : Option ℕ) (refusal : ℕ → Refusal) → refuse_at o refusal ≡ None → o ≡ None
unfolding refuse_at
refuse_at-nothing o refusal e = grind arith

pub or_else_none : (check later : Option Refusal) → or_else check later ≡ None → (check ≡ None) × (later ≡ None)
unfolding or_else
or_else_none check later e = (grind arith, grind arith)

-- Every check of a list that finds nothing finds nothing.
abbrev pub AllNone : List (Option Refusal) → Type 0
AllNone [] = Unit {0}
AllNone (check ∷ later) = (check ≡ None) × AllNone later

pub first_of_none_all : (checks : List (Option Refusal)) → first_of checks ≡ None → AllNone checks
unfolding first_of
first_of_none_all [] e = tt
first_of_none_all (check ∷ later) e =
    let h = or_else_none check (first_of later) e in (h.0, first_of_none_all later h.1)

pub record Sizes (views cameras reference : ℕ) : Type 0 where
  pub some_views : 0 < views
  pub views_fit : views ≤ max_views
  pub some_cameras : 0 < cameras
  pub cameras_fit : cameras ≤ max_cameras
  pub reference_inside : reference < cameras

pub size_refusal-none : (views cameras reference : ℕ) → size_refusal views cameras reference ≡ None → Sizes views cameras reference
unfolding size_refusal
size_refusal-none views cameras reference e =
    record {
      some_views = grind (arith, nat_tests);
      views_fit = grind (arith, nat_tests);
      some_cameras = grind (arith, nat_tests);
      cameras_fit = grind (arith, nat_tests);
      reference_inside = grind (arith, nat_tests);
    }

pub size_refusal-sizes : (views cameras reference : ℕ) → Sizes views cameras reference → size_refusal views cameras reference ≡ None
unfolding size_refusal
size_refusal-sizes views cameras reference s = grind (arith, nat_tests)

pub record Lengths (views cameras marks floats first second : ℕ) : Type 0 where
  pub marks_fit : marks ≡ views * cameras
  pub floats_fit : floats ≡ 7 * (views * cameras)
  pub first_fits : first_needs cameras views ≤ first
  pub second_fits : second_needs cameras ≤ second

pub length_refusal-none : (views cameras marks floats first second : ℕ) → length_refusal views cameras marks floats first second ≡ None
    → Lengths views cameras marks floats first second
unfolding length_refusal
length_refusal-none views cameras marks floats first second e =
    record {
      marks_fit = grind (arith, nat_tests);
      floats_fit = grind (arith, nat_tests);
      first_fits = grind (arith, nat_tests);
      second_fits = grind (arith, nat_tests);
    }
