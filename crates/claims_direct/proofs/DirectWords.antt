-- Each check of the direct call carries its words, where none before it finds anything (`direct_carried`), and the first of them that finds
-- something is what the call refuses with (`direct_refusal_found`). Assumes nothing.
use Rattle.std.proofs.Common.{◌≡◌, ℕ, zero, suc, ◌*◌, ◌<◌, ◌≤◌, Bool, true, false, not, ◌||◌, T, eqb, ltb, leb, ◌≢◌, ◌⊎◌, ◌↔◌, List, [], ◌∷◌, ◌++◌, length, get_or, drop, sym, refl, ap, ◌∙◌, ap₂, inl, inr, ⊎_elim, arith, ltb-true, lt-ltb, eq-eqb, ne_eqb, eqb-true, le-leb, leb-true}
use mathlib.Core.Bool.{false≢true}
use Rattle.std.specs.Prelude.{Option, None}
use lib.Ieee.{Float}
use borrow.Author.Tests.{eqb-false, not-true}
use Rattle.arithmetic.specs.Pose.{pose_at, finite_pose}
use Rattle.arithmetic.specs.declared.pose.Pose.{Pose}
use Rattle.refusal.specs.Table.{refuse_if, or_else, first_of}
use Rattle.refusal.specs.declared.Refusal.{Refusal}
use Rattle.refusal.specs.declared.Refusal.TheVariants.{InsufficientData, TooMany, InvalidReference, CountDiffers, WrongLength, BadMark, NotFinite, Unreached, EmptyView}
use Rattle.limits.specs.Limits.{max_views, max_cameras, first_needs, second_needs}
use Rattle.inputs.specs.Inputs.{size_refusal, cell_count, lowest_other_count, count_refusal, length_refusal, lowest_bad_mark, mark_refusal, input_refusal}
use Rattle.inputs.proofs.Answering.{AllNone, Sizes, size_refusal-none, size_refusal-sizes, first_of_append}
use Rattle.lists.proofs.PowerSums.{power_sum_agree}
use Rattle.lists.specs.Masks.{in_mask}
use Rattle.placing.specs.Grid.{Grid, has_place}
use Rattle.extrinsics.specs.Outcome.{is_not_finite, lowest_not_finite, not_finite, unreached_set, unreached, is_empty_view, lowest_empty_view, empty_view, grid_refusal}
use Rattle.extrinsics.specs.Direct.{direct_grid, direct_refusal}
use Rattle.extrinsics.proofs.DirectCall.{input_marks}
use Rattle.claims_direct.specs.Deciding.{Check, naming, plain, LowestBelow}
use Rattle.claims_direct.specs.Demand1.{size_checks, NotAllFinite, LengthsWrong, direct_checks}
use Rattle.claims_direct.specs.Demand3.{Chained, HoldsAPose, NamesUnchained}
use Rattle.claims_direct.proofs.Deciding.{Carries, Carried}
use Rattle.claims_direct.proofs.GridRefusals.{or_else_none}
use Rattle.claims_direct.proofs.FinitePoses.{finite_pose_numbers}
use Rattle.claims_direct.proofs.WellFormed.{PassesBefore8, not_finite_by, is_bad, is_bad_mark}
use Rattle.claims_direct.proofs.MarkedViews.{empty-holds-none, not-empty-holds}
use Rattle.claims_direct.proofs.Demand3.{unplaced_unchained, names_unchained, some_unchained, every_chained}
use Rattle.claims_direct.proofs.Carrying.{refuse_if_carries, refuse_if-plain, lowest_carries, all_none_first_of, first_of_flatten}

-- ---- 1, 2 and 3

module _ (views cameras reference : ℕ) where
  abbrev pub size_found : List (Option Refusal)
  size_found =
      refuse_if (eqb views 0) InsufficientData
      ∷ refuse_if (ltb max_views views) TooMany
      ∷ refuse_if (eqb cameras 0) InsufficientData
      ∷ refuse_if (ltb max_cameras cameras) TooMany
      ∷ refuse_if (leb cameras reference) InvalidReference
      ∷ []

  sizes : AllNone size_found → Sizes views cameras reference
  unfolding size_refusal
  sizes h = size_refusal-none views cameras reference (all_none_first_of size_found h)

  -- What comes after them may use that the sizes are within the limits.
  pub sizes_carried : (later : List Check) (found : List (Option Refusal)) → (Sizes views cameras reference → Carried later found)
      → Carried (size_checks views cameras reference ++ later) (size_found ++ found)
  sizes_carried later found rest = (
    refuse_if-plain (eqb views 0) InsufficientData _ refl (eqb-true views 0, eq-eqb views 0),
    λ e1. (
      refuse_if-plain (ltb max_views views) TooMany _ refl (λ t. omega (arith, ltb-true max_views views t), λ w. lt-ltb max_views views (omega arith)),
      λ e2. (
        refuse_if-plain (eqb cameras 0) InsufficientData _ refl (eqb-true cameras 0, eq-eqb cameras 0),
        λ e3. (
          refuse_if-plain (ltb max_cameras cameras) TooMany _ refl
              (λ t. omega (arith, ltb-true max_cameras cameras t), λ w. lt-ltb max_cameras cameras (omega arith)),
          λ e4. (
            refuse_if-plain (leb cameras reference) InvalidReference _ refl
                (λ t l. omega (arith, leb-true cameras reference t), λ w. le-leb cameras reference (omega arith)),
            λ e5. rest (sizes (e1, (e2, (e3, (e4, (e5, tt)))))),
          ),
        ),
      ),
    ),
  )

-- ---- 5

-- A test of four flags says one of four things.
one_of_four : (a b c d : Bool) {A B C D : Type 0} → (a ≡ true) ↔ A → (b ≡ true) ↔ B → (c ≡ true) ↔ C → (d ≡ true) ↔ D
    → (a || b || c || d ≡ true) ↔ (A ⊎ (B ⊎ (C ⊎ D)))
one_of_four true b c d s t u v = (λ e. inl (s.0 refl), λ w. refl)
one_of_four false true c d s t u v = (λ e. inr (inl (t.0 refl)), λ w. refl)
one_of_four false false true d s t u v = (λ e. inr (inr (inl (u.0 refl))), λ w. refl)
one_of_four false false false d s t u v = (
  λ e. inr (inr (inr (v.0 e))),
  ⊎_elim (λ w. absurd (false≢true (s.1 w)))
      (⊎_elim (λ w. absurd (false≢true (t.1 w))) (⊎_elim (λ w. absurd (false≢true (u.1 w))) v.1)),
)

differs : (a b : ℕ) → (not (eqb a b) ≡ true) ↔ (a ≢ b)
differs a b = (λ t. eqb-false a b (not-true (eqb a b) t), λ n. ap not (ne_eqb a b n))

-- ---- 7

-- The cell that a mark of 0 or 1 and the pose p make.
not_finite_by_mark : (p : Pose) (n : ℕ) → n ≤ 1 → (not_finite_by p n ≡ true) ↔ ((n ≡ 1) × (finite_pose p ≡ false))
unfolding is_not_finite
not_finite_by_mark p zero l = (λ e. absurd (false≢true e), λ w. absurd (omega (arith, w.0)))
not_finite_by_mark p (suc zero) l = (λ e. (refl, not-true (finite_pose p) e), λ w. ap not w.1)
not_finite_by_mark p (suc (suc n)) l = absurd (omega arith)

-- ---- 8

T-same : (a b : Bool) → (T a → T b) → (T b → T a) → a ≡ b
T-same true true f g = refl
T-same true false f g = absurd (f tt)
T-same false true f g = absurd (g tt)
T-same false false f g = refl

-- ---- the call

module _ (counts marks : List ℕ) (floats : List Float) (reference : ℕ) (first : List Float) (second : List ℕ) where
  abbrev views : ℕ
  views = length counts

  abbrev cameras : ℕ
  cameras = get_or counts 0 0

  abbrev grid : Grid
  grid = direct_grid counts marks floats reference

  count_carries : Carries (naming 4 (LowestBelow views (λ v. get_or counts v 0 ≢ cameras))) (count_refusal counts)
  unfolding count_refusal lowest_other_count
  count_carries =
      lowest_carries (λ v. not (eqb (get_or counts v 0) cameras)) views (λ v. get_or counts v 0 ≢ cameras) (λ v l. differs (get_or counts v 0) cameras) 4 CountDiffers
      (λ d. refl) (λ d. refl)

  abbrev lengths_found : Option Refusal
  lengths_found = length_refusal views cameras (length marks) (length floats) (length first) (length second)

  length_carries : Carries (plain 5 (LengthsWrong counts marks floats reference (length first) (length second))) lengths_found
  unfolding length_refusal
  length_carries =
      let n = length marks in
      let m = length floats in
      let f = length first in
      let t = length second in
      refuse_if-plain
      (not (eqb n (views * cameras)) || not (eqb m (7 * (views * cameras))) || ltb f (first_needs cameras views) || ltb t (second_needs cameras))
      WrongLength (LengthsWrong counts marks floats reference f t) refl
      (one_of_four (not (eqb n (views * cameras))) (not (eqb m (7 * (views * cameras)))) (ltb f (first_needs cameras views)) (ltb t (second_needs cameras))
      (differs n (views * cameras)) (differs m (7 * (views * cameras))) (ltb-true f (first_needs cameras views), lt-ltb f (first_needs cameras views))
      (ltb-true t (second_needs cameras), lt-ltb t (second_needs cameras)))

  mark_carries : Carries (naming 6 (LowestBelow (views * cameras) (λ i. 1 < get_or marks i 0))) (mark_refusal (cell_count counts) marks)
  unfolding mark_refusal lowest_bad_mark
  mark_carries =
      lowest_carries (λ i. ltb 1 (get_or marks i 0)) (views * cameras) (λ i. 1 < get_or marks i 0)
      (λ i l. (ltb-true 1 (get_or marks i 0), lt-ltb 1 (get_or marks i 0))) 6 BadMark (λ d. refl) (λ d. refl)

  -- Where 1 to 6 find nothing.
  module _ (passes : input_refusal counts marks (length floats) reference (length first) (length second) ≡ None) where
    small : (i : ℕ) → i < cell_count counts → get_or marks i 0 ≤ 1
    small = input_marks counts marks (length floats) reference (length first) (length second) passes

    finite_carries : Carries (naming 7 (LowestBelow (views * cameras) (λ i. (get_or marks i 0 ≡ 1) × NotAllFinite floats (7 * i)))) (not_finite grid)
    unfolding not_finite lowest_not_finite direct_grid
    finite_carries =
        lowest_carries (is_bad counts marks floats reference (length first) (length second)) (views * cameras)
        (λ i. (get_or marks i 0 ≡ 1) × NotAllFinite floats (7 * i))
        (λ i l.
        let same = is_bad_mark counts marks floats reference (length first) (length second) i l in
        let by_mark = not_finite_by_mark (pose_at floats (7 * i)) (get_or marks i 0) (small i l) in
        let by_number = finite_pose_numbers floats (7 * i) in (
          λ t. let w = by_mark.0 (sym same ∙ t) in (w.0, by_number.0 w.1),
          λ w. same ∙ by_mark.1 (w.0, by_number.1 w.1),
        ))
        7 NotFinite (λ d. refl) (λ d. refl)

  -- Where 7 finds nothing either.
  module _ (passes : PassesBefore8 counts marks floats reference (length first) (length second)) where
    abbrev Unchained : ℕ → Type 0
    Unchained d =
        ((c : ℕ) × (c < cameras) × (Chained marks cameras views reference c → ⊥)) × NamesUnchained marks cameras views reference d

    -- One detail alone names them.
    named_set : (d : ℕ) → NamesUnchained marks cameras views reference d → unreached_set grid ≡ d
    unfolding unreached_set direct_grid
    named_set d named =
        power_sum_agree (λ c. not (has_place grid c)) (in_mask d) cameras
        (λ c h.
        let unplaced = unplaced_unchained counts marks floats reference first second passes c h in
        T-same (not (has_place grid c)) (in_mask d c) (λ t. (named.names c).1 (h, unplaced.0 t)) (λ t. unplaced.1 ((named.names c).0 t).1))
        ∙ sym named.sums

    unchained_carries : Carries (naming 8 Unchained) (unreached grid)
    unfolding unreached
    unchained_carries =
        refuse_if_carries (not (eqb (unreached_set grid) 0)) (Unreached (unreached_set grid)) Unchained
        (λ t. (
          some_unchained counts marks floats reference first second passes ((differs (unreached_set grid) 0).0 t),
          names_unchained counts marks floats reference first second passes,
        ))
        (λ d w.
        let (c, h, n) = w.0 in (
          (differs (unreached_set grid) 0).1 (λ reached. n (every_chained counts marks floats reference first second passes reached c h)),
          named_set d w.1,
        ))

    view_carries : Carries (naming 9 (LowestBelow views (λ v. HoldsAPose marks cameras v → ⊥))) (empty_view grid)
    unfolding empty_view lowest_empty_view direct_grid
    view_carries =
        lowest_carries (is_empty_view grid) views (λ v. HoldsAPose marks cameras v → ⊥)
        (λ v l. (empty-holds-none counts marks floats reference (small passes.passes_1_to_6) v l, λ n. empty v l n (is_empty_view grid v) refl))
        9 EmptyView (λ d. refl) (λ d. refl)
      where
        empty : (v : ℕ) → v < views → (HoldsAPose marks cameras v → ⊥) → (b : Bool) → is_empty_view grid v ≡ b → is_empty_view grid v ≡ true
        empty v l n true e = e
        empty v l n false e = absurd (n (not-empty-holds counts marks floats reference (small passes.passes_1_to_6) v l e))

  -- ---- one list

  abbrev input_found : List (Option Refusal)
  input_found = count_refusal counts ∷ lengths_found ∷ mark_refusal (cell_count counts) marks ∷ []

  abbrev grid_found : List (Option Refusal)
  grid_found = not_finite grid ∷ unreached grid ∷ empty_view grid ∷ []

  -- The eleven checks in their order.
  abbrev pub direct_found : List (Option Refusal)
  direct_found = size_found views cameras reference ++ (input_found ++ grid_found)

  input_refusal_found : input_refusal counts marks (length floats) reference (length first) (length second) ≡ first_of (size_found views cameras reference ++ input_found)
  unfolding input_refusal size_refusal
  input_refusal_found = first_of_flatten (size_found views cameras reference) input_found

  pub direct_refusal_found : direct_refusal counts marks floats reference (length first) (length second) ≡ first_of direct_found
  unfolding direct_refusal grid_refusal
  direct_refusal_found =
      ap₂ or_else input_refusal_found (or_else_none (grid_refusal grid)) ∙ sym (first_of_append (size_found views cameras reference ++ input_found) grid_found)

  inputs_pass : Sizes views cameras reference → AllNone input_found → input_refusal counts marks (length floats) reference (length first) (length second) ≡ None
  unfolding input_refusal
  inputs_pass s h = all_none_first_of (size_refusal views cameras reference ∷ input_found) (size_refusal-sizes views cameras reference s, h)

  pub direct_carried : Carried (direct_checks counts marks floats reference (length first) (length second)) direct_found
  direct_carried =
      -- After the five of the sizes come 4 to 9.
      sizes_carried views cameras reference (drop 5 (direct_checks counts marks floats reference (length first) (length second))) (input_found ++ grid_found)
      (λ s. (
        count_carries,
        λ e4. (
          length_carries,
          λ e5. (
            mark_carries,
            λ e6.
                let inputs = inputs_pass s (e4, (e5, (e6, tt))) in (
                  finite_carries inputs,
                  λ e7.
                      let passes : PassesBefore8 counts marks floats reference (length first) (length second) = record { passes_1_to_6 = inputs; passes_7 = e7 } in
                      (unchained_carries passes, λ e8. (view_carries passes, λ e9. tt)),
                ),
          ),
        ),
      ))
