-- Demand 1 for the averaging entry (`average_demand_1`) and for its export (`average_replies_demand_1`), whatever list they are lent; and where
-- there is a mean, it is the Rust's. The three computed checks carry their words, so both name the same number and detail. Assumes nothing.
use Prim.Native.Nat.{ℕ, ◌^◌, ◌≤◌}
use native.Mathlib.Omega.{arith}
use mathlib.Core.Path.{◌≡◌, refl, sym, ap, ◌∙◌, subst}
use mathlib.Core.Logic.{◌↔◌}
use mathlib.Core.Bool.{Bool, true, false, not}
use Rattle.std.specs.Prelude.{Option, None, Some}
use mathlib.Core.List.{List, [], ◌∷◌, ◌++◌}
use lib.ListN.{length, get_or, drop}
use lib.Dec.{T, eqb, ltb}
use lib.Ieee.{Float}
use borrow.Author.Tests.{ltb-true, ltb-false, eqb-true, eqb-false, not-true, not-false, lt-ltb, eq-eqb}
use Rattle.arithmetic.specs.Pose.{flat, pose_at, finite_pose, nowhere}
use Rattle.arithmetic.specs.declared.pose.Pose.{Pose}
use Rattle.mean.specs.Average.{average_isometries}
use Rattle.refusal.specs.Table.{refuse_if, refuse_at, first_of}
use Rattle.refusal.specs.declared.Refusal.{Refusal}
use Rattle.refusal.specs.declared.Refusal.TheVariants.{InsufficientData, TooMany, NotFinite}
use Rattle.lists.specs.Finding.{lowest}
use Rattle.inputs.proofs.Answering.{refuse_if-none, first_of_none_all}
use Rattle.lists.proofs.Lowest.{lowest-none_fails, lowest-nothing}
use Rattle.averaging.specs.Entry.{max_poses, is_not_finite, lowest_not_finite, average_refusal, averaged_by, averaged_of}
use Rattle.averaging.specs.Entry.{Averaged}
use Rattle.averaging.proofs.Outcomes.{averaged_of_mean}
use Rattle.claims_direct.specs.Deciding.{Decides}
use Rattle.claims_direct.specs.Demand1.{NotAllFinite}
use Rattle.claims_direct.proofs.Deciding.{Carried, Finds, decides_first_of}
use Rattle.claims_direct.proofs.Carrying.{refuse_if-plain, lowest_carries}
use Rattle.claims_direct.proofs.FinitePoses.{finite_pose_numbers}
use Rattle.claims_direct.proofs.RustAverage.{average_isometries?-ok}
use Rattle.placer.specs.Code.{code_of, code_of_averaged}
use Rattle.placer.specs.Exports.{mean_after, AveragedInto}
use Rattle.placer.specs.Reading.{number_in, detail_in}
use Rattle.placer.proofs.Reading.{code_of_above}
use Rattle.placer.proofs.ReadBack.{average_reads_0, average_reads_both}
use Rattle.claims_exports.specs.Averages.{average_checks, Averageable, AverageDemand1, RepliesDemand1}
use Rattle.std.specs.Prelude.{Err, Ok}

-- ---- a pose's seven numbers

pose_at_0_flat : (p : Pose) → pose_at (flat p) 0 ≡ p
unfolding pose_at
pose_at_0_flat p = refl

not_finite_numbers : (p : Pose) → (finite_pose p ≡ false) ↔ NotAllFinite (flat p) 0
not_finite_numbers p = subst (λ (q : Pose). (finite_pose q ≡ false) ↔ NotAllFinite (flat p) 0) (pose_at_0_flat p) (finite_pose_numbers (flat p) 0)

true_of_T : (b : Bool) → T b → b ≡ true
true_of_T true t = refl
true_of_T false t = absurd t

-- ---- an outcome by what is refused

averaged_by-refused : (o : Option Refusal) (p : Pose) (q : Refusal) → averaged_by o p ≡ Err q → o ≡ Some q
unfolding averaged_by
averaged_by-refused None p q e = cc
averaged_by-refused (Some r) p q e = cc

averaged_by_mean : (o : Option Refusal) (p mean : Pose) → averaged_by o p ≡ Ok mean → o ≡ None
unfolding averaged_by
averaged_by_mean None p mean e = refl
averaged_by_mean (Some r) p mean e = cc

refuse_at-nothing : (o : Option ℕ) → refuse_at o NotFinite ≡ None → o ≡ None
unfolding refuse_at
refuse_at-nothing None e = refl
refuse_at-nothing (Some n) e = cc

module _ (poses : List Pose) where
  abbrev found : List (Option Refusal)
  found =
      refuse_if (eqb (length poses) 0) InsufficientData
      ∷ refuse_if (ltb max_poses (length poses)) TooMany
      ∷ refuse_at (lowest (is_not_finite poses) (length poses)) NotFinite
      ∷ []

  refusal_found : average_refusal poses ≡ first_of found
  unfolding average_refusal lowest_not_finite
  refusal_found = refl

  carried : Carried (average_checks poses) found
  carried = (
    refuse_if-plain (eqb (length poses) 0) InsufficientData _ refl (eqb-true (length poses) 0, eq-eqb (length poses) 0),
    λ e1. (
      refuse_if-plain (ltb max_poses (length poses)) TooMany _ refl (ltb-true max_poses (length poses), lt-ltb max_poses (length poses)),
      λ e2. (
        lowest_carries (is_not_finite poses) (length poses) (λ i. NotAllFinite (flat (get_or poses i nowhere)) 0)
            (λ i l.
            let numbers = not_finite_numbers (get_or poses i nowhere) in
            (λ t. numbers.0 (not-true (finite_pose (get_or poses i nowhere)) t), λ w. ap not (numbers.1 w))) 7 NotFinite (λ d. refl) (λ d. refl),
        λ e3. tt,
      ),
    ),
  )

  decides : (n d : ℕ) → Decides (average_checks poses) n d ↔ Finds (average_refusal poses) n d
  decides n d =
      let both = decides_first_of (average_checks poses) found carried n d in (
        λ decided. let f = both.0 decided in (f.0, refusal_found ∙ f.1, f.2, f.3),
        λ f. both.1 (f.0, sym refusal_found ∙ f.1, f.2, f.3),
      )

  -- ---- accepted

  accepted_averageable : average_refusal poses ≡ None → Averageable poses
  accepted_averageable e =
      let h = first_of_none_all found (sym refusal_found ∙ e) in
      let some-pose = eqb-false (length poses) 0 (refuse_if-none _ _ h.0) in
      record {
        not_empty = omega arith;
        not_too_many = ltb-false max_poses (length poses) (refuse_if-none _ _ h.1.0);
        finite_poses = λ i l.
            subst T
            (sym (not-false (finite_pose (get_or poses i nowhere))
            (lowest-none_fails (is_not_finite poses) (length poses) i (refuse_at-nothing (lowest (is_not_finite poses) (length poses)) h.1.1.0) l))) tt;
      }

  averageable_mean : Averageable poses → averaged_of poses ≡ Ok (average_isometries poses)
  unfolding lowest_not_finite
  averageable_mean a =
      averaged_of_mean poses (λ e. omega (arith, a.not_empty)) a.not_too_many
      (lowest-nothing (is_not_finite poses) (length poses) (λ i l. ap not (true_of_T (finite_pose (get_or poses i nowhere)) (a.finite_poses i l))))

  refused-outcome : (q : Refusal) → average_refusal poses ≡ Some q → averaged_of poses ≡ Err q
  unfolding averaged_of averaged_by
  refused-outcome q e = ap (λ (o : Option Refusal). averaged_by o (average_isometries poses)) e

  outcome-refused : (q : Refusal) → averaged_of poses ≡ Err q → average_refusal poses ≡ Some q
  unfolding averaged_of
  outcome-refused q e = averaged_by-refused (average_refusal poses) (average_isometries poses) q e

  mean_accepted : (p : Pose) → averaged_of poses ≡ Ok p → average_refusal poses ≡ None
  unfolding averaged_of
  mean_accepted p e = averaged_by_mean (average_refusal poses) (average_isometries poses) p e

  -- Whatever list the entry is lent.
  pub average_demand_1 : AverageDemand1 poses (averaged_of poses)
  average_demand_1 =
      record {
        refused_exactly = λ n d. (
          λ by. (decides n d).1 (by.0, outcome-refused by.0 by.1, by.2, by.3),
          λ decided. let f = (decides n d).0 decided in (f.0, refused-outcome f.0 f.1, f.2, f.3),
        );
        accepted_exactly = (
          λ mean. accepted_averageable (mean_accepted mean.0 mean.1),
          λ a. (average_isometries poses, averageable_mean a),
        );
        as_rust = λ a. (average_isometries poses, average_isometries?-ok poses a.not_empty, averageable_mean a);
      }

  -- ---- the export

  module _ (mean : List Float) (r : ℕ) (mean' : List Float) (call : AveragedInto poses mean r mean') where
    reply_of_refused : (q : Refusal) → average_refusal poses ≡ Some q → r ≡ code_of q
    unfolding code_of_averaged
    reply_of_refused q e = call.reply ∙ ap code_of_averaged (refused-outcome q e)

    refused-above : (q : Refusal) → average_refusal poses ≡ Some q → 2 ^ 32 ≤ r
    refused-above q e = omega (arith, reply_of_refused q e, code_of_above q)

    refused_same : (q : Refusal) → average_refusal poses ≡ Some q → mean' ≡ mean
    unfolding mean_after
    refused_same q e = call.answer ∙ ap (λ (o : Averaged). mean_after o mean) (refused-outcome q e)

    reply_0 : (r ≡ 0) ↔ (average_refusal poses ≡ None)
    reply_0 = average_reads_0 poses mean r mean' call

    above-refused : (o : Option Refusal) → average_refusal poses ≡ o → (r ≡ 0 → ⊥) → (q : Refusal) × (average_refusal poses ≡ Some q)
    above-refused None e n = absurd (n (reply_0.1 e))
    above-refused (Some q) e n = (q, e)

    reply-refused_exactly : (n d : ℕ) → ((2 ^ 32 ≤ r) × (number_in r ≡ n) × (detail_in r ≡ d)) ↔ Decides (average_checks poses) n d
    reply-refused_exactly n d = (
      λ said.
          let q = above-refused (average_refusal poses) refl (λ z. omega (arith, said.0)) in
          let both = average_reads_both poses mean r mean' call q.0 q.1 in
          (decides n d).1 (q.0, q.1, sym both.0 ∙ said.1, sym both.1 ∙ said.2),
      λ decided.
          let f = (decides n d).0 decided in
          let both = average_reads_both poses mean r mean' call f.0 f.1 in
          (refused-above f.0 f.1, both.0 ∙ f.2, both.1 ∙ f.3),
    )

    mean_written : Averageable poses → mean' ≡ flat (average_isometries poses) ++ drop 7 mean
    unfolding mean_after
    mean_written a = call.answer ∙ ap (λ (o : Averaged). mean_after o mean) (averageable_mean a)

    -- Whatever list and floats the export is lent.
    pub average_replies_demand_1 : RepliesDemand1 poses mean r mean'
    average_replies_demand_1 =
        record {
          refused_exactly = reply-refused_exactly;
          accepted_exactly = (
            λ e. accepted_averageable (reply_0.0 e),
            λ a. reply_0.1 (mean_accepted (average_isometries poses) (averageable_mean a)),
          );
          as_rust = λ a. (average_isometries poses, average_isometries?-ok poses a.not_empty, mean_written a);
          otherwise_unchanged = λ n.
              let q = above-refused (average_refusal poses) refl n in (refused-above q.0 q.1, refused_same q.0 q.1);
        }
