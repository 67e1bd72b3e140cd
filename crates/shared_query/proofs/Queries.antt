-- What refuses a query, by its checks in their order, and what one that passes answers: its cameras are inside the sizes, and the answer is their entry.
-- Assumes nothing.
use Prim.Native.Nat.{ℕ, ◌+◌, ◌*◌, ◌<◌}
use native.Mathlib.Omega.{arith}
use mathlib.Core.Path.{◌≡◌}
use mathlib.Core.Bool.{true, false, ◌||◌}
use Rattle.std.specs.Prelude.{None, Some, Err, Ok}
use Rattle.std.proofs.lemmas.Bool.Decides.{nat_tests}
use lib.ListN.{get_or}
use lib.Dec.{leb}
use Rattle.refusal.specs.declared.Refusal.{Refusal}
use Rattle.refusal.specs.declared.Refusal.TheVariants.{WrongLength, NoSize, OutsideRig}
use Rattle.session_record.specs.Session.{held_of, possible}
use Rattle.session_record.specs.declared.Session.{Session}
use Rattle.session_record.proofs.PossibleRecords.{possible-held, possible-within}
use Rattle.shared_counts.specs.Summary.{entry_place}
use Rattle.shared_query.specs.Query.{query_refusal, shared_answer}

module _ (s : Session) (a b : ℕ) where
  pub query_impossible : possible s ≡ false → query_refusal s a b ≡ Some WrongLength
  unfolding query_refusal
  query_impossible e = grind (arith, nat_tests)

  module _ (p : possible s ≡ true) where
    pub query_without_size : s.views ≡ 0 → query_refusal s a b ≡ Some NoSize
    unfolding query_refusal
    query_without_size e = grind (arith, nat_tests)

    module _ (sized : s.views ≡ 0 → ⊥) where
      pub query_outside : leb s.cameras a || leb s.cameras b ≡ true → query_refusal s a b ≡ Some (OutsideRig (a * 256 + b))
      unfolding query_refusal
      query_outside e = grind (arith, nat_tests)

      pub query_passes : leb s.cameras a || leb s.cameras b ≡ false → query_refusal s a b ≡ None
      unfolding query_refusal
      query_passes e = grind (arith, nat_tests)

  -- What a query that passes has shown.
  pub record QueryPassed : Type 0 where
    pub record_possible : possible s ≡ true
    pub has_views : s.views ≡ 0 → ⊥
    pub first_inside : a < s.cameras
    pub second_inside : b < s.cameras
    pub first_small : a < 16
    pub second_small : b < 16

  pub query_passed : query_refusal s a b ≡ None → QueryPassed
  unfolding query_refusal
  query_passed e =
      let allowed : possible s ≡ true = grind (arith, nat_tests) in
      let views : s.views ≡ 0 → ⊥ = λ z. grind (arith, nat_tests) in
      let within = possible-within (held_of s) (possible-held s allowed) views in
      record {
        record_possible = allowed;
        has_views = views;
        first_inside = grind (arith, nat_tests);
        second_inside = grind (arith, nat_tests);
        first_small = grind (arith, nat_tests);
        second_small = grind (arith, nat_tests);
      }

  -- What it answers.
  pub answer-refused : (r : Refusal) → query_refusal s a b ≡ Some r → shared_answer s a b ≡ Err r
  unfolding shared_answer
  answer-refused r e = grind arith

  pub answer-counted : query_refusal s a b ≡ None → shared_answer s a b ≡ Ok (get_or s.shared (entry_place a b) 0)
  unfolding shared_answer
  answer-counted e = grind arith
