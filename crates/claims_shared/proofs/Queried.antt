-- The query meets demand 1 in words, whatever the record and the cameras (`query_demand_1`): 16 masks is what the record's type says. A record with a false
-- entry is refused with 5 (`false_entry-asked`); after commands from a fresh session the answer counts the cells that they left held (`asked-after`).
-- Assumes nothing.
use Prim.Native.Nat.{ℕ, ◌+◌, ◌*◌, ◌≤◌, ◌<◌}
use native.Mathlib.Omega.{arith}
use mathlib.Core.Path.{◌≡◌, refl, sym, ap, ◌∙◌}
use mathlib.Core.Logic.{◌≢◌, ◌↔◌, ◌⊎◌, inl, inr, ⊎_elim}
use mathlib.Core.Bool.{Bool, true, false, not, ◌&&◌, ◌||◌, true≢false}
use Rattle.std.specs.Prelude.{Option, None, Some}
use mathlib.Core.List.{List, [], ◌∷◌}
use lib.ListN.{length, get_or}
use lib.Dec.{leb}
use lib.Ieee.{Float}
use borrow.Author.Tests.{not-true, not-false, leb-true, le-leb, lt-leb}
use Rattle.refusal.specs.Table.{number_of, detail_of, refuse_if}
use Rattle.refusal.specs.declared.Refusal.{Refusal}
use Rattle.refusal.specs.declared.Refusal.TheVariants.{WrongLength, NoSize, OutsideRig}
use Rattle.inputs.proofs.Answering.{refuse_if-none}
use Rattle.lists.specs.Finding.{count}
use Rattle.lists.specs.Masks.{in_mask}
use Rattle.claims_direct.proofs.Carrying.{refuse_if_carries, refuse_if-plain}
use Rattle.session_record.specs.Session.{fresh, held_of, has_size, buffer_length, possible}
use Rattle.session_record.specs.declared.Session.{Session}
use Rattle.command.specs.Command.{Command}
use Rattle.session_commands.specs.Commands.{Left}
use Rattle.session_commands.specs.Obeyed.{State, state, first_length, second_length}
use Rattle.shared_query.specs.Query.{query_refusal, shared_answer}
use Rattle.shared_query.proofs.Queries.{query_impossible, query_passes, query_passed, answer-refused, answer-counted}
use Rattle.claims_streams.specs.Stream.{state_after_all}
use Rattle.claims_streams.specs.Held.{accepted_edits, held_after}
use Rattle.claims_streams.specs.CallDemand1.{NoSizeYet}
use Rattle.claims_streams.proofs.Sound.{T_true, true_T, within_limits, sound_of_possible}
use Rattle.claims_streams.proofs.DecidingParts.{Comes, some-not-none, some_same, comes_carried}
use Rattle.claims_streams.proofs.Usable.{usable_after_all}
use Rattle.claims_streams.proofs.Held.{usable_start}
use Rattle.claims_streams.proofs.Records.{possible-left}
use Rattle.claims_streams.proofs.CallWords.{or-true, true-or, no_size_yet}
use Rattle.claims_shared.specs.Summaries.{entry, holds_pose}
use Rattle.claims_shared.specs.Queries.{query_checks, QueryDemand1}
use Rattle.claims_shared.proofs.Summarised.{possible_exactly, entries-count-held}
use Rattle.std.specs.Prelude.{Err, Ok}
use Rattle.shared_query.specs.Query.{Shared}

module _ (s : Session) (sixteen : length s.masks ≡ 16) (a b : ℕ) where
  never_left : (not (possible s) ≡ true) ↔ (Left s → ⊥)
  never_left = (
    λ e left. true≢false (sym (T_true (possible s) ((possible-left s sixteen).1 left)) ∙ not-true (possible s) e),
    λ never. go (possible s) refl never,
  )
    where
      go : (p : Bool) → possible s ≡ p → (Left s → ⊥) → not (possible s) ≡ true
      go true e never = absurd (never ((possible-left s sixteen).0 (true_T _ e)))
      go false e never = ap not e

  comes_query : Comes (query_checks s a b) (query_refusal s a b)
  unfolding query_refusal
  comes_query =
      comes_carried (query_checks s a b)
      (refuse_if (not (possible s)) WrongLength
      ∷ refuse_if (not (has_size (held_of s))) NoSize
      ∷ refuse_if (leb s.cameras a || leb s.cameras b) (OutsideRig (a * 256 + b))
      ∷ []) (
        refuse_if-plain (not (possible s)) WrongLength (Left s → ⊥) refl never_left,
        λ e₁. (
          refuse_if-plain (not (has_size (held_of s))) NoSize (NoSizeYet s) refl
              (no_size_yet s ((possible-left s sixteen).0 (true_T (possible s) (not-false (possible s) (refuse_if-none (not (possible s)) WrongLength e₁))))),
          λ e₂. (
            refuse_if_carries (leb s.cameras a || leb s.cameras b) (OutsideRig (a * 256 + b))
                (λ d. ((s.cameras ≤ a) ⊎ (s.cameras ≤ b)) × (d ≡ a * 256 + b))
                (λ e. (⊎_elim (λ f. inl (leb-true _ _ f)) (λ f. inr (leb-true _ _ f)) (or-true _ _ e), refl))
                (λ d (words, same). (true-or _ _ (⊎_elim (λ l. inl (le-leb _ _ l)) (λ l. inr (le-leb _ _ l)) words), sym same)),
            λ e₃. tt,
          ),
        ),
      )

  abbrev both : ℕ
  both = count (λ v. in_mask (get_or s.masks a 0) v && in_mask (get_or s.masks b 0) v) 64

  -- The entry that a query which passes gives is the count.
  entry-counts : query_refusal s a b ≡ None → shared_answer s a b ≡ Ok both
  entry-counts e =
      let passed = query_passed s a b e in
      let place : a * 16 + b ≡ 16 * a + b = omega arith in
      answer-counted s a b e
      ∙ ap Ok
      (ap (λ (i : ℕ). get_or s.shared i 0) place
      ∙ ((possible_exactly s).0 (true_T _ passed.record_possible)).1.counts a b passed.first_small passed.second_small)

  count-not-refused : (n : ℕ) (q : Refusal) → ◌≡◌ {A = Shared} (Ok n) (Err q) → ⊥
  count-not-refused n q e = let z : ◌≡◌ {A = ℕ} 0 1 = cc in omega arith

  count_same : (n m : ℕ) → ◌≡◌ {A = Shared} (Ok n) (Ok m) → n ≡ m
  count_same n m e = cc

  refused_same : (p q : Refusal) → ◌≡◌ {A = Shared} (Err p) (Err q) → p ≡ q
  refused_same p q e = cc

  pub query_demand_1 : QueryDemand1 s a b (shared_answer s a b)
  query_demand_1 = go (query_refusal s a b) refl comes_query
    where
      go : (o : Option Refusal) → query_refusal s a b ≡ o → Comes (query_checks s a b) o → QueryDemand1 s a b (shared_answer s a b)
      go (Some q) e comes =
          let is = answer-refused s a b q e in
          record {
            refused_exactly = λ n d. (
              λ (r, same, number, detail).
                  let one = refused_same q r (sym is ∙ same) in
                  (comes.decided n d).1 (q, refl, ap number_of one ∙ number, ap detail_of one ∙ detail),
              λ decides. let (r, found, number, detail) = (comes.decided n d).0 decides in (r, is ∙ ap Err (some_same q r found), number, detail),
            );
            counted_exactly = λ n. (
              λ same. absurd (count-not-refused n q (sym same ∙ is)),
              λ (silent, _). absurd (some-not-none (comes.silent.0 silent)),
            );
          }
      go None e comes =
          let is = entry-counts e in
          record {
            refused_exactly = λ n d. (
              λ (r, same, _, _). absurd (count-not-refused both r (sym is ∙ same)),
              λ decides. let (r, found, _, _) = (comes.decided n d).0 decides in absurd (some-not-none (sym found)),
            );
            counted_exactly = λ n. (
              λ same. (comes.silent.1 refl, count_same n both (sym same ∙ is)),
              λ (silent, same). is ∙ ap Ok (sym same),
            );
          }

-- "A session record handed in with a false entry is 5", here too.
pub false_entry-asked : (s : Session) (a b x y : ℕ) → x < 16 → y < 16
    → entry s x y ≢ count (λ v. in_mask (get_or s.masks x 0) v && in_mask (get_or s.masks y 0) v) 64 → shared_answer s a b ≡ Err WrongLength
false_entry-asked s a b x y h k false-entry = go (possible s) refl
  where
    go : (p : Bool) → possible s ≡ p → shared_answer s a b ≡ Err WrongLength
    go true e = absurd (false-entry (((possible_exactly s).0 (true_T _ e)).1.counts x y h k))
    go false e = answer-refused s a b WrongLength (query_impossible s a b e)

-- After commands from a fresh session, whatever the buffer held: a query for two of its cameras counts the views of which both cells are held.
module _ (buffer first : List Float) (second : List ℕ) (buffer_fits : length buffer ≡ buffer_length)
    (first_fits : first_length ≤ length first) (second_fits : second_length ≤ length second) (commands : List Command) where
  abbrev start : State
  start = state fresh buffer first second

  abbrev last : Session
  last = (state_after_all start commands).session

  pub asked-after : (a b : ℕ) → a < last.cameras → b < last.cameras
      → shared_answer last a b
      ≡ Ok (count (λ v. holds_pose (held_after (accepted_edits start commands) v a) && holds_pose (held_after (accepted_edits start commands) v b)) 64)
  asked-after a b h k =
      let usable = usable_after_all commands start (usable_start buffer first second buffer_fits first_fits second_fits) in
      let limits = within_limits last usable.record_possible in
      let sound = sound_of_possible last usable.record_possible in
      let views : last.views ≡ 0 → ⊥ = λ e. ⊎_elim (λ n. omega (arith, n.1)) (λ n. omega (arith, n.some_views)) sound.sizes in
      let inside : leb last.cameras a || leb last.cameras b ≡ false = rw (lt-leb last.cameras a h) (lt-leb last.cameras b k) in
      let place : a * 16 + b ≡ 16 * a + b = omega arith in
      answer-counted last a b (query_passes last a b (T_true _ usable.record_possible) views inside)
      ∙ ap Ok
      (ap (λ (i : ℕ). get_or last.shared i 0) place
      ∙ entries-count-held buffer first second buffer_fits first_fits second_fits commands a b (omega (arith, limits.1)) (omega (arith, limits.1)))
