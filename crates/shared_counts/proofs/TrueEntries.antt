-- That all cameras' entries are true exactly where the list is the summary. Assumes nothing.
use Prim.Native.Nat.{ℕ, ◌+◌, ◌*◌, ◌≤◌, ◌<◌}
use native.Mathlib.Decide.{dec_lt}
use native.Mathlib.Omega.{arith}
use mathlib.Core.Path.{◌≡◌, sym, ◌∙◌}
use mathlib.Core.Bool.{true}
use mathlib.Core.List.{List}
use lib.ListN.{length, get_or}
use borrow.Author.Tests.{eqb-true, eq-eqb}
use Rattle.limits.specs.Limits.{max_cameras}
use Rattle.lists.specs.Finding.{all_below}
use Rattle.chains.specs.Masks.{shared_by}
use Rattle.shared_counts.specs.Summary.{summary_of, is_summary}
use Rattle.shared_counts.specs.Inner.Counts.{true_entries, true_up_to}
use Rattle.lists.proofs.Tests.{and-true}
use Rattle.lists.proofs.AllBelow.{all_below_at, all_below_each}
use Rattle.shared_counts.proofs.Tests.{same_tests}
use Rattle.shared_counts.proofs.SharedViews.{shared_by-symmetric}
use Rattle.shared_counts.proofs.Summaries.{summary_at, summary_of_entries, summary_of_is_summary, is_summary_of_summary}

module _ (masks shared : List ℕ) where
  true_entries_both : (a b : ℕ) → true_entries masks shared a b ≡ true
      → (get_or shared (a * 16 + b) 0 ≡ shared_by masks a b) × (get_or shared (b * 16 + a) 0 ≡ shared_by masks b a)
  unfolding true_entries
  true_entries_both a b e =
      let both = and-true _ _ e in
      (sym (eqb-true _ _ both.0), sym (eqb-true _ _ both.1) ∙ shared_by-symmetric masks a b)

  true_entries_summary : (a b : ℕ) → a < 16 → b < 16 → shared ≡ summary_of masks → true_entries masks shared a b ≡ true
  unfolding true_entries
  true_entries_summary a b h l e =
      rw (
        e,
        eq-eqb _ _ (sym (summary_at masks a b h l)),
        eq-eqb _ _ (shared_by-symmetric masks a b ∙ sym (summary_at masks b a l h)),
      )

  pub all_true_is_summary : length shared ≡ 256 → all_below (true_up_to masks shared) max_cameras ≡ is_summary masks shared
  all_true_is_summary size = same_tests _ _ there back
    where
      there : all_below (true_up_to masks shared) max_cameras ≡ true → is_summary masks shared ≡ true
      there e = is_summary_of_summary masks shared (summary_of_entries masks shared size (λ a b h l. go a b h l (dec_lt a b)))
        where
          entries : (a b : ℕ) → a < 16 → b ≤ a → true_entries masks shared a b ≡ true
          entries a b h l = all_below_at (true_entries masks shared a) (a + 1) b (all_below_at (true_up_to masks shared) max_cameras a e h) (omega arith)

          go : (a b : ℕ) → a < 16 → b < 16 → Dec (a < b) → get_or shared (a * 16 + b) 0 ≡ shared_by masks a b
          go a b h l (yes lower) = (true_entries_both b a (entries b a l (omega arith))).1
          go a b h l (no higher) = (true_entries_both a b (entries a b h (omega arith))).0

      back : is_summary masks shared ≡ true → all_below (true_up_to masks shared) max_cameras ≡ true
      back e =
          let summary = summary_of_is_summary masks shared e in
          all_below_each (true_up_to masks shared) max_cameras
          (λ a h. all_below_each (true_entries masks shared a) (a + 1) (λ b l. true_entries_summary a b h (omega arith) summary))
