-- Laws of the summary: its length, its entries, that no other list is one, and the summary of masks without poses. Assumes nothing.
use Prim.Native.Nat.{ℕ, ◌+◌, ◌*◌, ◌/◌, ◌%◌, ◌^◌, ◌≤◌, ◌<◌}
use native.Mathlib.Omega.{arith}
use mathlib.Core.Path.{◌≡◌, sym, ap, ap₂, ◌∙◌}
use mathlib.Core.Bool.{Bool, true}
use mathlib.Core.List.{List}
use lib.ListN.{length, get_or, replicate, length-replicate, get_or-replicate}
use lib.Seq.{ext_get_or}
use lib.Bits.{bit_and}
use lib.Count.{ones}
use lib.Dec.{eqb}
use borrow.Author.Tests.{eqb-true, eq-eqb}
use Rattle.lists.specs.Finding.{all_below}
use Rattle.chains.specs.Masks.{shared_by}
use Rattle.shared_counts.specs.Summary.{entry_count, entry_of, summary_of, is_summary}
use Rattle.lists.proofs.Tests.{and-true}
use Rattle.lists.proofs.AllBelow.{all_below_at, all_below_each}
use Rattle.lists.proofs.Tabulated.{length-tabulate, get_d_tabulate}
use Rattle.chains.proofs.Bits.{views_of_both-ones}
use Rattle.shared_counts.proofs.SharedViews.{shared_by-symmetric, shared_by-le, shared_by-none}

module _ (masks : List ℕ) where
  pub summary_length : length (summary_of masks) ≡ 256
  unfolding summary_of
  summary_length = length-tabulate entry_count (entry_of masks)

  pub summary_entry : (i : ℕ) → i < 256 → get_or (summary_of masks) i 0 ≡ entry_of masks i
  unfolding summary_of
  summary_entry i h = get_d_tabulate entry_count (entry_of masks) 0 i h

  pub summary_at : (a b : ℕ) → a < 16 → b < 16 → get_or (summary_of masks) (a * 16 + b) 0 ≡ shared_by masks a b
  summary_at a b h l =
      let row : (a * 16 + b) / 16 ≡ a = omega arith in
      let column : (a * 16 + b) % 16 ≡ b = omega arith in
      summary_entry (a * 16 + b) (omega arith) ∙ ap₂ (shared_by masks) row column

  pub summary_symmetric : (a b : ℕ) → a < 16 → b < 16 → get_or (summary_of masks) (a * 16 + b) 0 ≡ get_or (summary_of masks) (b * 16 + a) 0
  summary_symmetric a b h l = summary_at a b h l ∙ shared_by-symmetric masks a b ∙ sym (summary_at b a l h)

  pub summary_le : (i : ℕ) → i < 256 → get_or (summary_of masks) i 0 ≤ 64
  summary_le i h = omega (arith, summary_entry i h, shared_by-le masks (i / 16) (i % 16))

  pub summary_outside : (a b : ℕ) → a < 16 → b < 16 → get_or masks a 0 ≡ 0 → get_or (summary_of masks) (a * 16 + b) 0 ≡ 0
  summary_outside a b h l e = summary_at a b h l ∙ shared_by-none masks a b e

  pub summary_ones : (a b : ℕ) → a < 16 → b < 16 → get_or masks a 0 < 2 ^ 64 → get_or (summary_of masks) (a * 16 + b) 0 ≡ ones (bit_and (get_or masks a 0) (get_or masks b 0))
  unfolding shared_by
  summary_ones a b h l f = summary_at a b h l ∙ views_of_both-ones (get_or masks a 0) (get_or masks b 0) f

  -- A list of as many entries that are the shared counts is the summary.
  pub summary_of_entries : (shared : List ℕ) → length shared ≡ 256
      → ((a b : ℕ) → a < 16 → b < 16 → get_or shared (a * 16 + b) 0 ≡ shared_by masks a b)
      → shared ≡ summary_of masks
  summary_of_entries shared e each =
      ext_get_or 0 shared (summary_of masks) (e ∙ sym summary_length) (λ i l. at i (omega (arith, e)))
    where
      at : (i : ℕ) → i < 256 → get_or shared i 0 ≡ get_or (summary_of masks) i 0
      at i l =
          let place : i ≡ i / 16 * 16 + i % 16 = omega arith in
          ap (λ (j : ℕ). get_or shared j 0) place ∙ each (i / 16) (i % 16) (omega arith) (omega arith) ∙ sym (summary_entry i l)

  pub is_summary_of_summary : (shared : List ℕ) → shared ≡ summary_of masks → is_summary masks shared ≡ true
  unfolding is_summary
  is_summary_of_summary shared e =
      rw (
        e,
        eq-eqb (length (summary_of masks)) 256 summary_length,
        all_below_each (λ i. eqb (get_or (summary_of masks) i 0) (entry_of masks i)) entry_count (λ i l. eq-eqb _ _ (summary_entry i l)),
      )

  pub summary_of_is_summary : (shared : List ℕ) → is_summary masks shared ≡ true → shared ≡ summary_of masks
  unfolding is_summary
  summary_of_is_summary shared e =
      let test : ℕ → Bool = λ i. eqb (get_or shared i 0) (entry_of masks i) in
      let parts = and-true (eqb (length shared) entry_count) (all_below test entry_count) e in
      let size : length shared ≡ 256 = eqb-true (length shared) entry_count parts.0 in
      ext_get_or 0 shared (summary_of masks) (size ∙ sym summary_length)
      (λ i l.
      let inside : i < 256 = omega (arith, size) in
      eqb-true (get_or shared i 0) (entry_of masks i) (all_below_at test entry_count i parts.1 inside) ∙ sym (summary_entry i inside))

pub summary_of_nothing : summary_of (replicate 16 0) ≡ replicate 256 0
summary_of_nothing = sym (summary_of_entries (replicate 16 0) (replicate 256 0) (length-replicate {A = ℕ} 256 0) each)
  where
    each : (a b : ℕ) → a < 16 → b < 16 → get_or (replicate 256 0) (a * 16 + b) 0 ≡ shared_by (replicate 16 0) a b
    each a b h l =
        get_or-replicate {A = ℕ} 256 (a * 16 + b) 0 0 (omega arith)
        ∙ sym (shared_by-none (replicate 16 0) a b (get_or-replicate {A = ℕ} 16 a 0 0 h))
