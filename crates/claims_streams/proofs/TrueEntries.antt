-- The words on a record's entries are those of its summary: `true_entries_is`, and back, `summary_of_true`. Assumes nothing.
use Prim.Native.Nat.{ℕ, ◌+◌, ◌*◌}
use native.Mathlib.Omega.{arith}
use mathlib.Core.Path.{◌≡◌, ap, ◌∙◌}
use mathlib.Core.List.{List}
use lib.ListN.{length, get_or}
use Rattle.chains.specs.Masks.{views_of_both, shared_by}
use Rattle.shared_counts.specs.Summary.{summary_of}
use Rattle.shared_counts.proofs.Summaries.{summary_length, summary_at, summary_of_entries}
use Rattle.session_record.specs.declared.Session.{Session}
use Rattle.claims_streams.specs.CallDemand1.{TrueEntries}

pub true_entries_is : (s : Session) → s.shared ≡ summary_of s.masks → TrueEntries s
unfolding shared_by views_of_both
true_entries_is s e =
    record {
      entry_each = ap length e ∙ summary_length s.masks;
      counts = λ a b h k.
          let place : 16 * a + b ≡ a * 16 + b = omega arith in
          ap (λ (l : List ℕ). get_or l (16 * a + b) 0) e ∙ ap (λ (i : ℕ). get_or (summary_of s.masks) i 0) place ∙ summary_at s.masks a b h k;
    }

pub summary_of_true : (s : Session) → TrueEntries s → s.shared ≡ summary_of s.masks
unfolding shared_by views_of_both
summary_of_true s h =
    summary_of_entries s.masks s.shared h.entry_each
    (λ a b k l. let place : a * 16 + b ≡ 16 * a + b = omega arith in ap (λ (i : ℕ). get_or s.shared i 0) place ∙ h.counts a b k l)
