-- One view of a camera counted: a turn of the loop, and that it leads from the summary without the view to the one with it, and back. Assumes nothing.
use Prim.Native.Nat.{ℕ, ◌+◌, ◌<◌}
use native.Mathlib.Decide.{ℕ_discrete}
use native.Mathlib.Omega.{arith}
use Rattle.std.proofs.lemmas.Grind.{get_or-set_at}
use mathlib.Core.Path.{◌≡◌, sym, ap, ◌∙◌}
use mathlib.Core.Logic.{◌≢◌}
use mathlib.Core.Bool.{true}
use mathlib.Core.List.{List}
use lib.ListN.{length, get_or, set, length-set}
use lib.Seq.{get_or-set_other}
use Rattle.limits.specs.Limits.{max_views, max_cameras}
use Rattle.lists.specs.Masks.{in_mask}
use Rattle.chains.specs.Masks.{shared_by}
use Rattle.shared_counts.specs.Summary.{entry_place, summary_of}
use Rattle.shared_counts.specs.Inner.Counts.{recounted, recounted_with, Counted}
use Rattle.shared_counts.proofs.SharedViews.{without, shared_by-symmetric, shared_by-le, shared_by_more, shared_by_other}
use Rattle.shared_counts.proofs.Summaries.{summary_at, summary_of_entries}

module _ (masks before : List ℕ) (camera view by : ℕ) where
  pub counted_more : (n count : ℕ) (after : List ℕ) → camera < max_cameras → n < max_cameras → Counted masks before camera view by n after
      → count ≡ recounted (get_or after (entry_place camera n) 0) (get_or masks n 0) view by
      → Counted masks before camera view by (n + 1) (set (set after (entry_place camera n) count) (entry_place n camera) count)
  counted_more n count after inside below counted is =
      let size : length after ≡ 256 = counted.entries in
      let unchanged = counted.rest camera n inside below (λ _. omega arith) (λ s. omega arith) in
      let counts : count ≡ recounted_with masks before camera view by n = is ∙ ap (λ (x : ℕ). recounted x (get_or masks n 0) view by) unchanged in
      record {
        entries = grind (arith, length-set {A = ℕ});
        row = λ b h. grind (arith, length-set {A = ℕ}, get_or-set_at {X = ℕ}, get_or-set_other {A = ℕ}, counted.row b);
        column = λ a h. grind (arith, length-set {A = ℕ}, get_or-set_at {X = ℕ}, get_or-set_other {A = ℕ}, counted.column a);
        rest = λ a b h l row column. grind (arith, get_or-set_other {A = ℕ}, counted.rest a b);
      }

  -- Where the camera's own entries become those of other masks, and all others are those already, the list becomes their summary.
  counted_summary : (masks' after : List ℕ) → Counted masks before camera view by max_cameras after
      → ((b : ℕ) → b < 16 → recounted_with masks before camera view by b ≡ shared_by masks' camera b)
      → ((a b : ℕ) → a < 16 → b < 16 → a ≢ camera → b ≢ camera → get_or before (entry_place a b) 0 ≡ shared_by masks' a b)
      → after ≡ summary_of masks'
  counted_summary masks' after counted own other =
      summary_of_entries masks' after counted.entries (λ a b h l. go a b h l (ℕ_discrete a camera) (ℕ_discrete b camera))
    where
      go : (a b : ℕ) → a < 16 → b < 16 → Dec (a ≡ camera) → Dec (b ≡ camera) → get_or after (entry_place a b) 0 ≡ shared_by masks' a b
      go a b h l (yes s) _ = rw s (counted.row b l ∙ own b l)
      go a b h l (no d) (yes s) = rw s (counted.column a h ∙ own a h ∙ shared_by-symmetric masks' camera a)
      go a b h l (no d) (no e) = counted.rest a b h l (λ s. absurd (d s)) (λ s. absurd (e s)) ∙ other a b h l d e

module _ (masks before : List ℕ) (camera view : ℕ) (after : List ℕ) (inside : camera < max_cameras) (below : view < max_views)
    (held : in_mask (get_or masks camera 0) view ≡ true) where
  pub counted_added : before ≡ summary_of (without masks camera view) → Counted masks before camera view 1 max_cameras after → after ≡ summary_of masks
  counted_added is counted =
      counted_summary masks before camera view 1 masks after counted
      (λ b l. omega (arith, entry camera b inside l, shared_by_more masks camera view held below b, shared_by-le masks camera b))
      (λ a b h l d e. entry a b h l ∙ sym (shared_by_other masks camera view a b d e))
    where
      entry : (a b : ℕ) → a < 16 → b < 16 → get_or before (entry_place a b) 0 ≡ shared_by (without masks camera view) a b
      entry a b h l = rw is (summary_at (without masks camera view) a b h l)

  pub counted_removed : before ≡ summary_of masks → Counted masks before camera view 255 max_cameras after → after ≡ summary_of (without masks camera view)
  counted_removed is counted =
      counted_summary masks before camera view 255 (without masks camera view) after counted
      (λ b l. omega (arith, entry camera b inside l, shared_by_more masks camera view held below b, shared_by-le masks camera b))
      (λ a b h l d e. entry a b h l ∙ shared_by_other masks camera view a b d e)
    where
      entry : (a b : ℕ) → a < 16 → b < 16 → get_or before (entry_place a b) 0 ≡ shared_by masks a b
      entry a b h l = rw is (summary_at masks a b h l)
