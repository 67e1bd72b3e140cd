-- Records that accepted commands can leave: what their sizes and masks are, told from the tests of `possible`. Assumes nothing.
use Prim.Native.Nat.{ℕ, ◌/◌, ◌^◌, ◌<◌, ◌≤◌}
use native.Mathlib.Nat.{div-eq_of_lt}
use native.Mathlib.Omega.{arith}
use mathlib.Core.Path.{◌≡◌}
use mathlib.Core.Bool.{true}
use lib.ListN.{get_or}
use lib.Dec.{eqb, ltb}
use lib.Pow.{pow_mono}
use borrow.Author.Tests.{lt-ltb}
use Rattle.std.specs.Prelude.{None}
use Rattle.std.proofs.lemmas.Bool.Decides.{nat_tests}
use Rattle.std.proofs.lemmas.Nat.{pow_pos, le-div}
use Rattle.limits.specs.Limits.{max_cameras}
use Rattle.inputs.specs.Inputs.{size_refusal}
use Rattle.inputs.proofs.Answering.{Sizes, size_refusal-none}
use Rattle.shared_counts.specs.Summary.{summary_of, is_summary}
use Rattle.session_record.specs.Session.{held_of, possible, possible_held, possible_masks, mask_fits}
use Rattle.session_record.specs.declared.Session.{Session}
use Rattle.session_record.specs.declared.Held.{Held}
use Rattle.lists.proofs.AllBelow.{all_below_at}
use Rattle.shared_counts.proofs.Summaries.{summary_of_is_summary}

-- Nothing is left of a mask without its lowest v bits exactly where it is below 2 to the power v.
pub below_power : (m v : ℕ) → eqb (m / 2 ^ v) 0 ≡ ltb m (2 ^ v)
below_power m v =
    grind (arith, nat_tests, le-div 1 m (2 ^ v) (pow_pos v), div-eq_of_lt {n = m} {m = 2 ^ v})

-- A word is below 2 to the power 64 and any higher one.
pub word_below_power : (m v : ℕ) → m < 2 ^ 64 → 64 ≤ v → ltb m (2 ^ v) ≡ true
word_below_power m v h l = lt-ltb m (2 ^ v) (omega (arith, h, pow_mono l))

-- ---- what is held, as a whole

module _ (s : Held) (h : possible_held s ≡ true) (some : s.views ≡ 0 → ⊥) where
  pub possible-within : Sizes s.views s.cameras s.reference
  unfolding possible_held
  possible-within =
      let passed : size_refusal s.views s.cameras s.reference ≡ None = grind (arith, nat_tests) in
      size_refusal-none s.views s.cameras s.reference passed

  pub possible_mask : (c : ℕ) → c < s.cameras → get_or s.masks c 0 < 2 ^ s.views
  unfolding possible_held
  possible_mask c l =
      let masks : possible_masks s ≡ true = grind arith in
      let fits = all_below_at (mask_fits s) max_cameras c masks (omega (arith, possible-within.cameras_fit)) in
      grind (arith, nat_tests)

-- ---- a whole record

module _ (s : Session) (h : possible s ≡ true) where
  pub possible-held : possible_held (held_of s) ≡ true
  unfolding possible
  possible-held = grind arith

  -- No entry of the summary is false.
  pub possible_summary : s.shared ≡ summary_of s.masks
  unfolding possible
  possible_summary =
      let summary : is_summary s.masks s.shared ≡ true = grind arith in
      summary_of_is_summary s.masks s.shared summary
