-- Records that accepted commands can leave: what is held is within the limits, and each part of the whole record. Assumes nothing.
use Prim.Native.Nat.{ℕ, ◌≤◌}
use native.Mathlib.Omega.{arith}
use mathlib.Core.Path.{◌≡◌}
use mathlib.Core.Bool.{true, ◌&&◌, ◌||◌}
use lib.Dec.{eqb}
use Rattle.std.specs.Prelude.{is_none}
use Rattle.std.proofs.lemmas.Bool.Decides.{nat_tests}
use Rattle.limits.specs.Limits.{max_views, max_cameras}
use Rattle.lists.proofs.Tests.{and-true}
use Rattle.inputs.specs.Inputs.{size_refusal}
use Rattle.shared_counts.specs.Summary.{summary_of}
use Rattle.session_record.specs.Session.{held_of, possible, possible_held, possible_sizes, possible_masks}
use Rattle.session_record.specs.declared.Held.{Held}
use Rattle.session_record.specs.declared.Session.{Session}
use Rattle.session_record.proofs.PossibleRecords.{possible-held, possible_summary}

sizes_within : (views cameras reference : ℕ) → eqb views 0 && eqb cameras 0 && eqb reference 0 || is_none (size_refusal views cameras reference) ≡ true
    → (views ≤ max_views) × (cameras ≤ max_cameras)
unfolding size_refusal
sizes_within views cameras reference e = (grind (arith, nat_tests), grind (arith, nat_tests))

pub held_within : (h : Held) → possible_held h ≡ true → (h.views ≤ max_views) × (h.cameras ≤ max_cameras)
unfolding possible_held
held_within h e = sizes_within h.views h.cameras h.reference (and-true (possible_sizes h) (possible_masks h) e).0

-- The check stands first in what it shows too, since `grind` goes by what stands first.
pub record_parts : (s : Session) → possible s ≡ true → (possible s ≡ true) × (possible_held (held_of s) ≡ true) × (s.shared ≡ summary_of s.masks)
record_parts s e = (e, possible-held s e, possible_summary s e)
