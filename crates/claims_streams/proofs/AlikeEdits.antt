-- What an accepted edit leaves in two buffers that have the same floats in every held cell: again such buffers (`held-alike`), without a new
-- difference (`differences_old`). By the law of an edit, whichever it is. Assumes nothing.
use Prim.Native.Nat.{ℕ, ◌+◌, ◌/◌, ◌%◌, ◌<◌}
use native.Mathlib.Omega.{arith}
use mathlib.Core.Path.{◌≡◌, refl, sym, subst, ◌∙◌}
use mathlib.Core.Bool.{Bool, true, false, true≢false}
use Rattle.std.specs.Prelude.{Option, None, Some}
use mathlib.Core.List.{List}
use lib.ListN.{length, get_or}
use lib.Ieee.{Float, nan}
use Rattle.arithmetic.specs.Pose.{pose_at}
use Rattle.arithmetic.specs.declared.pose.Pose.{Pose}
use Rattle.limits.specs.Limits.{max_cameras}
use Rattle.lists.specs.Masks.{in_mask}
use Rattle.command.specs.Command.{Edit}
use Rattle.session_record.specs.Session.{held_of, buffer_length, cell_start}
use Rattle.session_commands.specs.Commands.{edit_refusal, edit_session, edit_buffer}
use Rattle.session_record.specs.declared.Session.{Session}
use Rattle.claims_streams.specs.Held.{cell_after, writes, HoldsCell}
use Rattle.claims_streams.specs.Alike.{SameHeld, NoNewDifference}
use Rattle.claims_streams.proofs.Cells.{pose_at_agree, floats_agree, cell_of_place}
use Rattle.claims_streams.proofs.Sound.{Sound}
use Rattle.claims_streams.proofs.Edits.All.{edit_law}

-- ---- one cell of two buffers

module _ (masks : List ℕ) (b b' : List Float) (v c : ℕ) where
  -- Both hold the same in it.
  abbrev BothHold : Option Pose → Type 0
  BothHold o = HoldsCell masks b v c o × HoldsCell masks b' v c o

  -- Where both hold the same, and the bit is set, there are the same seven floats.
  same_floats : (o : Option Pose) → BothHold o → in_mask (get_or masks c 0) v ≡ true
      → (k : ℕ) → k < 7 → get_or b (cell_start v c + k) nan ≡ get_or b' (cell_start v c + k) nan
  same_floats None (clear, _) bit = absurd (true≢false (sym bit ∙ clear))
  same_floats (Some p) ((_, here), (_, there)) bit = floats_agree b b' (cell_start v c) (here ∙ sym there)

  -- Buffers with the same floats where cells are held do hold the same.
  both_hold : c < max_cameras → SameHeld masks b b' → (o : Option Pose) × BothHold o
  both_hold h same = go (in_mask (get_or masks c 0) v) refl
    where
      go : (bit : Bool) → in_mask (get_or masks c 0) v ≡ bit → (o : Option Pose) × BothHold o
      go true e = (Some (pose_at b (cell_start v c)), ((e, refl), (e, sym (pose_at_agree b b' (cell_start v c) (same v c h e)))))
      go false e = (None, (e, e))

-- ---- one accepted edit

module _ (change : Edit) (s : Session) (accepted : edit_refusal (held_of s) change ≡ None) (sound : Sound s) (sixteen : length s.masks ≡ max_cameras)
    (b b' : List Float) (fits : length b ≡ buffer_length) (fits' : length b' ≡ buffer_length) where
  abbrev masks_after : List ℕ
  masks_after = (edit_session s change).masks

  abbrev after : List Float
  after = edit_buffer b change

  abbrev after' : List Float
  after' = edit_buffer b' change

  both_after : (v c : ℕ) → c < max_cameras → (o : Option Pose) → BothHold s.masks b b' v c o → BothHold masks_after after after' v c (cell_after change v c o)
  both_after v c h o (here, there) = (
    (edit_law change).cells_after s b accepted sound sixteen fits v c o h here,
    (edit_law change).cells_after s b' accepted sound sixteen fits' v c o h there,
  )

  pub held-alike : SameHeld s.masks b b' → SameHeld masks_after after after'
  held-alike same v c h =
      let (o, both) = both_hold s.masks b b' v c h same in
      same_floats masks_after after after' v c (cell_after change v c o) (both_after v c h o both)

  -- A cell that it writes held none and then holds the pose written, whichever the buffer.
  written-alike : (v c : ℕ) → c < max_cameras → writes change v c ≡ true
      → (k : ℕ) → k < 7 → get_or after (cell_start v c + k) nan ≡ get_or after' (cell_start v c + k) nan
  written-alike v c h names =
      let clear = (edit_law change).into_empty s accepted v c names in
      let (p, now) = (edit_law change).holds_written v c names None in
      let both : BothHold masks_after after after' v c (Some p) =
      subst (BothHold masks_after after after' v c) now (both_after v c h None (clear, clear)) in
      same_floats masks_after after after' v c (Some p) both both.0.0

  cell_differences_old : (v c : ℕ) → c < max_cameras → (k : ℕ) → k < 7 → get_or b (cell_start v c + k) nan ≡ get_or b' (cell_start v c + k) nan
      → get_or after (cell_start v c + k) nan ≡ get_or after' (cell_start v c + k) nan
  cell_differences_old v c h k l same = go (writes change v c) refl
    where
      go : (w : Bool) → writes change v c ≡ w → get_or after (cell_start v c + k) nan ≡ get_or after' (cell_start v c + k) nan
      go true names = written-alike v c h names k l
      go false names =
          (edit_law change).others_kept s b accepted sound fits v c h names k l
          ∙ same
          ∙ sym ((edit_law change).others_kept s b' accepted sound fits' v c h names k l)

  pub differences_old : NoNewDifference b b' after after'
  differences_old i =
      subst (λ (j : ℕ). get_or b j nan ≡ get_or b' j nan → get_or after j nan ≡ get_or after' j nan) (sym (cell_of_place i))
      (cell_differences_old (i / 7 / 16) (i / 7 % 16) (omega arith) (i % 7) (omega arith))
