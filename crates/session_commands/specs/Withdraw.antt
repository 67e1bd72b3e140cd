-- The command Withdraw, by document 02, change 1: what refuses it, in order, and the record that it leaves; it "writes no float", so that the buffer
-- stays. Rests on the masks of `lists` and the checks of `Cell`.
use Rattle.std.specs.Prelude.{ℕ, ◌-◌, ◌^◌, not, [], ◌∷◌, ◌++◌, get_or, set, Option}
use Rattle.refusal.specs.Table.{refuse_if, first_of}
use Rattle.refusal.specs.declared.Refusal.{Refusal}
use Rattle.refusal.specs.declared.Refusal.TheVariants.{NotHeld}
use Rattle.lists.specs.Masks.{in_mask}
use Rattle.session_record.specs.Session.{named_cell, with_masks}
use Rattle.session_record.specs.declared.Held.{Held}
use Rattle.session_commands.specs.Cell.{cell_checks}

-- "Refusal 24: the cell holds no pose; detail as for 12. Order for 0x04: 10, 11, 21, 12, 24."
unfoldable pub withdraw_command_refusal : Held → ℕ → ℕ → Option Refusal
unfolding refuse_if first_of in_mask
withdraw_command_refusal h view camera =
    first_of (cell_checks h view camera ++ (refuse_if (not (in_mask (get_or h.masks camera 0) view)) (NotHeld (named_cell view camera)) ∷ []))

-- "it empties that cell alone": the bit was set, so that clearing it takes its power of two away.
unfoldable pub held_after_withdraw : Held → ℕ → ℕ → Held
held_after_withdraw h view camera = with_masks h (set h.masks camera (get_or h.masks camera 0 - 2 ^ view))
