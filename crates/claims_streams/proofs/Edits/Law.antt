-- All that the theorems on records, streams and held poses ask of an edit, whichever it is. A new edit brings a file that proves this of it, and a
-- line in `All`. Assumes nothing.
use Prim.Native.Nat.{ℕ, ◌+◌, ◌<◌}
use mathlib.Core.Path.{◌≡◌}
use mathlib.Core.Logic.{◌⊎◌}
use mathlib.Core.Bool.{true, false}
use Rattle.std.specs.Prelude.{Option, None, Some}
use mathlib.Core.List.{List}
use lib.ListN.{length, get_or}
use lib.Dec.{T}
use lib.Ieee.{Float, nan}
use Rattle.arithmetic.specs.Pose.{finite_pose}
use Rattle.arithmetic.specs.declared.pose.Pose.{Pose}
use Rattle.refusal.specs.declared.Refusal.{Refusal}
use Rattle.limits.specs.Limits.{max_cameras}
use Rattle.lists.specs.Masks.{in_mask}
use Rattle.inputs.proofs.InTurn.{If, Small}
use Rattle.command.specs.Command.{Edit, edit}
use Rattle.command.specs.Writing.{OfBytes}
use Rattle.session_record.specs.Session.{held_of, buffer_length, cell_start, possible}
use Rattle.session_commands.specs.Commands.{edit_refusal, edit_session, edit_buffer}
use Rattle.session_record.specs.declared.Session.{Session}
use Rattle.claims_streams.specs.Stream.{ends_stream}
use Rattle.claims_streams.specs.Held.{cell_after, writes, HoldsCell}
use Rattle.claims_streams.specs.CallDemand1.{sizes_in}
use Rattle.claims_streams.proofs.Sound.{Sound}
use Rattle.std.specs.Prelude.{Err}

-- A refusal that does not end the stream.
abbrev pub GoesOn : Refusal → Type 0
GoesOn r = ends_stream (Err r) ≡ false

-- Size takes no sizes without a view, and no other edit changes them.
abbrev pub ViewsAfter : Session → Edit → Type 0
ViewsAfter s change = ((sizes_in change ≡ 1) × (0 < (edit_session s change).views)) ⊎ ((sizes_in change ≡ 0) × ((edit_session s change).views ≡ s.views))

-- A cell that holds no pose, or a finite one.
abbrev pub FiniteCell : Option Pose → Type 0
FiniteCell None = Unit {0}
FiniteCell (Some p) = T (finite_pose p)

pub record EditLaw (change : Edit) : Type 0 where
  -- What refuses it does not end the stream, and names no more than 32 bits.
  pub goes_on : (s : Session) → If GoesOn (edit_refusal (held_of s) change)
  pub small : (s : Session) → T (possible s) → OfBytes (edit change) → Small (edit_refusal (held_of s) change)
  -- It leaves as many masks as there were.
  pub masks_kept : (s : Session) → length (edit_session s change).masks ≡ length s.masks
  -- Accepted, it leaves a sound record, and sizes by what it is.
  pub sound_after : (s : Session) → edit_refusal (held_of s) change ≡ None → Sound s → Sound (edit_session s change)
  pub views_after : (s : Session) → edit_refusal (held_of s) change ≡ None → ViewsAfter s change
  -- The buffer stays as long as it is.
  pub length_kept : (s : Session) (buffer : List Float) → edit_refusal (held_of s) change ≡ None → Sound s → length buffer ≡ buffer_length
      → length (edit_buffer buffer change) ≡ length buffer
  -- Of each cell it leaves what it says that it leaves, and finite numbers where there were such; it writes floats to a cell that held none and then
  -- holds a pose, and to no other.
  pub cells_after : (s : Session) (buffer : List Float) → edit_refusal (held_of s) change ≡ None → Sound s → length s.masks ≡ max_cameras
      → length buffer ≡ buffer_length → (v c : ℕ) (o : Option Pose) → c < max_cameras → HoldsCell s.masks buffer v c o
      → HoldsCell (edit_session s change).masks (edit_buffer buffer change) v c (cell_after change v c o)
  pub finite_after : (s : Session) → edit_refusal (held_of s) change ≡ None → (v c : ℕ) (o : Option Pose) → FiniteCell o → FiniteCell (cell_after change v c o)
  pub into_empty : (s : Session) → edit_refusal (held_of s) change ≡ None → (v c : ℕ) → writes change v c ≡ true → in_mask (get_or s.masks c 0) v ≡ false
  pub holds_written : (v c : ℕ) → writes change v c ≡ true → (o : Option Pose) → (p : Pose) × (cell_after change v c o ≡ Some p)
  pub others_kept : (s : Session) (buffer : List Float) → edit_refusal (held_of s) change ≡ None → Sound s → length buffer ≡ buffer_length
      → (v c : ℕ) → c < max_cameras → writes change v c ≡ false
      → (k : ℕ) → k < 7 → get_or (edit_buffer buffer change) (cell_start v c + k) nan ≡ get_or buffer (cell_start v c + k) nan
