-- A cell is held exactly if the last accepted edit that names it is a Pose, with that Pose's numbers: by the fold over the edits (`held_is_last_pose`), and
-- so in masks and buffer after a stream (`stream-holds_last_pose`). Assumes nothing.
use Prim.Native.Nat.{ℕ, ◌≤◌, ◌<◌}
use native.Mathlib.Omega.{arith}
use mathlib.Core.Path.{◌≡◌, refl, sym, ap, subst, ◌∙◌}
use mathlib.Core.Logic.{◌↔◌}
use mathlib.Core.Bool.{Bool, true, false, cond, true≢false}
use Rattle.std.specs.Prelude.{Option, None, Some}
use mathlib.Core.List.{List, [], ◌∷◌, ◌++◌}
use lib.ListN.{length}
use lib.Ieee.{Float}
use Rattle.arithmetic.specs.declared.pose.Pose.{Pose}
use Rattle.limits.specs.Limits.{max_cameras}
use Rattle.lists.proofs.Tests.{or-false}
use Rattle.command.specs.Command.{Edit, size, place, withdraw}
use Rattle.session_record.specs.Session.{fresh, buffer_length}
use Rattle.session_commands.specs.Obeyed.{first_length, second_length, State, state}
use Rattle.session.specs.Call.{max_stream}
use Rattle.claims_streams.specs.Stream.{contents_of, last_state, calls}
use Rattle.claims_streams.specs.Held.{cell_after, held_from, held_after, names, named, LastIsPose, accepted_edits, HoldsCell, HoldsExactly}
use Rattle.claims_streams.proofs.Held.{held-after-stream}
use Rattle.claims_streams.proofs.Edits.Cell.{OfCell, this, not_this, of_cell}

none-not-some : {p : Pose} → None ≡ Some p → ⊥
none-not-some e = let z : ◌≡◌ {A = ℕ} 0 1 = cc in omega arith

module _ (v c : ℕ) where
  -- An edit that does not name the cell leaves what it holds; of those that do, a Pose leaves its own numbers and a Withdraw nothing, whatever was there.
  data Leaves (change : Edit) : Type 0 where
    unnamed : names change v c ≡ false → ((o : Option Pose) → cell_after change v c o ≡ o) → Leaves change
    own_pose : (p : Pose) → change ≡ place v c p → names change v c ≡ true → ((o : Option Pose) → cell_after change v c o ≡ Some p) → Leaves change
    nothing : names change v c ≡ true → ((o : Option Pose) → cell_after change v c o ≡ None) → Leaves change

  leaves : (change : Edit) → Leaves change
  unfolding names cell_after
  leaves (size views cameras reference) = unnamed refl (λ o. refl)
  leaves (place view camera p) = go (of_cell view camera v c)
    where
      go : OfCell view camera v c → Leaves (place view camera p)
      go (this e f both) = own_pose p (λ i. place (sym e i) (sym f i) p) both (λ o. ap (λ (b : Bool). cond b (Some p) o) both)
      go (not_this _ neither) = unnamed neither (λ o. ap (λ (b : Bool). cond b (Some p) o) neither)
  leaves (withdraw view camera) = go (of_cell view camera v c)
    where
      go : OfCell view camera v c → Leaves (withdraw view camera)
      go (this _ _ both) = nothing both (λ o. ap (λ (b : Bool). cond b None o) both)
      go (not_this _ neither) = unnamed neither (λ o. ap (λ (b : Bool). cond b None o) neither)

  -- Edits that do not name the cell leave what it holds.
  unnamed_kept : (edits : List Edit) → named edits v c ≡ false → (o : Option Pose) → held_from o edits v c ≡ o
  unfolding held_from named
  unnamed_kept [] e o = refl
  unnamed_kept (change ∷ later) e o = go (leaves change) (unnamed_kept later both.1 o)
    where
      both : (names change v c ≡ false) × (named later v c ≡ false)
      both = or-false _ _ e

      go : Leaves change → held_from o later v c ≡ o → held_from (cell_after change v c o) later v c ≡ o
      go (unnamed _ stays) rest = ap (λ (x : Option Pose). held_from x later v c) (stays o) ∙ rest
      go (own_pose _ _ yes-named _) rest = absurd (true≢false (sym yes-named ∙ both.0))
      go (nothing yes-named _) rest = absurd (true≢false (sym yes-named ∙ both.0))

  held_from-append : (o : Option Pose) (before later : List Edit) → held_from o (before ++ later) v c ≡ held_from (held_from o before v c) later v c
  unfolding held_from
  held_from-append o [] later = refl
  held_from-append o (change ∷ before) later = held_from-append (cell_after change v c o) before later

  -- Either none of the edits names the cell, or the last that does is a Pose or a Withdraw.
  data Last (edits : List Edit) : Type 0 where
    never : named edits v c ≡ false → Last edits
    pose_last : (p : Pose) → LastIsPose edits v c p → Last edits
    emptied : ((o : Option Pose) → held_from o edits v c ≡ None) → Last edits

  last_of : (edits : List Edit) → Last edits
  unfolding held_from named
  last_of [] = never refl
  last_of (change ∷ later) = go (last_of later) (leaves change)
    where
      go : Last later → Leaves change → Last (change ∷ later)
      go (pose_last p l) here =
          pose_last p (record {
            before = change ∷ l.before;
            later = l.later;
            splits = ap (λ (m : List Edit). change ∷ m) l.splits;
            no_later = l.no_later;
          })
      go (emptied to_none) here = emptied (λ o. to_none (cell_after change v c o))
      go (never quiet) (unnamed not_named _) = never (rw not_named quiet)
      go (never quiet) (own_pose p is _ _) =
          pose_last p (record { before = []; later = later; splits = ap (λ (x : Edit). x ∷ later) is; no_later = quiet })
      go (never quiet) (nothing _ to_none) = emptied (λ o. unnamed_kept later quiet (cell_after change v c o) ∙ to_none o)

  -- A Pose of the cell, and then edits that do not name it.
  after_own : (o : Option Pose) (p : Pose) (later : List Edit) → named later v c ≡ false → held_from o (place v c p ∷ later) v c ≡ Some p
  unfolding held_from cell_after
  after_own o p later quiet = go (of_cell v c v c)
    where
      go : OfCell v c v c → held_from o (place v c p ∷ later) v c ≡ Some p
      go (this _ _ both) = ap (λ (b : Bool). held_from (cond b (Some p) o) later v c) both ∙ unnamed_kept later quiet (Some p)
      go (not_this other _) = absurd (other refl refl)

  -- The last that names it being that Pose, it holds those numbers.
  held_of_last : (edits : List Edit) (p : Pose) → LastIsPose edits v c p → (o : Option Pose) → held_from o edits v c ≡ Some p
  held_of_last edits p l o =
      ap (λ (m : List Edit). held_from o m v c) l.splits
      ∙ held_from-append o l.before (place v c p ∷ l.later)
      ∙ own (held_from o l.before v c)
    where
      own : (x : Option Pose) → held_from x (place v c p ∷ l.later) v c ≡ Some p
      own x = after_own x p l.later l.no_later

pub held_is_last_pose : (edits : List Edit) (v c : ℕ) (p : Pose) → (held_after edits v c ≡ Some p) ↔ LastIsPose edits v c p
held_is_last_pose edits v c p = (go (last_of v c edits), λ l. held_of_last v c edits p l None)
  where
    some_same : (p q : Pose) → Some p ≡ Some q → p ≡ q
    some_same p q e = cc

    go : Last v c edits → held_after edits v c ≡ Some p → LastIsPose edits v c p
    go (never quiet) e = absurd (none-not-some (sym (unnamed_kept v c edits quiet None) ∙ e))
    go (pose_last q l) e = rw (some_same p q (sym e ∙ held_of_last v c edits q l None)) l
    go (emptied to_none) e = absurd (none-not-some (sym (to_none None) ∙ e))

-- ---- in masks and buffer

holds_last_pose : (edits : List Edit) (start : List Float) (t : State) → HoldsExactly edits start t
    → (v c : ℕ) → c < max_cameras → (p : Pose) → HoldsCell t.session.masks t.buffer v c (Some p) ↔ LastIsPose edits v c p
holds_last_pose edits start t exactly v c h p = (
  λ holds. (held_is_last_pose edits v c p).0 (told (held_after edits v c) (exactly.cells v c h) holds),
  λ last. subst (HoldsCell t.session.masks t.buffer v c) ((held_is_last_pose edits v c p).1 last) (exactly.cells v c h),
)
  where
    told : (o : Option Pose) → HoldsCell t.session.masks t.buffer v c o → HoldsCell t.session.masks t.buffer v c (Some p) → o ≡ Some p
    told None clear (set, _) = absurd (true≢false (sym set ∙ clear))
    told (Some q) (_, own) (_, same) = ap Some (sym own ∙ same)

-- After a stream of at most 65,536 bytes, from a fresh session.
pub stream-holds_last_pose : (buffer first : List Float) (second : List ℕ) → length buffer ≡ buffer_length → first_length ≤ length first
    → second_length ≤ length second → (stream : List ℕ) → length stream ≤ max_stream → (v c : ℕ) → c < max_cameras → (p : Pose)
    → let start = state fresh buffer first second in
    let end = last_state start (calls start stream) in
    HoldsCell end.session.masks end.buffer v c (Some p) ↔ LastIsPose (accepted_edits start (contents_of stream).commands) v c p
stream-holds_last_pose buffer first second b f g stream short v c h p =
    let start = state fresh buffer first second in
    holds_last_pose (accepted_edits start (contents_of stream).commands) buffer (last_state start (calls start stream))
    (held-after-stream buffer first second b f g stream short) v c h p
