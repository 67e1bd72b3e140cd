-- What the edits that name one cell share: the cell that is named or another, one mask of a list changed, and what a cell then holds. Assumes nothing.
use Prim.Native.Nat.{ℕ, ◌<◌}
use native.Mathlib.Decide.{ℕ_discrete, dec_lt}
use native.Mathlib.Omega.{arith}
use mathlib.Core.Path.{◌≡◌, refl, sym, ap, ◌∙◌}
use mathlib.Core.Logic.{◌≢◌}
use mathlib.Core.Bool.{true, false, ◌&&◌}
use Rattle.std.specs.Prelude.{Option, None, Some}
use mathlib.Core.List.{List}
use lib.ListN.{length, get_or, set}
use lib.Seq.{set_out, get_or-set_same, get_or-set_other}
use lib.Dec.{eqb}
use lib.Ieee.{Float}
use borrow.Author.Tests.{eq-eqb, ne_eqb}
use Rattle.arithmetic.specs.Pose.{pose_at}
use Rattle.arithmetic.specs.declared.pose.Pose.{Pose}
use Rattle.lists.specs.Masks.{in_mask}
use Rattle.session_record.specs.Session.{cell_start}
use Rattle.claims_streams.specs.Held.{HoldsCell}

-- ---- the cell that is named, or another

pub data OfCell (view camera v c : ℕ) : Type 0 where
  this : v ≡ view → c ≡ camera → eqb view v && eqb camera c ≡ true → OfCell view camera v c
  not_this : (v ≡ view → c ≡ camera → ⊥) → eqb view v && eqb camera c ≡ false → OfCell view camera v c

pub of_cell : (view camera v c : ℕ) → OfCell view camera v c
of_cell view camera v c = go (ℕ_discrete v view) (ℕ_discrete c camera)
  where
    go : Dec (v ≡ view) → Dec (c ≡ camera) → OfCell view camera v c
    go (yes e) (yes f) = this e f (rw (eq-eqb view v (sym e), eq-eqb camera c (sym f)) refl)
    go (no e) f = not_this (λ q _. e q) (rw (ne_eqb view v (λ q. e (sym q))) refl)
    go (yes e) (no f) = not_this (λ _ q. f q) (rw (eq-eqb view v (sym e), ne_eqb camera c (λ q. f (sym q))) refl)

-- ---- one mask changed

-- What holds of every element, and of a new one, holds after the new one is stored.
pub each_set : (P : ℕ → Type 0) (l : List ℕ) (c m i : ℕ) → P (get_or l i 0) → (i ≡ c → P m) → P (get_or (set l c m) i 0)
each_set P l c m i old new = go (ℕ_discrete i c) (dec_lt c (length l))
  where
    go : Dec (i ≡ c) → Dec (c < length l) → P (get_or (set l c m) i 0)
    go (no d) k = rw (get_or-set_other l c i m 0 d) old
    go (yes e) (yes k) = rw (e, get_or-set_same l c m 0 k) (new e)
    go (yes e) (no k) = rw (set_out l c m (omega arith)) old

-- A mask that differs in the bit of one view leaves every bit of every other cell.
pub set_elsewhere : (masks : List ℕ) (view camera m : ℕ) → camera < length masks → ((w : ℕ) → w ≢ view → in_mask m w ≡ in_mask (get_or masks camera 0) w)
    → (v c : ℕ) → (v ≡ view → c ≡ camera → ⊥) → in_mask (get_or (set masks camera m) c 0) v ≡ in_mask (get_or masks c 0) v
set_elsewhere masks view camera m inside others v c other = go (ℕ_discrete c camera)
  where
    go : Dec (c ≡ camera) → in_mask (get_or (set masks camera m) c 0) v ≡ in_mask (get_or masks c 0) v
    go (yes e) = rw (e, get_or-set_same masks camera m 0 inside) (others v (λ f. other f e))
    go (no n) = ap (λ (x : ℕ). in_mask x v) (get_or-set_other masks camera c m 0 n)

-- ---- what a cell holds

-- The same bit and the same floats hold the same.
pub holds_same : (masks masks' : List ℕ) (buffer buffer' : List Float) (v c : ℕ) (o : Option Pose)
    → in_mask (get_or masks' c 0) v ≡ in_mask (get_or masks c 0) v → pose_at buffer' (cell_start v c) ≡ pose_at buffer (cell_start v c)
    → HoldsCell masks buffer v c o → HoldsCell masks' buffer' v c o
holds_same masks masks' buffer buffer' v c None bit floats h = bit ∙ h
holds_same masks masks' buffer buffer' v c (Some p) bit floats (set, same) = (bit ∙ set, floats ∙ same)
