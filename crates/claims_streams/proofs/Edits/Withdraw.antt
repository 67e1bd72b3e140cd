-- The command Withdraw as an edit: when it is accepted, and its law (`withdraw_law`): its bit is gone from its mask, and no float is written. Assumes
-- nothing.
use Prim.Native.Nat.{ℕ, ◌-◌, ◌^◌, ◌<◌}
use native.Mathlib.Omega.{arith}
use mathlib.Core.Path.{◌≡◌, refl, sym, ap, subst, ◌∙◌}
use mathlib.Core.Logic.{inr}
use mathlib.Core.Bool.{Bool, true, false, not, ◌||◌, cond, false≢true}
use Rattle.std.specs.Prelude.{Option, None}
use mathlib.Core.List.{List, [], ◌∷◌}
use lib.ListN.{length, get_or, set, length-set}
use lib.Seq.{get_or-set_same, get_or-set_other}
use lib.Dec.{leb}
use lib.Ieee.{Float}
use borrow.Author.Tests.{leb-false, not-false, lt-leb, ne_eqb}
use Rattle.arithmetic.specs.declared.pose.Pose.{Pose}
use Rattle.refusal.specs.Table.{refuse_if, first_of}
use Rattle.refusal.specs.declared.Refusal.{Refusal}
use Rattle.refusal.specs.declared.Refusal.TheVariants.{NoSize, OutsideRig, NotHeld}
use Rattle.limits.specs.Limits.{max_cameras}
use Rattle.lists.specs.Masks.{in_mask}
use Rattle.lists.proofs.MaskBits.{in_mask_minus_same, in_mask_minus_other}
use Rattle.lists.proofs.Tests.{or-false}
use Rattle.inputs.proofs.Answering.{refuse_if-none, first_of_none_all, Sizes}
use Rattle.inputs.proofs.InTurn.{If, ShortDetail, Small, if_first_of, if_refuse_if}
use Rattle.command.specs.Command.{Edit, withdraw}
use Rattle.session_record.specs.Session.{held_of, has_size, named_cell}
use Rattle.session_commands.specs.Commands.{edit_refusal, edit_session, edit_buffer}
use Rattle.session_record.specs.declared.Session.{Session}
use Rattle.claims_streams.specs.Stream.{ends_stream}
use Rattle.claims_streams.specs.Held.{cell_after, writes, HoldsCell}
use Rattle.claims_streams.specs.CallDemand1.{sizes_in}
use Rattle.claims_streams.proofs.Accepting.{refuse_if_false, first_of_all_none}
use Rattle.claims_streams.proofs.Sound.{Sound, has_sizes}
use Rattle.claims_streams.proofs.Edits.Law.{GoesOn, FiniteCell, EditLaw}
use Rattle.claims_streams.proofs.Edits.Cell.{OfCell, this, not_this, of_cell, each_set, set_elsewhere, holds_same}

-- ---- when it is accepted

-- It names a cell inside the sizes that is held.
pub record Withdrawable (s : Session) (view camera : ℕ) : Type 0 where
  pub view_inside : view < s.views
  pub camera_inside : camera < s.cameras
  pub held : in_mask (get_or s.masks camera 0) view ≡ true

module _ (s : Session) (view camera : ℕ) where
  abbrev pub withdraw_checks : List (Option Refusal)
  withdraw_checks =
      refuse_if (not (has_size (held_of s))) NoSize
      ∷ refuse_if (leb s.views view || leb s.cameras camera) (OutsideRig (named_cell view camera))
      ∷ refuse_if (not (in_mask (get_or s.masks camera 0) view)) (NotHeld (named_cell view camera))
      ∷ []

  pub withdraw_checks_is : edit_refusal (held_of s) (withdraw view camera) ≡ first_of withdraw_checks
  unfolding edit_refusal
  withdraw_checks_is = refl

  pub withdraw-accepted : edit_refusal (held_of s) (withdraw view camera) ≡ None → Withdrawable s view camera
  withdraw-accepted e =
      let (_, (outside, (empty, _))) = first_of_none_all withdraw_checks (sym withdraw_checks_is ∙ e) in
      let (view-outside, camera-outside) = or-false _ _ (refuse_if-none _ _ outside) in
      record {
        view_inside = leb-false _ _ view-outside;
        camera_inside = leb-false _ _ camera-outside;
        held = not-false _ (refuse_if-none _ _ empty);
      }

  pub accepts_withdraw : Withdrawable s view camera → edit_refusal (held_of s) (withdraw view camera) ≡ None
  accepts_withdraw h =
      withdraw_checks_is
      ∙ first_of_all_none withdraw_checks (
        refuse_if_false _ _ (ap (λ (b : Bool). not (not b)) (ne_eqb s.views 0 (omega (arith, h.view_inside)))),
        (refuse_if_false _ _ inside, (refuse_if_false _ _ (ap not h.held), tt)),
      )
    where
      inside : leb s.views view || leb s.cameras camera ≡ false
      inside = rw (lt-leb s.views view h.view_inside) (lt-leb s.cameras camera h.camera_inside)

  -- A sound record that accepts it has sizes, and so the cell is within the limits.
  module _ (sound : Sound s) (e : edit_refusal (held_of s) (withdraw view camera) ≡ None) where
    sizes : Sizes s.views s.cameras s.reference
    sizes = has_sizes s sound (omega (arith, (withdraw-accepted e).view_inside))

    pub camera_fits : camera < max_cameras
    camera_fits = omega (arith, (withdraw-accepted e).camera_inside, sizes.cameras_fit)

-- ---- the bit of one cell cleared, which was set

module _ (masks : List ℕ) (view camera : ℕ) (inside : camera < length masks) (held : in_mask (get_or masks camera 0) view ≡ true) where
  abbrev cleared : List ℕ
  cleared = set masks camera (get_or masks camera 0 - 2 ^ view)

  pub clear_here : in_mask (get_or cleared camera 0) view ≡ false
  clear_here = rw (get_or-set_same masks camera (get_or masks camera 0 - 2 ^ view) 0 inside) (in_mask_minus_same (get_or masks camera 0) view held)

  pub clear_elsewhere : (v c : ℕ) → (v ≡ view → c ≡ camera → ⊥) → in_mask (get_or cleared c 0) v ≡ in_mask (get_or masks c 0) v
  clear_elsewhere = set_elsewhere masks view camera (get_or masks camera 0 - 2 ^ view) inside (in_mask_minus_other (get_or masks camera 0) view held)

-- ---- the law

module _ (view camera : ℕ) where
  abbrev change : Edit
  change = withdraw view camera

  goes_on : (s : Session) → If GoesOn (edit_refusal (held_of s) change)
  unfolding ends_stream
  goes_on s =
      subst (If GoesOn) (sym (withdraw_checks_is s view camera))
      (if_first_of GoesOn (withdraw_checks s view camera) (
        if_refuse_if GoesOn _ _ refl,
        λ e. (if_refuse_if GoesOn _ _ refl, λ e. (if_refuse_if GoesOn _ _ refl, λ e. tt)),
      ))

  small : (s : Session) → (view < 256) × (camera < 256) → Small (edit_refusal (held_of s) change)
  small s (h, k) =
      subst Small (sym (withdraw_checks_is s view camera))
      (if_first_of ShortDetail (withdraw_checks s view camera) (
        if_refuse_if ShortDetail (not (has_size (held_of s))) NoSize (omega arith),
        λ e. (
          if_refuse_if ShortDetail (leb s.views view || leb s.cameras camera) (OutsideRig (named_cell view camera)) (omega (arith, h, k)),
          λ e. (
            if_refuse_if ShortDetail (not (in_mask (get_or s.masks camera 0) view)) (NotHeld (named_cell view camera)) (omega (arith, h, k)),
            λ e. tt,
          ),
        ),
      ))

  sound_after : (s : Session) → edit_refusal (held_of s) change ≡ None → Sound s → Sound (edit_session s change)
  unfolding edit_session
  sound_after s e h =
      let here = withdraw-accepted s view camera e in
      let m = get_or s.masks camera 0 in
      record {
        sizes = inr (sizes s view camera h e);
        inside = λ i l k.
            each_set (λ (x : ℕ). x < 2 ^ s.views) s.masks camera (m - 2 ^ view) i (h.inside i l k)
            (λ same. let below = h.inside camera (camera_fits s view camera h e) here.camera_inside in omega arith);
        outside = λ i l k. get_or-set_other s.masks camera i (m - 2 ^ view) 0 (omega (arith, here.camera_inside)) ∙ h.outside i l k;
        true_summary = refl;
      }

  cells_after : (s : Session) (buffer : List Float) → edit_refusal (held_of s) change ≡ None → Sound s → length s.masks ≡ max_cameras
      → (v c : ℕ) (o : Option Pose) → HoldsCell s.masks buffer v c o → HoldsCell (edit_session s change).masks buffer v c (cell_after change v c o)
  unfolding edit_session cell_after
  cells_after s buffer e sound sixteen v c o before = go (of_cell view camera v c)
    where
      masks : List ℕ
      masks = (edit_session s change).masks

      inside : camera < length s.masks
      inside = omega (arith, camera_fits s view camera sound e, sixteen)

      held : in_mask (get_or s.masks camera 0) view ≡ true
      held = (withdraw-accepted s view camera e).held

      go : OfCell view camera v c → HoldsCell masks buffer v c (cell_after change v c o)
      go (this same_view same_camera names) =
          subst (HoldsCell masks buffer v c) (sym (ap (λ (b : Bool). cond b None o) names))
          (rw (same_view, same_camera) (clear_here s.masks view camera inside held))
      go (not_this other names) =
          subst (HoldsCell masks buffer v c) (sym (ap (λ (b : Bool). cond b None o) names))
          (holds_same s.masks masks buffer buffer v c o (clear_elsewhere s.masks view camera inside held v c other) refl before)

  finite_after : (v c : ℕ) (o : Option Pose) → FiniteCell o → FiniteCell (cell_after change v c o)
  unfolding cell_after
  finite_after v c o before = go (of_cell view camera v c)
    where
      go : OfCell view camera v c → FiniteCell (cell_after change v c o)
      go (this _ _ names) = subst FiniteCell (sym (ap (λ (b : Bool). cond b None o) names)) tt
      go (not_this _ names) = subst FiniteCell (sym (ap (λ (b : Bool). cond b None o) names)) before

  pub withdraw_law : EditLaw change
  unfolding edit_session edit_buffer writes sizes_in
  withdraw_law =
      record {
        goes_on = goes_on;
        small = λ s allowed bytes. small s bytes;
        masks_kept = λ s. length-set s.masks camera (get_or s.masks camera 0 - 2 ^ view);
        sound_after = sound_after;
        views_after = λ s e. inr (refl, refl);
        length_kept = λ s buffer e sound fits. refl;
        cells_after = λ s buffer e sound sixteen fits v c o h before. cells_after s buffer e sound sixteen v c o before;
        finite_after = λ s e v c o before. finite_after v c o before;
        into_empty = λ s e v c names. absurd (false≢true names);
        holds_written = λ v c names o. absurd (false≢true names);
        others_kept = λ s buffer e sound fits v c h names k l. refl;
      }
