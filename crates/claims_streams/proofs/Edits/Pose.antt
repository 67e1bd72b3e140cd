-- The command Pose as an edit: when it is accepted, and its law (`place_law`): its bit is new in its mask, and its seven floats are put over those of
-- its cell, which held none. Assumes nothing.
use Prim.Native.Nat.{ℕ, ◌+◌, ◌*◌, ◌^◌, ◌≤◌, ◌<◌}
use native.Mathlib.Nat.{mul-le-mul}
use native.Mathlib.Omega.{arith}
use mathlib.Core.Path.{◌≡◌, refl, sym, ap, subst, ◌∙◌}
use mathlib.Core.Logic.{inr, ⊎_elim}
use mathlib.Core.Bool.{Bool, true, false, not, ◌||◌, cond, true≢false}
use Rattle.std.specs.Prelude.{Option, None, Some}
use mathlib.Core.List.{List, [], ◌∷◌}
use lib.ListN.{length, get_or, set, length-append, length-take, length-drop, length-set}
use lib.Seq.{get_or-set_same, get_or-set_other}
use lib.Dec.{T, leb}
use lib.Ieee.{Float, nan}
use borrow.Author.Tests.{leb-false, not-false, lt-leb, ne_eqb}
use Rattle.arithmetic.specs.Pose.{finite_pose}
use Rattle.arithmetic.specs.declared.pose.Pose.{Pose}
use Rattle.refusal.specs.Table.{refuse_if, first_of}
use Rattle.refusal.specs.declared.Refusal.{Refusal}
use Rattle.refusal.specs.declared.Refusal.TheVariants.{NoSize, OutsideRig, HeldAlready, NotFinite}
use Rattle.limits.specs.Limits.{max_views, max_cameras}
use Rattle.lists.specs.Masks.{in_mask}
use Rattle.lists.proofs.MaskBits.{plus_below, in_mask_plus_same, in_mask_plus_other}
use Rattle.inputs.proofs.Answering.{refuse_if-none, first_of_none_all, Sizes}
use Rattle.lists.proofs.Tests.{or-false}
use Rattle.inputs.proofs.InTurn.{If, ShortDetail, Small, if_first_of, if_refuse_if}
use Rattle.command.specs.Command.{Edit, place}
use Rattle.session_record.specs.Session.{held_of, buffer_length, cell_start, has_size, named_cell, possible}
use Rattle.session_commands.specs.Commands.{edit_refusal, edit_session, edit_buffer}
use Rattle.session_record.specs.declared.Session.{Session}
use Rattle.claims_streams.specs.Stream.{ends_stream}
use Rattle.claims_streams.specs.Held.{cell_after, writes, HoldsCell}
use Rattle.claims_streams.specs.CallDemand1.{sizes_in}
use Rattle.claims_streams.proofs.Accepting.{refuse_if_false, first_of_all_none}
use Rattle.claims_streams.proofs.Cells.{pose_at_put, get_or_put_before, get_or_put_after, pose_at_agree, cells-apart, cell_inside}
use Rattle.claims_streams.proofs.Sound.{Sound, has_sizes, within_limits}
use Rattle.claims_streams.proofs.Edits.Law.{GoesOn, FiniteCell, EditLaw}
use Rattle.claims_streams.proofs.Edits.Cell.{OfCell, this, not_this, of_cell, each_set, set_elsewhere, holds_same}

-- ---- when it is accepted

-- It names a cell inside the sizes that is not held, and its seven numbers are finite.
pub record Placeable (s : Session) (view camera : ℕ) (p : Pose) : Type 0 where
  pub view_inside : view < s.views
  pub camera_inside : camera < s.cameras
  pub not_held : in_mask (get_or s.masks camera 0) view ≡ false
  pub all_finite : finite_pose p ≡ true

module _ (s : Session) (view camera : ℕ) (p : Pose) where
  abbrev pub place_checks : List (Option Refusal)
  place_checks =
      refuse_if (not (has_size (held_of s))) NoSize
      ∷ refuse_if (leb s.views view || leb s.cameras camera) (OutsideRig (named_cell view camera))
      ∷ refuse_if (in_mask (get_or s.masks camera 0) view) (HeldAlready (named_cell view camera))
      ∷ refuse_if (not (finite_pose p)) (NotFinite (view * s.cameras + camera))
      ∷ []

  pub place_checks_is : edit_refusal (held_of s) (place view camera p) ≡ first_of place_checks
  unfolding edit_refusal
  place_checks_is = refl

  pub place-accepted : edit_refusal (held_of s) (place view camera p) ≡ None → Placeable s view camera p
  place-accepted e =
      let (_, (outside, (held, (not-Finite, _)))) = first_of_none_all place_checks (sym place_checks_is ∙ e) in
      let (view-outside, camera-outside) = or-false _ _ (refuse_if-none _ _ outside) in
      record {
        view_inside = leb-false _ _ view-outside;
        camera_inside = leb-false _ _ camera-outside;
        not_held = refuse_if-none _ _ held;
        all_finite = not-false _ (refuse_if-none _ _ not-Finite);
      }

  pub accepts_place : Placeable s view camera p → edit_refusal (held_of s) (place view camera p) ≡ None
  accepts_place h =
      place_checks_is
      ∙ first_of_all_none place_checks (
        refuse_if_false _ _ (ap (λ (b : Bool). not (not b)) (ne_eqb s.views 0 (omega (arith, h.view_inside)))),
        (
          refuse_if_false _ _ inside,
          (
            refuse_if_false _ _ h.not_held,
            (refuse_if_false _ _ (ap not h.all_finite), tt),
          ),
        ),
      )
    where
      inside : leb s.views view || leb s.cameras camera ≡ false
      inside = rw (lt-leb s.views view h.view_inside) (lt-leb s.cameras camera h.camera_inside)

  -- A sound record that accepts it has sizes, and so the cell is within the limits.
  module _ (sound : Sound s) (e : edit_refusal (held_of s) (place view camera p) ≡ None) where
    sizes : Sizes s.views s.cameras s.reference
    sizes = has_sizes s sound (omega (arith, (place-accepted e).view_inside))

    pub view_fits : view < max_views
    view_fits = omega (arith, (place-accepted e).view_inside, sizes.views_fit)

    pub camera_fits : camera < max_cameras
    camera_fits = omega (arith, (place-accepted e).camera_inside, sizes.cameras_fit)

    pub cell_fits : (buffer : List Float) → length buffer ≡ buffer_length → cell_start view camera + 7 ≤ length buffer
    cell_fits buffer fits = subst (λ (m : ℕ). cell_start view camera + 7 ≤ m) (sym fits) (cell_inside view camera view_fits camera_fits)

-- ---- bits and floats

-- The bit of one cell set, which was clear.
module _ (masks : List ℕ) (view camera : ℕ) (inside : camera < length masks) (clear : in_mask (get_or masks camera 0) view ≡ false) where
  abbrev marked : List ℕ
  marked = set masks camera (get_or masks camera 0 + 2 ^ view)

  pub bit_here : in_mask (get_or marked camera 0) view ≡ true
  bit_here = rw (get_or-set_same masks camera (get_or masks camera 0 + 2 ^ view) 0 inside) (in_mask_plus_same (get_or masks camera 0) view clear)

  pub bit_elsewhere : (v c : ℕ) → (v ≡ view → c ≡ camera → ⊥) → in_mask (get_or marked c 0) v ≡ in_mask (get_or masks c 0) v
  bit_elsewhere = set_elsewhere masks view camera (get_or masks camera 0 + 2 ^ view) inside (in_mask_plus_other (get_or masks camera 0) view clear)

-- ---- which cells it names

module _ (view camera : ℕ) (p : Pose) where
  abbrev change : Edit
  change = place view camera p

  -- The cell that it names, or another.
  data Named (v c : ℕ) : Type 0 where
    this_cell : v ≡ view → c ≡ camera → writes change v c ≡ true → ((o : Option Pose) → cell_after change v c o ≡ Some p) → Named v c
    another : (v ≡ view → c ≡ camera → ⊥) → writes change v c ≡ false → ((o : Option Pose) → cell_after change v c o ≡ o) → Named v c

  named : (v c : ℕ) → Named v c
  unfolding writes cell_after
  named v c = go (of_cell view camera v c)
    where
      go : OfCell view camera v c → Named v c
      go (this e f both) = this_cell e f both (λ o. ap (λ (b : Bool). cond b (Some p) o) both)
      go (not_this other neither) = another other neither (λ o. ap (λ (b : Bool). cond b (Some p) o) neither)

  -- ---- the law

  goes_on : (s : Session) → If GoesOn (edit_refusal (held_of s) change)
  unfolding ends_stream
  goes_on s =
      subst (If GoesOn) (sym (place_checks_is s view camera p))
      (if_first_of GoesOn (place_checks s view camera p) (
        if_refuse_if GoesOn _ _ refl,
        λ e. (if_refuse_if GoesOn _ _ refl, λ e. (if_refuse_if GoesOn _ _ refl, λ e. (if_refuse_if GoesOn _ _ refl, λ e. tt))),
      ))

  small : (s : Session) → T (possible s) → (view < 256) × (camera < 256) → Small (edit_refusal (held_of s) change)
  small s allowed (h, k) =
      let fit = within_limits s allowed in
      let below : view ≤ 256 = omega (arith, h) in
      subst Small (sym (place_checks_is s view camera p))
      (if_first_of ShortDetail (place_checks s view camera p) (
        if_refuse_if ShortDetail (not (has_size (held_of s))) NoSize (omega arith),
        λ e. (
          if_refuse_if ShortDetail (leb s.views view || leb s.cameras camera) (OutsideRig (named_cell view camera)) (omega (arith, h, k)),
          λ e. (
            if_refuse_if ShortDetail (in_mask (get_or s.masks camera 0) view) (HeldAlready (named_cell view camera)) (omega (arith, h, k)),
            λ e. (
              if_refuse_if ShortDetail (not (finite_pose p)) (NotFinite (view * s.cameras + camera)) (omega (arith, k, mul-le-mul below fit.1)),
              λ e. tt,
            ),
          ),
        ),
      ))

  sound_after : (s : Session) → edit_refusal (held_of s) change ≡ None → Sound s → Sound (edit_session s change)
  unfolding edit_session
  sound_after s e h =
      let here = place-accepted s view camera p e in
      let m = get_or s.masks camera 0 in
      record {
        sizes = inr (sizes s view camera p h e);
        inside = λ i l k.
            each_set (λ (x : ℕ). x < 2 ^ s.views) s.masks camera (m + 2 ^ view) i (h.inside i l k)
            (λ same.
            plus_below m view here.not_held s.views here.view_inside
            (h.inside camera (camera_fits s view camera p h e) here.camera_inside));
        outside = λ i l k. get_or-set_other s.masks camera i (m + 2 ^ view) 0 (omega (arith, here.camera_inside)) ∙ h.outside i l k;
        true_summary = refl;
      }

  length_kept : (s : Session) (buffer : List Float) → edit_refusal (held_of s) change ≡ None → Sound s → length buffer ≡ buffer_length
      → length (edit_buffer buffer change) ≡ length buffer
  unfolding edit_buffer
  length_kept s buffer e sound fits =
      let room = cell_fits s view camera p sound e buffer fits in
      simp (length-append, length-take, length-drop) (omega (arith, room))

  others_kept : (s : Session) (buffer : List Float) → edit_refusal (held_of s) change ≡ None → Sound s → length buffer ≡ buffer_length
      → (v c : ℕ) → c < max_cameras → (v ≡ view → c ≡ camera → ⊥)
      → (k : ℕ) → k < 7 → get_or (edit_buffer buffer change) (cell_start v c + k) nan ≡ get_or buffer (cell_start v c + k) nan
  unfolding edit_buffer
  others_kept s buffer e sound fits v c h other k l =
      let room = cell_fits s view camera p sound e buffer fits in
      ⊎_elim (get_or_put_before buffer (cell_start view camera) p room (cell_start v c + k)) (get_or_put_after buffer (cell_start view camera) p room (cell_start v c + k))
      (cells-apart v c view camera k h (camera_fits s view camera p sound e) other l)

  cells_after : (s : Session) (buffer : List Float) → edit_refusal (held_of s) change ≡ None → Sound s → length s.masks ≡ max_cameras
      → length buffer ≡ buffer_length → (v c : ℕ) (o : Option Pose) → c < max_cameras → HoldsCell s.masks buffer v c o
      → HoldsCell (edit_session s change).masks (edit_buffer buffer change) v c (cell_after change v c o)
  unfolding edit_session edit_buffer
  cells_after s buffer e sound sixteen fits v c o h before = go (named v c)
    where
      masks : List ℕ
      masks = (edit_session s change).masks

      floats : List Float
      floats = edit_buffer buffer change

      inside : camera < length s.masks
      inside = omega (arith, camera_fits s view camera p sound e, sixteen)

      clear : in_mask (get_or s.masks camera 0) view ≡ false
      clear = (place-accepted s view camera p e).not_held

      go : Named v c → HoldsCell masks floats v c (cell_after change v c o)
      go (this_cell same_view same_camera _ now) =
          subst (HoldsCell masks floats v c) (sym (now o)) (
            rw (same_view, same_camera) (bit_here s.masks view camera inside clear),
            rw (same_view, same_camera) (pose_at_put buffer (cell_start view camera) p (cell_fits s view camera p sound e buffer fits)),
          )
      go (another other _ stays) =
          subst (HoldsCell masks floats v c) (sym (stays o))
          (holds_same s.masks masks buffer floats v c o (bit_elsewhere s.masks view camera inside clear v c other)
          (pose_at_agree floats buffer (cell_start v c) (others_kept s buffer e sound fits v c h other)) before)

  finite_after : (s : Session) → edit_refusal (held_of s) change ≡ None → (v c : ℕ) (o : Option Pose) → FiniteCell o → FiniteCell (cell_after change v c o)
  finite_after s e v c o before = go (named v c)
    where
      go : Named v c → FiniteCell (cell_after change v c o)
      go (this_cell _ _ _ now) = subst FiniteCell (sym (now o)) (rw (place-accepted s view camera p e).all_finite tt)
      go (another _ _ stays) = subst FiniteCell (sym (stays o)) before

  into_empty : (s : Session) → edit_refusal (held_of s) change ≡ None → (v c : ℕ) → writes change v c ≡ true → in_mask (get_or s.masks c 0) v ≡ false
  into_empty s e v c names = go (named v c)
    where
      go : Named v c → in_mask (get_or s.masks c 0) v ≡ false
      go (this_cell same_view same_camera _ _) = rw (same_view, same_camera) (place-accepted s view camera p e).not_held
      go (another _ not_named _) = absurd (true≢false (sym names ∙ not_named))

  holds_written : (v c : ℕ) → writes change v c ≡ true → (o : Option Pose) → (q : Pose) × (cell_after change v c o ≡ Some q)
  holds_written v c names o = go (named v c)
    where
      go : Named v c → (q : Pose) × (cell_after change v c o ≡ Some q)
      go (this_cell _ _ _ now) = (p, now o)
      go (another _ not_named _) = absurd (true≢false (sym names ∙ not_named))

  only_other : (v c : ℕ) → writes change v c ≡ false → v ≡ view → c ≡ camera → ⊥
  only_other v c names same_view same_camera = go (named v c)
    where
      go : Named v c → ⊥
      go (this_cell _ _ yes-named _) = true≢false (sym yes-named ∙ names)
      go (another other _ _) = other same_view same_camera

  pub place_law : EditLaw change
  unfolding edit_session sizes_in
  place_law =
      record {
        goes_on = goes_on;
        small = small;
        masks_kept = λ s. length-set s.masks camera (get_or s.masks camera 0 + 2 ^ view);
        sound_after = sound_after;
        views_after = λ s e. inr (refl, refl);
        length_kept = length_kept;
        cells_after = cells_after;
        finite_after = finite_after;
        into_empty = into_empty;
        holds_written = holds_written;
        others_kept = λ s buffer e sound fits v c h names. others_kept s buffer e sound fits v c h (only_other v c names);
      }
