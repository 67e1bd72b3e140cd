-- The check for 5 decides exactly which records accepted commands could leave: `possible-left`. Document 01: "a session record handed
-- in has sizes, a reference or mask bits that no accepted commands could leave". A record that passes is left by Size and then one Pose
-- for each bit; every accepted command keeps the check passing. Assumes nothing.
use Prim.Native.Nat.{ℕ, zero, suc, ◌+◌, ◌%◌, ◌^◌, ◌≤◌, ◌<◌}
use native.Mathlib.Decide.{dec_lt}
use native.Mathlib.Nat.{eq-or-lt_of_le, le_of_suc-le-suc, mod-eq_of_lt, mod-one}
use native.Mathlib.Omega.{arith}
use mathlib.Core.Path.{◌≡◌, refl, sym, ap, subst, ◌∙◌}
use mathlib.Core.Logic.{◌↔◌, ⊎_elim}
use mathlib.Core.Bool.{Bool, true, false}
use Rattle.std.specs.Prelude.{None}
use mathlib.Core.List.{List, []}
use lib.ListN.{length, get_or, set, replicate, length-set, length-replicate, get_or-replicate}
use lib.Seq.{get_or-set_same, get_or-set_other, set-get_or, set-set, ext_get_or}
use lib.Dec.{T}
use lib.Ieee.{Float, of_bits}
use Rattle.arithmetic.specs.Pose.{identity_pose, finite_pose}
use Rattle.limits.specs.Limits.{max_cameras}
use Rattle.lists.specs.Masks.{in_mask}
use Rattle.lists.proofs.MaskBits.{in_mask-mod, mod-next-set, mod-next_clear}
use Rattle.inputs.proofs.Answering.{Sizes}
use Rattle.command.specs.Command.{size, place, Command, edit, solve}
use Rattle.shared_counts.specs.Summary.{entry_count, summary_of}
use Rattle.shared_counts.proofs.Summaries.{summary_of_nothing}
use Rattle.session_record.specs.Session.{held_of, summed, fresh, possible}
use Rattle.session_commands.specs.Commands.{command_refusal, session_after, Left, left-fresh, left_after}
use Rattle.session_record.specs.declared.Session.{Session}
use Rattle.claims_streams.proofs.Sound.{NoSizes, Sound, sound_of_possible, possible_of_sound, summed-held, sound_fresh}
use Rattle.claims_streams.proofs.Edits.Size.{accepts_size}
use Rattle.claims_streams.proofs.Edits.Pose.{accepts_place}
use Rattle.claims_streams.proofs.Edits.All.{edit_law}

-- ---- accepted commands keep a record sound

pub sound_after : (s : Session) → Sound s → (buffer : List Float) (command : Command) → command_refusal (held_of s) buffer command ≡ None → Sound (session_after s command)
unfolding command_refusal session_after
sound_after s h buffer (edit change) e = (edit_law change).sound_after s e h
sound_after s h buffer solve e = h

sound_of_left : {s : Session} → Left s → Sound s
sound_of_left left-fresh = sound_fresh
sound_of_left (left_after {s = s} buffer command l e) = sound_after s (sound_of_left l) buffer command e

-- ---- commands that leave a record

identity_finite : finite_pose identity_pose ≡ true
unfolding finite_pose of_bits
identity_finite = refl

module _ (views cameras reference : ℕ) (sizes : Sizes views cameras reference) where
  abbrev sized : List ℕ → Session
  sized l = summed (record { masks = l; views = views; cameras = cameras; reference = reference })

  -- Size leaves a record without bits.
  left-sized : Left (sized (replicate max_cameras 0))
  unfolding command_refusal session_after
  left-sized = left_after [] (edit (size views cameras reference)) left-fresh (accepts_size fresh views cameras reference refl sizes)

  -- One Pose, with whatever numbers, leaves one bit more.
  left_bit : (l : List ℕ) (v c : ℕ) → v < views → c < cameras → in_mask (get_or l c 0) v ≡ false → Left (sized l)
      → Left (sized (set l c (get_or l c 0 + 2 ^ v)))
  unfolding command_refusal session_after
  left_bit l v c hv hc clear h =
      left_after [] (edit (place v c identity_pose)) h
      (accepts_place (sized l) v c identity_pose (record { view_inside = hv; camera_inside = hc; not_held = clear; all_finite = identity_finite }))

  module _ (l : List ℕ) (c : ℕ) (here : c < length l) (inside : c < cameras) (clear : get_or l c 0 ≡ 0) (h : Left (sized l)) (m : ℕ) where
    -- The lowest n bits of the mask.
    left-lowest : (n : ℕ) → n ≤ views → Left (sized (set l c (m % 2 ^ n)))
    left-lowest zero k = subst (λ (x : List ℕ). Left (sized x)) (sym (ap (set l c) (mod-one m ∙ sym clear) ∙ set-get_or l c 0)) h
    left-lowest (suc n) k = go (in_mask m n) refl (left-lowest n (omega arith))
      where
        low : ℕ
        low = m % 2 ^ n

        go : (b : Bool) → in_mask m n ≡ b → Left (sized (set l c (m % 2 ^ n))) → Left (sized (set l c (m % 2 ^ suc n)))
        go false e before = rw (mod-next_clear m n e) before
        go true e before =
            subst (λ (x : List ℕ). Left (sized x)) same
            (left_bit (set l c low) n c (omega arith) inside (ap (λ (x : ℕ). in_mask x n) there ∙ in_mask-mod m n) before)
          where
            there : get_or (set l c low) c 0 ≡ low
            there = get_or-set_same l c low 0 here

            same : set (set l c low) c (get_or (set l c low) c 0 + 2 ^ n) ≡ set l c (m % 2 ^ suc n)
            same = set-set l c low (get_or (set l c low) c 0 + 2 ^ n) ∙ ap (set l c) (ap (λ (x : ℕ). x + 2 ^ n) there ∙ sym (mod-next-set m n e))

    left_mask : m < 2 ^ views → Left (sized (set l c m))
    left_mask k = subst (λ (x : ℕ). Left (sized (set l c x))) (mod-eq_of_lt k) (left-lowest views (omega arith))

  -- The masks of the first n cameras, and no other bits.
  abbrev First : List ℕ → ℕ → List ℕ → Type 0
  First masks n l =
      (length l ≡ max_cameras)
      × ((i : ℕ) → i < n → get_or l i 0 ≡ get_or masks i 0)
      × ((i : ℕ) → n ≤ i → i < max_cameras → get_or l i 0 ≡ 0)

  module _ (masks : List ℕ) (sound : Sound (sized masks)) where
    left-first : (n : ℕ) → n ≤ max_cameras → (l : List ℕ) × Left (sized l) × First masks n l
    left-first zero k =
        (replicate max_cameras 0, left-sized, (length-replicate {A = ℕ} max_cameras 0, λ i l. absurd (omega arith), λ i _ l. get_or-replicate max_cameras i 0 0 l))
    left-first (suc n) k = next (left-first n (omega arith)) (dec_lt n cameras)
      where
        next : ((l : List ℕ) × Left (sized l) × First masks n l) → Dec (n < cameras) → (l : List ℕ) × Left (sized l) × First masks (suc n) l
        next (l, left, (long, done, rest)) (yes inside) = (
          set l n (get_or masks n 0),
          left_mask l n (omega arith) inside (rest n (omega arith) (omega arith)) left (get_or masks n 0) (sound.inside n (omega arith) inside),
          (
            length-set l n (get_or masks n 0) ∙ long,
            λ i h. ⊎_elim (λ e. rw e (get_or-set_same l n (get_or masks n 0) 0 (omega arith))) (λ j. get_or-set_other l n i (get_or masks n 0) 0 (omega arith) ∙ done i j) (eq-or-lt_of_le (le_of_suc-le-suc h)),
            λ i h j. get_or-set_other l n i (get_or masks n 0) 0 (omega arith) ∙ rest i (omega arith) j,
          ),
        )
        next (l, left, (long, done, rest)) (no outside) = (
          l,
          left,
          (
            long,
            λ i h. ⊎_elim (λ e. rw e (rest n (omega arith) (omega arith) ∙ sym (sound.outside n (omega arith) (omega arith)))) (λ j. done i j) (eq-or-lt_of_le (le_of_suc-le-suc h)),
            λ i h j. rest i (omega arith) j,
          ),
        )

    left_of_sizes : length masks ≡ max_cameras → Left (sized masks)
    left_of_sizes long =
        let (l, left, (same_length, same, _)) = left-first max_cameras (omega arith) in
        subst (λ (x : List ℕ). Left (sized x)) (ext_get_or 0 l masks (same_length ∙ sym long) (λ i h. same i (omega arith))) left

left_of_sound : (s : Session) → length s.masks ≡ max_cameras → Sound s → Left s
left_of_sound s long sound = ⊎_elim none_yet some-sizes sound.sizes
  where
    none_yet : NoSizes s → Left s
    none_yet (v, c, r) = subst Left (sym is_fresh) left-fresh
      where
        no_bit : s.masks ≡ replicate max_cameras 0
        no_bit =
            ext_get_or 0 s.masks (replicate max_cameras 0) (long ∙ sym (length-replicate {A = ℕ} max_cameras 0))
            (λ i h. sound.outside i (omega arith) (omega arith) ∙ sym (get_or-replicate max_cameras i 0 0 (omega arith)))

        no_entry : s.shared ≡ replicate entry_count 0
        no_entry = sound.true_summary ∙ ap summary_of no_bit ∙ summary_of_nothing

        is_fresh : s ≡ fresh
        is_fresh = λ i. record { masks = no_bit i; views = v i; cameras = c i; reference = r i; shared = no_entry i }

    some-sizes : Sizes s.views s.cameras s.reference → Left s
    some-sizes n =
        subst Left (summed-held s sound)
        (left_of_sizes s.views s.cameras s.reference n s.masks
        (record { sizes = sound.sizes; inside = sound.inside; outside = sound.outside; true_summary = refl }) long)

-- Accepted commands leave a mask for each of 16 cameras.
pub left-sixteen : {s : Session} → Left s → length s.masks ≡ 16
unfolding session_after
left-sixteen left-fresh = refl
left-sixteen (left_after {s = s} buffer (edit change) l e) = (edit_law change).masks_kept s ∙ left-sixteen l
left-sixteen (left_after buffer solve l e) = left-sixteen l

-- The check for 5 passes exactly those records that accepted commands could leave.
pub possible-left : (s : Session) → length s.masks ≡ 16 → T (possible s) ↔ Left s
possible-left s long = (λ t. left_of_sound s long (sound_of_possible s t), λ l. possible_of_sound s (sound_of_left l))
