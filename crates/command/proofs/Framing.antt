-- Laws of cutting a stream into commands, for any table of widths; where every command takes a byte or more, a whole command lies within the stream
-- (`framed-whole`), any number of reads that is enough gives the same (`frames_from_enough`), and the commands stand one after the other to where the
-- stream ends (`frames_follow`). Assumes nothing.
use Prim.Native.Nat.{ℕ, zero, suc, ◌+◌, ◌≤◌, ◌<◌}
use native.Mathlib.Decide.{ℕ_discrete, dec_le}
use native.Mathlib.Omega.{arith, by_contra}
use mathlib.Core.Path.{◌≡◌, refl, sym, ap, subst, ◌∙◌}
use mathlib.Core.Bool.{Bool, true, false, cond}
use Rattle.std.specs.Prelude.{Option, None, Some}
use mathlib.Core.List.{List, [], ◌∷◌}
use lib.ListN.{length, get_or, drop, length-drop}
use lib.Seq.{get_or-drop}
use lib.Dec.{leb}
use borrow.Author.Tests.{leb-true, le-leb, lt-leb, eq-eqb, ne_eqb}
use Rattle.command.specs.Framing.{Framed, whole, short, foreign, framed_by, frame, clean, unknown_byte, broken_at, Frames, frames, framed, frames_from, SomeByte, Follow, no_more, one-frame, FramesEnd, Frame}

-- ---- one command

-- A whole command takes a byte or more and ends where the stream does or before; of anything else, nothing.
abbrev Within : List ℕ → ℕ → Framed → Type 0
Within stream at (whole w) = (0 < w) × (at + w ≤ length stream)
Within stream at short = Unit {0}
Within stream at (foreign byte) = Unit {0}

within_by : (stream : List ℕ) (at : ℕ) (o : Option ℕ) → ((w : ℕ) → o ≡ Some w → 0 < w) → Within stream at (framed_by stream at o)
unfolding framed_by
within_by stream at None h = tt
within_by stream at (Some w) h = go (leb (at + w) (length stream)) refl
  where
    go : (b : Bool) → leb (at + w) (length stream) ≡ b → Within stream at (cond b (whole w) short)
    go true e = (h w refl, leb-true _ _ e)
    go false e = tt

module _ (widths : ℕ → Option ℕ) (some_byte : SomeByte widths) (stream : List ℕ) where
  framed-within : (at : ℕ) → Within stream at (framed widths stream at)
  unfolding framed
  framed-within at = within_by stream at (widths (get_or stream at 0)) (λ w e. some_byte (get_or stream at 0) w e)

  pub framed-whole : (at w : ℕ) → framed widths stream at ≡ whole w → (0 < w) × (at + w ≤ length stream)
  framed-whole at w e = subst (Within stream at) e (framed-within at)

-- ---- by the bytes alone

leb_agree : (a b c d : ℕ) → (a ≤ b → c ≤ d) → (c ≤ d → a ≤ b) → leb a b ≡ leb c d
leb_agree a b c d forth back = go (dec_le a b)
  where
    go : Dec (a ≤ b) → leb a b ≡ leb c d
    go (yes h) = le-leb a b h ∙ sym (le-leb c d (forth h))
    go (no h) = lt-leb a b (omega arith) ∙ sym (lt-leb c d (by_contra (suc d) c (λ l. h (back (omega arith)))))

framed_by-drop : (n : ℕ) (stream : List ℕ) (at : ℕ) (o : Option ℕ) → n ≤ length stream → framed_by (drop n stream) at o ≡ framed_by stream (n + at) o
unfolding framed_by
framed_by-drop n stream at None h = ap foreign (get_or-drop n stream at 0)
framed_by-drop n stream at (Some w) h =
    ap (λ (b : Bool). cond b (whole w) short)
    (leb_agree (at + w) (length (drop n stream)) (n + at + w) (length stream)
    (λ l. omega (arith, length-drop n stream)) (λ l. omega (arith, length-drop n stream)))

framed_by_own : (stream : List ℕ) (at w : ℕ) (o : Option ℕ) → framed_by stream at o ≡ whole w → o ≡ Some w
unfolding framed_by
framed_by_own stream at w None e = absurd (let z : ◌≡◌ {A = ℕ} 0 1 = cc in omega arith)
framed_by_own stream at w (Some v) e = go (leb (at + v) (length stream)) e
  where
    go : (b : Bool) → cond b (whole v) short ≡ whole w → Some v ≡ Some w
    go true f = cc
    go false f = absurd (let z : ◌≡◌ {A = ℕ} 0 1 = cc in omega arith)

module _ (widths : ℕ → Option ℕ) where
  -- What stands behind the first n bytes is framed as it is where these stand before it.
  pub framed-drop : (n : ℕ) (stream : List ℕ) (at : ℕ) → n ≤ length stream → framed widths (drop n stream) at ≡ framed widths stream (n + at)
  unfolding framed
  framed-drop n stream at h =
      ap (λ (byte : ℕ). framed_by (drop n stream) at (widths byte)) (get_or-drop n stream at 0)
      ∙ framed_by-drop n stream at (widths (get_or stream (n + at) 0)) h

  -- A command that is whole goes by its first byte, and is whole wherever that byte stands and as many bytes do.
  pub framed_own : (stream stream' : List ℕ) (at w : ℕ) → framed widths stream at ≡ whole w → get_or stream' at 0 ≡ get_or stream at 0
      → at + w ≤ length stream' → framed widths stream' at ≡ whole w
  unfolding framed framed_by
  framed_own stream stream' at w e same fits =
      ap (λ (byte : ℕ). framed_by stream' at (widths byte)) same
      ∙ ap (framed_by stream' at) (framed_by_own stream at w (widths (get_or stream at 0)) e)
      ∙ ap (λ (b : Bool). cond b (whole w) short) (le-leb (at + w) (length stream') fits)

-- ---- the commands from an offset on

module _ (widths : ℕ → Option ℕ) where
  pub frames_from-none : (stream : List ℕ) (at : ℕ) → frames_from widths zero stream at ≡ frames [] clean
  unfolding frames_from
  frames_from-none stream at = refl

  module _ (most : ℕ) (stream : List ℕ) (at : ℕ) where
    pub frames_from_end : at ≡ length stream → frames_from widths (suc most) stream at ≡ frames [] clean
    unfolding frames_from
    frames_from_end e = rw (eq-eqb at (length stream) e, frames_from)

    module _ (before : at < length stream) where
      pub frames_from-whole : (w : ℕ) → framed widths stream at ≡ whole w
          → frames_from widths (suc most) stream at
          ≡ frames (frame at w ∷ (frames_from widths most stream (at + w)).places) (frames_from widths most stream (at + w)).ending
      unfolding frames_from
      frames_from-whole w e = cc (ne_eqb at (length stream) (omega arith))

      pub frames_from-short : framed widths stream at ≡ short → frames_from widths (suc most) stream at ≡ frames [] (broken_at at)
      unfolding frames_from
      frames_from-short e = cc (ne_eqb at (length stream) (omega arith))

      pub frames_from-foreign : (byte : ℕ) → framed widths stream at ≡ foreign byte → frames_from widths (suc most) stream at ≡ frames [] (unknown_byte byte)
      unfolding frames_from
      frames_from-foreign byte e = cc (ne_eqb at (length stream) (omega arith))

module _ (widths : ℕ → Option ℕ) (some_byte : SomeByte widths) (stream : List ℕ) where
  -- Two numbers of reads, neither below the bytes left, read the same.
  pub frames_from_enough : (m n at : ℕ) → at ≤ length stream → length stream ≤ m + at → length stream ≤ n + at
      → frames_from widths m stream at ≡ frames_from widths n stream at
  frames_from_enough zero zero at h e f = refl
  frames_from_enough zero (suc n) at h e f = frames_from-none widths stream at ∙ sym (frames_from_end widths n stream at (omega arith))
  frames_from_enough (suc m) zero at h e f = frames_from_end widths m stream at (omega arith) ∙ sym (frames_from-none widths stream at)
  frames_from_enough (suc m) (suc n) at h e f = go (ℕ_discrete at (length stream)) (framed widths stream at) refl (λ i. frames_from_enough m n i)
    where
      go : Dec (at ≡ length stream) → (p : Framed) → framed widths stream at ≡ p
          → ((i : ℕ) → i ≤ length stream → length stream ≤ m + i → length stream ≤ n + i → frames_from widths m stream i ≡ frames_from widths n stream i)
          → frames_from widths (suc m) stream at ≡ frames_from widths (suc n) stream at
      go (yes q) p _ later = frames_from_end widths m stream at q ∙ sym (frames_from_end widths n stream at q)
      go (no q) (whole w) p later =
          let (some-width, inside) = framed-whole widths some_byte stream at w p in
          frames_from-whole widths m stream at (omega arith) w p
          ∙ ap (λ (k : Frames). frames (frame at w ∷ k.places) k.ending) (later (at + w) inside (omega arith) (omega arith))
          ∙ sym (frames_from-whole widths n stream at (omega arith) w p)
      go (no q) short p later = frames_from-short widths m stream at (omega arith) p ∙ sym (frames_from-short widths n stream at (omega arith) p)
      go (no q) (foreign byte) p later =
          frames_from-foreign widths m stream at (omega arith) byte p ∙ sym (frames_from-foreign widths n stream at (omega arith) byte p)

  pub follow_le : {from to : ℕ} {l : List Frame} → Follow widths stream from l to → from ≤ to
  follow_le no_more = omega arith
  follow_le (one-frame {w = w} e later) = omega (arith, follow_le later)

  abbrev FollowFrom : ℕ → Frames → Type 0
  FollowFrom at held = (to : ℕ) × Follow widths stream at held.places to × FramesEnd widths stream to held.ending

  -- The commands stand one after the other from the offset on; where the last ends, the stream ends as it is said to.
  pub frames_follow : (most at : ℕ) → at ≤ length stream → length stream ≤ most + at → FollowFrom at (frames_from widths most stream at)
  frames_follow zero at h e = subst (FollowFrom at) (sym (frames_from-none widths stream at)) (at, no_more, omega arith)
  frames_follow (suc most) at h e = go (ℕ_discrete at (length stream)) (framed widths stream at) refl (λ i. frames_follow most i)
    where
      go : Dec (at ≡ length stream) → (p : Framed) → framed widths stream at ≡ p
          → ((i : ℕ) → i ≤ length stream → length stream ≤ most + i → FollowFrom i (frames_from widths most stream i))
          → FollowFrom at (frames_from widths (suc most) stream at)
      go (yes q) p _ later = subst (FollowFrom at) (sym (frames_from_end widths most stream at q)) (at, no_more, q)
      go (no q) (whole w) p later =
          let (some-width, inside) = framed-whole widths some_byte stream at w p in
          let (to, rest, ends) = later (at + w) inside (omega arith) in
          subst (FollowFrom at) (sym (frames_from-whole widths most stream at (omega arith) w p)) (to, one-frame p rest, ends)
      go (no q) short p later =
          subst (FollowFrom at) (sym (frames_from-short widths most stream at (omega arith) p)) (at, no_more, (omega arith, p, refl))
      go (no q) (foreign byte) p later =
          subst (FollowFrom at) (sym (frames_from-foreign widths most stream at (omega arith) byte p)) (at, no_more, (omega arith, p))
