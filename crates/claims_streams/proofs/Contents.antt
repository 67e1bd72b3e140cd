-- Laws of what a stream holds: how it is read command by command, that it is the commands decoded at the places where its framing has them
-- (`contents_from-frames`), that the stream's length is reads enough, and that the commands stand one after the other from offset 0 to where the stream
-- ends (`contents-read`). The last two are laws of the framing. Assumes nothing.
use Prim.Native.Nat.{ℕ, zero, suc, ◌+◌, ◌≤◌, ◌<◌}
use native.Mathlib.Decide.{ℕ_discrete}
use native.Mathlib.Omega.{arith}
use mathlib.Core.Path.{◌≡◌, refl, sym, ap, subst, ◌∙◌}
use mathlib.Core.List.{List, [], ◌∷◌, ◌++◌}
use lib.ListN.{length}
use borrow.Author.Tests.{eq-eqb, ne_eqb}
use Rattle.command.specs.Framing.{Framed, whole, short, foreign, Ending, clean, unknown_byte, broken_at, Frame, frame, Frames, frames, framed, frames_from, Follow, no_more, one-frame, FramesEnd}
use Rattle.command.specs.Command.{Command, width_of, command_at, commands_at, complete, broken, unknown, decoded, parse}
use Rattle.command.proofs.Framing.{framed-whole, frames_from-none, frames_from_end, frames_from-whole, frames_from-short, frames_from-foreign, frames_from_enough, follow_le, frames_follow}
use Rattle.command.proofs.Decoding.{width_of_some, parse-framed, framed-complete, parse-complete}
use Rattle.claims_streams.specs.Stream.{Contents, contents, contents_from, rest_of, contents_of, Reads, nothing, one_more, EndsAt}

-- ---- what a stream holds, from an offset on

pub contents_from-none : (stream : List ℕ) (at : ℕ) → contents_from zero stream at ≡ contents [] clean
unfolding contents_from
contents_from-none stream at = refl

module _ (most : ℕ) (stream : List ℕ) (at : ℕ) where
  pub contents_from_end : at ≡ length stream → contents_from (suc most) stream at ≡ contents [] clean
  unfolding contents_from
  contents_from_end e = rw (eq-eqb at (length stream) e, contents_from)

  module _ (before : at < length stream) where
    pub contents_from-complete : (command : Command) (width : ℕ) → parse stream at ≡ complete command width
        → contents_from (suc most) stream at
        ≡ contents (command ∷ (contents_from most stream (at + width)).commands) (contents_from most stream (at + width)).ending
    unfolding contents_from
    contents_from-complete command width e = cc (ne_eqb at (length stream) (omega arith))

    pub contents_from-broken : parse stream at ≡ broken → contents_from (suc most) stream at ≡ contents [] (broken_at at)
    unfolding contents_from
    contents_from-broken e = cc (ne_eqb at (length stream) (omega arith))

    pub contents_from-unknown : (byte : ℕ) → parse stream at ≡ unknown byte → contents_from (suc most) stream at ≡ contents [] (unknown_byte byte)
    unfolding contents_from
    contents_from-unknown byte e = cc (ne_eqb at (length stream) (omega arith))

-- ---- by the framing

module _ (stream : List ℕ) where
  -- The commands that stand at the places of a framing.
  pub commands_in : Frames → Contents
  commands_in held = contents (commands_at stream held.places) held.ending

  commands_in_more : (at w : ℕ) (later : Frames) → commands_in (frames (frame at w ∷ later.places) later.ending)
      ≡ contents (command_at stream (frame at w) ∷ (commands_in later).commands) (commands_in later).ending
  unfolding commands_in commands_at
  commands_in_more at w later = refl

  commands_in_end : (ending : Ending) → commands_in (frames [] ending) ≡ contents [] ending
  unfolding commands_in commands_at
  commands_in_end ending = refl

  module _ (at : ℕ) where
    parse-whole : (w : ℕ) → framed width_of stream at ≡ whole w → parse stream at ≡ complete (command_at stream (frame at w)) w
    unfolding decoded
    parse-whole w e = parse-framed stream at (whole w) e

    parse-short : framed width_of stream at ≡ short → parse stream at ≡ broken
    unfolding decoded
    parse-short e = parse-framed stream at short e

    parse-foreign : (byte : ℕ) → framed width_of stream at ≡ foreign byte → parse stream at ≡ unknown byte
    unfolding decoded
    parse-foreign byte e = parse-framed stream at (foreign byte) e

  pub contents_from-frames : (most at : ℕ) → at ≤ length stream → contents_from most stream at ≡ commands_in (frames_from width_of most stream at)
  contents_from-frames zero at h = contents_from-none stream at ∙ sym (ap commands_in (frames_from-none width_of stream at) ∙ commands_in_end clean)
  contents_from-frames (suc most) at h = go (ℕ_discrete at (length stream)) (framed width_of stream at) refl (λ i. contents_from-frames most i)
    where
      go : Dec (at ≡ length stream) → (f : Framed) → framed width_of stream at ≡ f
          → ((i : ℕ) → i ≤ length stream → contents_from most stream i ≡ commands_in (frames_from width_of most stream i))
          → contents_from (suc most) stream at ≡ commands_in (frames_from width_of (suc most) stream at)
      go (yes q) f e later = contents_from_end most stream at q ∙ sym (ap commands_in (frames_from_end width_of most stream at q) ∙ commands_in_end clean)
      go (no q) (whole w) e later =
          contents_from-complete most stream at (omega arith) (command_at stream (frame at w)) w (parse-whole at w e)
          ∙ ap (λ (k : Contents). contents (command_at stream (frame at w) ∷ k.commands) k.ending) (later (at + w) (framed-whole width_of width_of_some stream at w e).1)
          ∙ sym (ap commands_in (frames_from-whole width_of most stream at (omega arith) w e) ∙ commands_in_more at w (frames_from width_of most stream (at + w)))
      go (no q) short e later =
          contents_from-broken most stream at (omega arith) (parse-short at e)
          ∙ sym (ap commands_in (frames_from-short width_of most stream at (omega arith) e) ∙ commands_in_end (broken_at at))
      go (no q) (foreign byte) e later =
          contents_from-unknown most stream at (omega arith) byte (parse-foreign at byte e)
          ∙ sym (ap commands_in (frames_from-foreign width_of most stream at (omega arith) byte e) ∙ commands_in_end (unknown_byte byte))

  reads_of_follow : {from to : ℕ} {l : List Frame} → Follow width_of stream from l to → Reads stream from (commands_at stream l) to
  unfolding commands_at
  reads_of_follow no_more = nothing
  reads_of_follow (one-frame {at = at} {w = w} e later) = one_more (parse-whole at w e) (reads_of_follow later)

  follow_of_reads : {from to : ℕ} {commands : List Command} → Reads stream from commands to → (l : List Frame) × Follow width_of stream from l to
  follow_of_reads nothing = ([], no_more)
  follow_of_reads (one_more {at = at} {width = width} {command = command} e later) =
      let (l, rest) = follow_of_reads later in
      (frame at width ∷ l, one-frame (framed-complete stream at command width e).0 rest)

-- ---- any number of reads that is enough

module _ (stream : List ℕ) where
  -- Two numbers of reads, neither below the bytes left, read the same.
  pub contents_from_enough : (m n at : ℕ) → at ≤ length stream → length stream ≤ m + at → length stream ≤ n + at
      → contents_from m stream at ≡ contents_from n stream at
  contents_from_enough m n at h e f =
      contents_from-frames stream m at h
      ∙ ap (commands_in stream) (frames_from_enough width_of width_of_some stream m n at h e f)
      ∙ sym (contents_from-frames stream n at h)

  pub rest_of_command : (at : ℕ) (command : Command) (width : ℕ) → parse stream at ≡ complete command width
      → rest_of stream at ≡ contents (command ∷ (rest_of stream (at + width)).commands) (rest_of stream (at + width)).ending
  rest_of_command at command width e =
      let (some_byte, inside) = parse-complete stream at command width e in
      contents_from_enough (length stream) (suc (length stream)) at (omega arith) (omega arith) (omega arith)
      ∙ contents_from-complete (length stream) stream at (omega arith) command width e

  -- Commands read from one offset to another stand before the rest.
  pub rest_of_reads : {from to : ℕ} {commands : List Command} → Reads stream from commands to
      → rest_of stream from ≡ contents (commands ++ (rest_of stream to).commands) (rest_of stream to).ending
  rest_of_reads nothing = refl
  rest_of_reads (one_more {at = at} {width = width} {command = command} e later) =
      rest_of_command at command width e ∙ ap (λ (k : Contents). contents (command ∷ k.commands) k.ending) (rest_of_reads later)

  pub reads_le : {from to : ℕ} {commands : List Command} → Reads stream from commands to → from ≤ to
  reads_le reads = follow_le width_of width_of_some stream (follow_of_reads stream reads).1

-- ---- the commands stand in the stream one after the other

module _ (stream : List ℕ) where
  -- From the offset the stream holds these commands, and where they end it ends so.
  abbrev ReadFrom : ℕ → Contents → Type 0
  ReadFrom at held = (to : ℕ) × Reads stream at held.commands to × EndsAt stream to held.ending

  ends_of_frames : (to : ℕ) (ending : Ending) → FramesEnd width_of stream to ending → EndsAt stream to ending
  ends_of_frames to clean e = e
  ends_of_frames to (unknown_byte byte) (l, e) = (l, parse-foreign stream to byte e)
  ends_of_frames to (broken_at offset) (l, e, same) = (l, parse-short stream to e, same)

  -- The commands stand one after the other from offset 0 on; where the last ends, the stream is at its length, at a byte that begins no
  -- command, or at one that it ends within.
  pub contents-read : (to : ℕ) × Reads stream 0 (contents_of stream).commands to × EndsAt stream to (contents_of stream).ending
  unfolding contents_of commands_in
  contents-read =
      let held = frames_from width_of (length stream) stream 0 in
      let (to, follow, ends) = frames_follow width_of width_of_some stream (length stream) 0 (omega arith) (omega arith) in
      subst (ReadFrom 0) (sym (contents_from-frames stream (length stream) 0 (omega arith)))
      (to, reads_of_follow stream follow, ends_of_frames to held.ending ends)
