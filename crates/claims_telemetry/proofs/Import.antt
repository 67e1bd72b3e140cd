-- The import of packed frames does what is demanded of it in words: `import_demand`. A word's count is the one that its bytes say (`signed_count`), so that the numbers of a frame are nearest
-- and exact by `Nearest`; the command of frame k stands behind those before it (`gather-apart`), where it is read back (`parse_bytes_of`). Assumes nothing.
use Prim.Native.Nat.{ℕ, zero, suc, ◌+◌, ◌*◌, ◌/◌, ◌%◌, ◌^◌, ◌≤◌, ◌<◌}
use native.Mathlib.Decide.{dec_lt}
use native.Mathlib.Nat.{add-zero, zero-add, add_assoc}
use native.Mathlib.Omega.{arith}
use mathlib.Core.Path.{◌≡◌, refl, sym, ap, ap₂, ◌∙◌, subst}
use mathlib.Core.Bool.{true}
use Rattle.std.specs.Prelude.{Option, None, Some, Err, Ok}
use mathlib.Core.List.{List, [], ◌∷◌, ◌++◌, append_assoc, append-nil}
use lib.ListN.{length, get_or, take, drop, length-append}
use lib.Seq.{take_at, drop_at, get_or-drop}
use lib.Dec.{T}
use lib.Ieee.{Float, binary64, of_bits, fits}
use lib.Ieee.Scale.{finite}
use Rattle.lists.specs.Lists.{gather}
use Rattle.lists.proofs.Blocks.{length-gather, gather-apart, listed, tabulate_listed}
use Rattle.arithmetic.specs.Pose.{finite_pose}
use Rattle.arithmetic.specs.declared.pose.Pose.{Pose}
use Rattle.refusal.specs.Table.{number_of, detail_of}
use Rattle.refusal.specs.declared.Refusal.{Refusal}
use Rattle.refusal.specs.declared.Refusal.TheVariants.{WrongLength, BrokenFrame, TooManyFrames}
use Rattle.command.specs.Framing as Framing
use Rattle.command.specs.Framing.{frame, frames, clean, frames_from, Frame, whole, framed}
use Rattle.command.specs.Command.{place, Command, edit, pose_byte, word_at, double_at, offered_pose, width_of, command_at, commands_at, complete, parse, half_at}
use Rattle.command.specs.Writing.{bytes_of, Doubles}
use Rattle.command.proofs.Framing.{frames_from-none, frames_from_end, frames_from-whole}
use Rattle.command.proofs.Decoding.{parse-drop, framed-complete, parse-place}
use Rattle.command.proofs.Writing.{parse_bytes_of}
use Rattle.command.proofs.LowBytes.{length_place_bytes}
use Rattle.telemetry.specs.Quotient.{count_of, quotient, micrometres, rotation_units}
use Rattle.telemetry.specs.Frames.{Bytes, frame_bytes, metres_at, rotation_at, packed_pose, packed_command, frames_in, command_bytes, frames_refusal, imported_of, import_leaves}
use Rattle.telemetry.proofs.Quotient.{count_of_low, count_of_high, count_of_size, quotient_finite}
use Rattle.telemetry.proofs.Frames.{frames-broken, frames_many, frames_wrong, frames_pass, import_refused, import_passed}
use Rattle.claims_telemetry.specs.Import.{word_from, SignedAt, MetresAt, RotationAt, PoseOfFrame, DoubleAt, PoseAt, CommandsOfFrames, RefusedWith, ImportDemand}
use Rattle.claims_telemetry.proofs.Nearest.{quotient-held, metres_nearest, units-exact}

-- ---- one number

module _ (bytes : List ℕ) (small : Bytes bytes) where
  word_small : (at : ℕ) → half_at bytes at < 2 ^ 32
  word_small at = omega (arith, small at, small (at + 1), small (at + 2), small (at + 3))

  signed_count : (at : ℕ) → SignedAt bytes at (count_of (half_at bytes at))
  signed_count at = go (dec_lt (half_at bytes at) (2 ^ 31))
    where
      go : Dec (half_at bytes at < 2 ^ 31) → SignedAt bytes at (count_of (half_at bytes at))
      go (yes low) = rw (count_of_low (half_at bytes at) low) (low, refl)
      go (no high) =
          let above : 2 ^ 31 ≤ half_at bytes at = omega arith in
          rw (count_of_high (half_at bytes at) above (word_small at)) (omega (arith, above), omega (arith, word_small at))

  metres : (at : ℕ) → MetresAt bytes at (metres_at bytes at)
  unfolding metres_at
  metres at = (count_of (half_at bytes at), signed_count at, metres_nearest (count_of (half_at bytes at)) (count_of_size (half_at bytes at) (word_small at)))

  rotation : (at : ℕ) → RotationAt bytes at (rotation_at bytes at)
  unfolding rotation_at
  rotation at = (count_of (half_at bytes at), signed_count at, units-exact (count_of (half_at bytes at)) (count_of_size (half_at bytes at) (word_small at)))

  -- ---- one frame

  pose_of_frame : (at : ℕ) → PoseOfFrame bytes at (packed_pose bytes at)
  unfolding packed_pose
  pose_of_frame at = record {
    x_metres = metres (at + 2);
    y_metres = metres (at + 6);
    z_metres = metres (at + 10);
    i_exact = rotation (at + 14);
    j_exact = rotation (at + 18);
    k_exact = rotation (at + 22);
    w_exact = rotation (at + 26);
  }

  packed_finite : (at : ℕ) → finite_pose (packed_pose bytes at) ≡ true
  unfolding packed_pose metres_at rotation_at finite_pose
  packed_finite at =
      simp (
        number (at + 2) micrometres,
        number (at + 6) micrometres,
        number (at + 10) micrometres,
        number (at + 14) rotation_units,
        number (at + 18) rotation_units,
        number (at + 22) rotation_units,
        number (at + 26) rotation_units,
      )
    where
      number : (i divisor : ℕ) → finite (quotient (count_of (half_at bytes i)) divisor) ≡ true
      number i divisor = quotient_finite (half_at bytes i) divisor (word_small i)

packed_doubles : (bytes : List ℕ) (at : ℕ) → Doubles (packed_pose bytes at)
unfolding packed_pose metres_at rotation_at
packed_doubles bytes at = record {
  double_x = number (at + 2) micrometres;
  double_y = number (at + 6) micrometres;
  double_z = number (at + 10) micrometres;
  double_i = number (at + 14) rotation_units;
  double_j = number (at + 18) rotation_units;
  double_k = number (at + 22) rotation_units;
  double_w = number (at + 26) rotation_units;
}
  where
    number : (i divisor : ℕ) → T (fits binary64 (quotient (count_of (half_at bytes i)) divisor))
    number i divisor = quotient-held (count_of (half_at bytes i)) divisor

-- ---- a command's bytes, as they are read

double_read : (bytes : List ℕ) (at : ℕ) → of_bits binary64 (word_from bytes at + 4294967296 * word_from bytes (at + 4)) ≡ double_at bytes at
unfolding double_at word_at
double_read bytes at = ap (of_bits binary64) words
  where
    words : word_from bytes at + 4294967296 * word_from bytes (at + 4) ≡ word_at bytes at
    words = simp add_assoc (omega arith)

-- Where a Pose command is read, its bytes stand.
pose_at : (bytes : List ℕ) (at view camera : ℕ) (p : Pose) → get_or bytes at 0 ≡ pose_byte → at + 59 ≤ length bytes
    → parse bytes at ≡ complete (edit (place view camera p)) 59 → PoseAt bytes at view camera p
unfolding offered_pose
pose_at bytes at view camera p first room read =
    let own = parse-place bytes at first room in
    let view_is : get_or bytes (at + 1) 0 ≡ view = cc in
    let camera_is : get_or bytes (at + 2) 0 ≡ camera = cc in
    let pose_is : offered_pose bytes (at + 3) ≡ p = cc in
    let number : (i j : ℕ) (f : Pose → Float) → i ≡ j → double_at bytes j ≡ f (offered_pose bytes (at + 3)) → DoubleAt bytes i (f p) = λ i j f e g. double_read bytes i ∙ ap (double_at bytes) e ∙ g ∙ ap f pose_is in
    record {
      pose_byte = first;
      view_byte = view_is;
      camera_byte = camera_is;
      x_bits = number _ (at + 3) (λ q. q.translation.x) refl refl;
      y_bits = number _ (at + 3 + 8) (λ q. q.translation.y) (omega arith) refl;
      z_bits = number _ (at + 3 + 16) (λ q. q.translation.z) (omega arith) refl;
      i_bits = number _ (at + 3 + 24) (λ q. q.rotation.i) (omega arith) refl;
      j_bits = number _ (at + 3 + 32) (λ q. q.rotation.j) (omega arith) refl;
      k_bits = number _ (at + 3 + 40) (λ q. q.rotation.k) (omega arith) refl;
      w_bits = number _ (at + 3 + 48) (λ q. q.rotation.w) (omega arith) refl;
    }

-- ---- the commands, one behind the other

module _ (bytes : List ℕ) where
  abbrev command : ℕ → Command
  command k = packed_command bytes (frame_bytes * k)

  abbrev block : ℕ → List ℕ
  block k = bytes_of (command k)

  wide : (k : ℕ) → length (block k) ≡ 59
  unfolding packed_command
  wide k = length_place_bytes _ _ _

  -- What is read where a stream holds a frame's command and anything behind it.
  parse-command : (k : ℕ) (rest : List ℕ) → parse (block k ++ rest) 0 ≡ complete (command k) 59
  unfolding packed_command
  parse-command k rest = parse_bytes_of rest (command k) (packed_doubles bytes (frame_bytes * k)) ∙ ap (complete (command k)) (wide k)

  module _ (n k : ℕ) (h : k < n) where
    -- The answer from a command on.
    behind : List ℕ
    behind = (gather-apart block n k h).0

    from_block : drop (59 * k) (gather n block) ≡ block k ++ behind
    unfolding behind
    from_block =
        ap (drop (59 * k)) (gather-apart block n k h).1 ∙ drop_at (gather k block) (block k ++ behind) (59 * k) (length-gather block 59 wide k)

    its_bytes : take 59 (drop (59 * k) (gather n block)) ≡ block k
    its_bytes = ap (take 59) from_block ∙ take_at (block k) behind 59 (wide k)

    in_a_stream : (before after : List ℕ) → parse (before ++ (gather n block ++ after)) (length before + 59 * k) ≡ complete (command k) 59
    unfolding behind
    in_a_stream before after =
        let stream = before ++ (gather n block ++ after) in
        let front = before ++ gather k block in
        let there : length front ≡ length before + 59 * k = length-append before (gather k block) ∙ ap (λ (i : ℕ). length before + i) (length-gather block 59 wide k) in
        let apart : stream ≡ front ++ (block k ++ (behind ++ after)) =
        ap (λ (l : List ℕ). before ++ (l ++ after)) (gather-apart block n k h).1
        ∙ simp append_assoc in
        let inside : length before + 59 * k ≤ length stream = rw (apart, length-append) (omega (arith, there)) in
        ap (parse stream) (omega arith)
        ∙ sym (parse-drop (length before + 59 * k) stream 0 inside)
        ∙ ap (λ (l : List ℕ). parse (drop (length before + 59 * k) l) 0) apart
        ∙ ap (λ (l : List ℕ). parse l 0) (drop_at front (block k ++ (behind ++ after)) (length before + 59 * k) there)
        ∙ parse-command k (behind ++ after)

    -- And in the answer alone.
    read_there : parse (gather n block) (59 * k) ≡ complete (command k) 59
    read_there =
        ap (λ (l : List ℕ). parse l (59 * k)) (sym (append-nil (gather n block)))
        ∙ ap (parse (gather n block ++ [])) (sym (zero-add (59 * k)))
        ∙ in_a_stream [] []

    framed_there : (framed width_of (gather n block) (59 * k) ≡ whole 59) × (command_at (gather n block) (frame (59 * k) 59) ≡ command k)
    framed_there = framed-complete (gather n block) (59 * k) (command k) 59 read_there

    first_byte : get_or (gather n block) (59 * k) 0 ≡ pose_byte
    unfolding packed_command bytes_of
    first_byte =
        ap (λ (i : ℕ). get_or (gather n block) i 0) (sym (add-zero (59 * k)))
        ∙ sym (get_or-drop (59 * k) (gather n block) 0 0)
        ∙ ap (λ (l : List ℕ). get_or l 0 0) from_block

    its_bytes_read : PoseAt (gather n block) (59 * k) (get_or bytes (30 * k) 0) (get_or bytes (30 * k + 1) 0) (packed_pose bytes (30 * k))
    unfolding packed_command
    its_bytes_read = pose_at (gather n block) (59 * k) _ _ _ first_byte (omega (arith, length-gather block 59 wide n)) read_there

  module _ (n : ℕ) where
    abbrev answer : List ℕ
    answer = gather n block

    abbrev there : ℕ → Frame
    there k = frame (59 * k) 59

    frames_from_is : (m k most : ℕ) → k + m ≡ n → m ≤ most → frames_from width_of most answer (59 * k) ≡ frames (listed there k m) clean
    unfolding listed
    frames_from_is zero k zero e l = frames_from-none width_of answer (59 * k)
    frames_from_is zero k (suc most) e l = frames_from_end width_of most answer (59 * k) (omega (arith, length-gather block 59 wide n))
    frames_from_is (suc m) k zero e l = absurd (omega arith)
    frames_from_is (suc m) k (suc most) e l =
        let next : 59 * k + 59 ≡ 59 * suc k = omega arith in
        frames_from-whole width_of most answer (59 * k) (omega (arith, length-gather block 59 wide n)) 59 (framed_there n k (omega arith)).0
        ∙ ap (λ (i : ℕ). frames (there k ∷ (frames_from width_of most answer i).places) (frames_from width_of most answer i).ending) next
        ∙ ap (λ (later : Framing.Frames). frames (there k ∷ later.places) later.ending) (frames_from_is m (suc k) most (omega arith) (omega arith))

    commands_from : (m k : ℕ) → k + m ≡ n → commands_at answer (listed there k m) ≡ listed command k m
    unfolding listed commands_at
    commands_from zero k e = refl
    commands_from (suc m) k e = ap₂ (λ (c : Command) (l : List Command). c ∷ l) (framed_there n k (omega arith)).1 (commands_from m (suc k) (omega arith))

    -- ---- all of them

    commands_of_frames : Bytes bytes → CommandsOfFrames bytes n answer
    commands_of_frames small = record {
      command = command;
      each = λ k h. record {
        pose = packed_pose bytes (30 * k);
        pose_of_frame = pose_of_frame bytes small (30 * k);
        pose_finite = packed_finite bytes small (30 * k);
        is_place = unfold packed_command in refl;
        its_bytes_read = its_bytes_read n k h;
        its_bytes = its_bytes n k h;
        in_a_stream = in_a_stream n k h;
      };
      as_long = length-gather block 59 wide n;
      places =
          frames_from_is n 0 (length answer) (omega arith) (omega (arith, length-gather block 59 wide n))
          ∙ ap (λ (l : List Frame). frames l clean) (sym (tabulate_listed there n));
      read_back = ap (commands_at answer) (tabulate_listed there n) ∙ commands_from n 0 (omega arith) ∙ sym (tabulate_listed command n);
    }

-- ---- the entry

command_bytes_is : (bytes : List ℕ) → command_bytes bytes ≡ gather (frames_in bytes) (block bytes)
unfolding command_bytes
command_bytes_is bytes = refl

module _ (bytes lent : List ℕ) where
  whole-frames : (n : ℕ) → length bytes ≡ 30 * n → length bytes % frame_bytes ≡ 0
  whole-frames n e = omega arith

  many_frames : (n : ℕ) → length bytes ≡ 30 * n → length bytes / frame_bytes ≡ n
  many_frames n e = omega arith

  refused_with : (r : Refusal) → detail_of r ≡ 0 → frames_refusal (length bytes) (length lent) ≡ Some r → RefusedWith (imported_of bytes lent) (number_of r)
  refused_with r d e = (r, (import_refused bytes lent r e).0, refl, d)

  left_alone : (r : Refusal) → imported_of bytes lent ≡ Err r → import_leaves bytes lent ≡ lent
  left_alone r e = go (frames_refusal (length bytes) (length lent)) refl
    where
      go : (o : Option Refusal) → frames_refusal (length bytes) (length lent) ≡ o → import_leaves bytes lent ≡ lent
      go (Some q) f = (import_refused bytes lent q f).1
      go None f = let passed = (import_passed bytes lent f).0 in let z : ◌≡◌ {A = ℕ} 0 1 = cc in absurd (omega arith)

  pub import_demand : ImportDemand bytes lent (imported_of bytes lent) (import_leaves bytes lent)
  import_demand = record {
    no_multiple = λ h. refused_with BrokenFrame refl (frames-broken (length bytes) (length lent) (λ e. h (length bytes / frame_bytes) (omega arith)));
    too_many = λ n e l. refused_with TooManyFrames refl (frames_many (length bytes) (length lent) (whole-frames n e) (omega (arith, many_frames n e)));
    another_length =
        λ n e l h.
        refused_with WrongLength refl
        (frames_wrong (length bytes) (length lent) (whole-frames n e) (omega (arith, many_frames n e)) (λ f. h (f ∙ ap (λ (i : ℕ). 59 * i) (many_frames n e))));
    imported =
        λ small n e l f.
        let passed = import_passed bytes lent (frames_pass (length bytes) (length lent) (whole-frames n e) (omega (arith, many_frames n e)) (omega (arith, many_frames n e, f))) in
        let same : import_leaves bytes lent ≡ gather n (block bytes) = passed.1 ∙ command_bytes_is bytes ∙ ap (λ (i : ℕ). gather i (block bytes)) (many_frames n e) in
        (passed.0 ∙ ap Ok (many_frames n e), subst (CommandsOfFrames bytes n) (sym same) (commands_of_frames bytes n small));
    unchanged = left_alone;
  }
