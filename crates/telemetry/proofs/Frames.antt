-- Laws of packed frames: a frame alone, their commands put one behind the other, and their checks in order. Assumes nothing.
use Prim.Native.Nat.{ℕ, zero, suc, ◌+◌, ◌*◌, ◌/◌, ◌%◌, ◌≤◌, ◌<◌}
use native.Mathlib.Nat.{add-zero, mul-zero, add_assoc}
use native.Mathlib.Decide.{ℕ_discrete, dec_le}
use native.Mathlib.Omega.{arith}
use mathlib.Core.Path.{◌≡◌, refl, sym, ap, ◌∙◌, subst}
use Rattle.std.specs.Prelude.{Option, None, Some, Err, Ok}
use mathlib.Core.List.{List}
use lib.ListN.{length, get_or, take, drop}
use lib.Seq.{drop-drop}
use Rattle.std.specs.Simd.{first_chunks}
use borrow.Author.Tests.{lt-ltb, le-ltb, eq-eqb, ne_eqb}
use Rattle.lists.specs.Lists.{gather}
use Rattle.arithmetic.specs.declared.pose.Pose.{Pose}
use Rattle.refusal.specs.Table.{detail_of, refuse_if, first_of}
use Rattle.refusal.specs.declared.Refusal.{Refusal}
use Rattle.refusal.specs.declared.Refusal.TheVariants.{WrongLength, BrokenFrame, TooManyFrames}
use Rattle.command.specs.Command.{place, Command, edit, pose_width, half_at}
use Rattle.command.specs.Writing.{bytes_of}
use Rattle.command.proofs.Words.{get_or-part}
use Rattle.putting.specs.Putting.{Puts}
use Rattle.putting.specs.declared.Writer.{Writer}
use Rattle.putting.proofs.Putting.{puts_next}
use Rattle.telemetry.specs.Frames.{frame_bytes, max_frames, metres_at, rotation_at, packed_pose, packed_command, frames_in, command_bytes, frames_refusal, imported_by, left_by, imported_of, import_leaves, max_bytes, RefusedAlike}

-- ---- frames alone

-- So many numbers at a time: those at a place.
pub get_or-first_chunks : (n k i : ℕ) (l d : List ℕ) → i < k → get_or (first_chunks n k l) i d ≡ take n (drop (n * i) l)
get_or-first_chunks n zero i l d h = absurd (omega arith)
get_or-first_chunks n (suc k) zero l d h = rw mul-zero
get_or-first_chunks n (suc k) (suc i) l d h =
    let place : n + n * i ≡ n * suc i = omega arith in
    get_or-first_chunks n k i (drop n l) d (omega arith) ∙ ap (take n) (drop-drop (n * i) n l ∙ ap (λ (at : ℕ). drop at l) place)

half_at-frame : (file : List ℕ) (at i : ℕ) → i + 4 ≤ frame_bytes → half_at (take frame_bytes (drop at file)) i ≡ half_at file (at + i)
half_at-frame file at i h =
    rw (
      get_or-part file at frame_bytes i (omega arith),
      get_or-part file at frame_bytes (i + 1) (omega arith),
      get_or-part file at frame_bytes (i + 2) (omega arith),
      get_or-part file at frame_bytes (i + 3) (omega arith),
      ← add_assoc at i 1,
      ← add_assoc at i 2,
      ← add_assoc at i 3,
    )
    refl

-- A frame has the command that its bytes have in their file.
packed_command-frame : (file : List ℕ) (at : ℕ) → packed_command (take frame_bytes (drop at file)) 0 ≡ packed_command file at
unfolding packed_command packed_pose metres_at rotation_at
packed_command-frame file at =
    rw (
      get_or-part file at frame_bytes 0 (omega arith),
      add-zero,
      get_or-part file at frame_bytes 1 (omega arith),
      half_at-frame file at 2 (omega arith),
      half_at-frame file at 6 (omega arith),
      half_at-frame file at 10 (omega arith),
      half_at-frame file at 14 (omega arith),
      half_at-frame file at 18 (omega arith),
      half_at-frame file at 22 (omega arith),
      half_at-frame file at 26 (omega arith),
    )
    refl

-- ---- commands put

-- One frame's command more: what its view, its camera and its pose make.
pub puts_frame : {before middle after : Writer} (file : List ℕ) (k : ℕ) (frame : List ℕ) (p : Pose) → frame ≡ take frame_bytes (drop (frame_bytes * k) file)
    → p ≡ packed_pose frame 0 → Puts before (gather k (λ i. bytes_of (packed_command file (frame_bytes * i)))) middle
    → Puts middle (bytes_of (edit (place (get_or frame 0 0) (get_or frame 1 0) p))) after
    → Puts before (gather (k + 1) (λ i. bytes_of (packed_command file (frame_bytes * i)))) after
unfolding packed_command
puts_frame {middle = middle} {after} file k frame p is same so_far one =
    puts_next (λ i. bytes_of (packed_command file (frame_bytes * i))) k so_far
    (subst (λ (c : Command). Puts middle (bytes_of c) after)
    (ap (λ (q : Pose). edit (place (get_or frame 0 0) (get_or frame 1 0) q)) same ∙ ap (λ (l : List ℕ). packed_command l 0) is ∙ packed_command-frame file (frame_bytes * k))
    one)

-- ---- the checks

pub frames-broken : (bytes lent : ℕ) → (bytes % frame_bytes ≡ 0 → ⊥) → frames_refusal bytes lent ≡ Some BrokenFrame
unfolding frames_refusal refuse_if first_of
frames-broken bytes lent h = rw (ne_eqb (bytes % frame_bytes) 0 h)

pub frames_many : (bytes lent : ℕ) → bytes % frame_bytes ≡ 0 → max_frames < bytes / frame_bytes → frames_refusal bytes lent ≡ Some TooManyFrames
unfolding frames_refusal refuse_if first_of
frames_many bytes lent h k = rw (eq-eqb (bytes % frame_bytes) 0 h, lt-ltb max_frames (bytes / frame_bytes) k)

pub frames_wrong : (bytes lent : ℕ) → bytes % frame_bytes ≡ 0 → bytes / frame_bytes ≤ max_frames → (lent ≡ pose_width * (bytes / frame_bytes) → ⊥) → frames_refusal bytes lent ≡ Some WrongLength
unfolding frames_refusal refuse_if first_of
frames_wrong bytes lent h k l =
    rw (eq-eqb (bytes % frame_bytes) 0 h, le-ltb max_frames (bytes / frame_bytes) k, ne_eqb lent (pose_width * (bytes / frame_bytes)) l)

pub frames_pass : (bytes lent : ℕ) → bytes % frame_bytes ≡ 0 → bytes / frame_bytes ≤ max_frames → lent ≡ pose_width * (bytes / frame_bytes) → frames_refusal bytes lent ≡ None
unfolding frames_refusal refuse_if first_of
frames_pass bytes lent h k l =
    rw (eq-eqb (bytes % frame_bytes) 0 h, le-ltb max_frames (bytes / frame_bytes) k, eq-eqb lent (pose_width * (bytes / frame_bytes)) l)

-- What passes has whole frames, not too many, and an answer of their length.
pub record Passes (bytes lent : ℕ) : Type 0 where
  pub whole : bytes % frame_bytes ≡ 0
  pub few : bytes / frame_bytes ≤ max_frames
  pub exact : lent ≡ pose_width * (bytes / frame_bytes)

pub frames_passed : (bytes lent : ℕ) → frames_refusal bytes lent ≡ None → Passes bytes lent
frames_passed bytes lent e = go (ℕ_discrete (bytes % frame_bytes) 0) (dec_le (bytes / frame_bytes) max_frames) (ℕ_discrete lent (pose_width * (bytes / frame_bytes)))
  where
    never : (r : Refusal) → frames_refusal bytes lent ≡ Some r → ⊥
    never r f = let z : ◌≡◌ {A = ℕ} 0 1 = cc in omega arith

    go : Dec (bytes % frame_bytes ≡ 0) → Dec (bytes / frame_bytes ≤ max_frames) → Dec (lent ≡ pose_width * (bytes / frame_bytes)) → Passes bytes lent
    go (no h) k l = absurd (never BrokenFrame (frames-broken bytes lent h))
    go (yes h) (no k) l = absurd (never TooManyFrames (frames_many bytes lent h (omega arith)))
    go (yes h) (yes k) (no l) = absurd (never WrongLength (frames_wrong bytes lent h k l))
    go (yes h) (yes k) (yes l) = record { whole = h; few = k; exact = l }

-- What is refused names nothing.
pub frames-plain : (bytes lent : ℕ) (q : Refusal) → frames_refusal bytes lent ≡ Some q → detail_of q ≡ 0
frames-plain bytes lent q e = go (ℕ_discrete (bytes % frame_bytes) 0) (dec_le (bytes / frame_bytes) max_frames) (ℕ_discrete lent (pose_width * (bytes / frame_bytes)))
  where
    is : (r : Refusal) → frames_refusal bytes lent ≡ Some r → r ≡ q
    is r f = cc

    go : Dec (bytes % frame_bytes ≡ 0) → Dec (bytes / frame_bytes ≤ max_frames) → Dec (lent ≡ pose_width * (bytes / frame_bytes)) → detail_of q ≡ 0
    go (no h) k l = ap detail_of (sym (is BrokenFrame (frames-broken bytes lent h)))
    go (yes h) (no k) l = ap detail_of (sym (is TooManyFrames (frames_many bytes lent h (omega arith))))
    go (yes h) (yes k) (no l) = ap detail_of (sym (is WrongLength (frames_wrong bytes lent h k l)))
    go (yes h) (yes k) (yes l) = let z : ◌≡◌ {A = ℕ} 0 1 = cc (frames_pass bytes lent h k l) in absurd (omega arith)

-- ---- what the entry comes to

module _ (bytes lent : List ℕ) where
  pub import_refused : (r : Refusal) → frames_refusal (length bytes) (length lent) ≡ Some r → (imported_of bytes lent ≡ Err r) × (import_leaves bytes lent ≡ lent)
  unfolding imported_of imported_by import_leaves left_by
  import_refused r e = (ap (λ (o : Option Refusal). imported_by o (frames_in bytes)) e, ap (λ (o : Option Refusal). left_by o lent (command_bytes bytes)) e)

  pub import_passed : frames_refusal (length bytes) (length lent) ≡ None → (imported_of bytes lent ≡ Ok (frames_in bytes)) × (import_leaves bytes lent ≡ command_bytes bytes)
  unfolding imported_of imported_by import_leaves left_by
  import_passed e = (ap (λ (o : Option Refusal). imported_by o (frames_in bytes)) e, ap (λ (o : Option Refusal). left_by o lent (command_bytes bytes)) e)

-- ---- lengths in place of others

-- Two lengths beyond what passes, with the same rest.
alike-long : (a b lent : ℕ) → a % frame_bytes ≡ b % frame_bytes → max_bytes < a → max_bytes < b → frames_refusal a lent ≡ frames_refusal b lent
alike-long a b lent rest la lb = go (ℕ_discrete (b % frame_bytes) 0)
  where
    many : (n : ℕ) → n % frame_bytes ≡ 0 → max_bytes < n → max_frames < n / frame_bytes
    many n e l = omega arith

    go : Dec (b % frame_bytes ≡ 0) → frames_refusal a lent ≡ frames_refusal b lent
    go (yes h) = frames_many a lent (rest ∙ h) (many a (rest ∙ h) la) ∙ sym (frames_many b lent h (many b h lb))
    go (no h) = frames-broken a lent (λ e. h (sym rest ∙ e)) ∙ sym (frames-broken b lent h)

pub shortened_alike : (n : ℕ) → max_bytes < n → RefusedAlike (max_bytes + frame_bytes + n % frame_bytes) n
shortened_alike n h more lent =
    alike-long (max_bytes + frame_bytes + n % frame_bytes + more) (n + more) lent (omega arith) (omega arith) (omega arith)

pub alike_self : (n : ℕ) → RefusedAlike n n
alike_self n more lent = refl

pub alike_more : (a b got : ℕ) → RefusedAlike a b → RefusedAlike (a + got) (b + got)
alike_more a b got h more lent =
    ap (λ (n : ℕ). frames_refusal n lent) (add_assoc a got more) ∙ h (got + more) lent ∙ ap (λ (n : ℕ). frames_refusal n lent) (sym (add_assoc b got more))

pub alike_through : (a b c : ℕ) → RefusedAlike a b → RefusedAlike b c → RefusedAlike a c
alike_through a b c h k more lent = h more lent ∙ k more lent
