-- What is parsed is framed, and is the command that its bytes are: so a command that is parsed lies within the stream (`parse-complete`), and is told by
-- its own bytes wherever they stand (`parse-drop`, `parse_own`). Then each command by its first byte and the bytes behind it. Assumes nothing.
use Prim.Native.Nat.{ℕ, ◌+◌, ◌≤◌, ◌<◌}
use native.Mathlib.Nat.{add_assoc}
use native.Mathlib.Omega.{arith}
use mathlib.Core.Path.{◌≡◌, refl, sym, ap, subst, ◌∙◌}
use mathlib.Core.Bool.{Bool, true, false, cond}
use Rattle.std.specs.Prelude.{Option, None, Some}
use mathlib.Core.List.{List}
use lib.ListN.{length, get_or, take, drop, length-take, length-drop}
use lib.Seq.{drop-drop, ext_get_or}
use lib.Dec.{eqb}
use borrow.Author.Tests.{le-leb, lt-leb}
use Rattle.command.specs.Framing.{Framed, whole, short, foreign, frame, framed_by, framed, SomeByte}
use Rattle.command.specs.Command.{Command, edit, solve, size_byte, pose_byte, solve_byte, withdraw_byte, size_width, pose_width, solve_width, withdraw_width, word_at, double_at, offered_pose, width_of, decode, command_at, complete, broken, unknown, decoded, parse}
use Rattle.command.specs.Inner.Parts.{size_at, place_at, withdraw_at, byte_of, kind_width, command_of}
use Rattle.command.specs.declared.parse.Kind.{Kind}
use Rattle.command.specs.declared.parse.Kind.TheVariants.{Size, Pose, Solve, Withdraw}
use Rattle.command.proofs.Words.{get_or-part}
use Rattle.command.proofs.Framing.{framed-whole, framed-drop, framed_own}

-- Every command of the table takes a byte or more.
pub width_of_some : SomeByte width_of
unfolding width_of
width_of_some byte w e =
    entry (eqb byte size_byte) size_width _ (omega arith)
    (entry (eqb byte pose_byte) pose_width _ (omega arith)
    (entry (eqb byte solve_byte) solve_width _ (omega arith)
    (entry (eqb byte withdraw_byte) withdraw_width None (omega arith) (λ f. absurd (let z : ◌≡◌ {A = ℕ} 0 1 = cc in omega arith))))) e
  where
    -- One entry of the table, and the rest of it.
    entry : (b : Bool) (x : ℕ) (rest : Option ℕ) → 0 < x → (rest ≡ Some w → 0 < w) → cond b (Some x) rest ≡ Some w → 0 < w
    entry true x rest h later f = let same : x ≡ w = cc in omega arith
    entry false x rest h later f = later f

-- ---- by the framing

module _ (stream : List ℕ) (at : ℕ) where
  pub parse-framed : (f : Framed) → framed width_of stream at ≡ f → parse stream at ≡ decoded stream at f
  unfolding parse
  parse-framed f e = ap (decoded stream at) e

  -- What is parsed as a command is whole, and it is the one that its bytes are.
  pub framed-complete : (command : Command) (w : ℕ) → parse stream at ≡ complete command w
      → (framed width_of stream at ≡ whole w) × (command_at stream (frame at w) ≡ command)
  unfolding parse decoded
  framed-complete command w e = go (framed width_of stream at) e
    where
      go : (f : Framed) → decoded stream at f ≡ complete command w → (f ≡ whole w) × (command_at stream (frame at w) ≡ command)
      go (whole v) h =
          let same : v ≡ w = cc in
          (cc, subst (λ (n : ℕ). command_at stream (frame at n) ≡ command) same cc)
      go short h = absurd (let z : ◌≡◌ {A = ℕ} 0 1 = cc in omega arith)
      go (foreign byte) h = absurd (let z : ◌≡◌ {A = ℕ} 0 1 = cc in omega arith)

  -- A command takes a byte or more, and ends where the stream does or before.
  pub parse-complete : (command : Command) (w : ℕ) → parse stream at ≡ complete command w → (0 < w) × (at + w ≤ length stream)
  parse-complete command w e = framed-whole width_of width_of_some stream at w (framed-complete command w e).0

-- ---- by a command's own bytes

pub parse-drop : (n : ℕ) (stream : List ℕ) (at : ℕ) → n ≤ length stream → parse (drop n stream) at ≡ parse stream (n + at)
unfolding parse decoded command_at
parse-drop n stream at h =
    ap (decoded (drop n stream) at) (framed-drop width_of n stream at h)
    ∙ go (framed width_of stream (n + at))
  where
    go : (f : Framed) → decoded (drop n stream) at f ≡ decoded stream (n + at) f
    go (whole w) = ap (λ (l : List ℕ). complete (decode (take w l)) w) (drop-drop at n stream)
    go short = refl
    go (foreign byte) = refl

-- A stream that has the command's bytes at the same offset holds the same command there.
pub parse_own : (stream stream' : List ℕ) (at : ℕ) (command : Command) (width : ℕ) → parse stream at ≡ complete command width
    → ((i : ℕ) → i < at + width → get_or stream' i 0 ≡ get_or stream i 0) → at + width ≤ length stream' → parse stream' at ≡ complete command width
unfolding decoded command_at
parse_own stream stream' at command width e same fits =
    parse-framed stream' at (whole width) (framed_own width_of stream stream' at width found.0 (same at (omega (arith, inside.0))) fits)
    ∙ ap (λ (l : List ℕ). complete (decode l) width) own
    ∙ ap (λ (c : Command). complete c width) found.1
  where
    found : (framed width_of stream at ≡ whole width) × (command_at stream (frame at width) ≡ command)
    found = framed-complete stream at command width e

    inside : (0 < width) × (at + width ≤ length stream)
    inside = parse-complete stream at command width e

    lengths : (l : List ℕ) → at + width ≤ length l → length (take width (drop at l)) ≡ width
    lengths l h = simp (length-take, length-drop) (omega arith)

    own : take width (drop at stream') ≡ take width (drop at stream)
    own =
        ext_get_or 0 _ _ (lengths stream' fits ∙ sym (lengths stream inside.1))
        (λ i l. let h : i < width = omega (arith, lengths stream' fits) in get_or-part stream' at width i h ∙ same (at + i) (omega arith) ∙ sym (get_or-part stream at width i h))

-- ---- the bytes of a command, where they stand in the stream

module _ (stream : List ℕ) (at w : ℕ) where
  abbrev own : List ℕ
  own = take w (drop at stream)

  own_byte : (i : ℕ) → i < w → get_or own i 0 ≡ get_or stream (at + i) 0
  own_byte = get_or-part stream at w

  own_first : 0 < w → get_or own 0 0 ≡ get_or stream at 0
  own_first h = own_byte 0 h ∙ ap (λ (i : ℕ). get_or stream i 0) (omega arith)

  own_double : (k i : ℕ) → k + 8 ≤ w → i ≡ at + k → double_at own k ≡ double_at stream i
  unfolding double_at word_at
  own_double k i h e =
      rw (
        own_byte k (omega arith),
        own_byte (k + 1) (omega arith),
        own_byte (k + 2) (omega arith),
        own_byte (k + 3) (omega arith),
        own_byte (k + 4) (omega arith),
        own_byte (k + 5) (omega arith),
        own_byte (k + 6) (omega arith),
        own_byte (k + 7) (omega arith),
        e,
      )
      (simp add_assoc)

  own_pose : pose_width ≤ w → offered_pose own 3 ≡ offered_pose stream (at + 3)
  unfolding offered_pose
  own_pose h =
      rw (
        own_double 3 (at + 3) (omega arith) refl,
        own_double 11 (at + 3 + 8) (omega arith) (omega arith),
        own_double 19 (at + 3 + 16) (omega arith) (omega arith),
        own_double 27 (at + 3 + 24) (omega arith) (omega arith),
        own_double 35 (at + 3 + 32) (omega arith) (omega arith),
        own_double 43 (at + 3 + 40) (omega arith) (omega arith),
        own_double 51 (at + 3 + 48) (omega arith) (omega arith),
      )
      refl

-- ---- what stands at an offset, by the width of its first byte

module _ (stream : List ℕ) (at : ℕ) where
  abbrev byte : ℕ
  byte = get_or stream at 0

  pub parse-foreign : width_of byte ≡ None → parse stream at ≡ unknown byte
  unfolding framed framed_by decoded
  parse-foreign e = parse-framed stream at (foreign byte) (ap (framed_by stream at) e)

  pub parse-short : (w : ℕ) → width_of byte ≡ Some w → length stream < at + w → parse stream at ≡ broken
  unfolding framed framed_by decoded
  parse-short w e cut =
      parse-framed stream at short (ap (framed_by stream at) e ∙ ap (λ (b : Bool). cond b (whole w) short) (lt-leb (at + w) (length stream) cut))

  parse-whole : (w : ℕ) → width_of byte ≡ Some w → at + w ≤ length stream → parse stream at ≡ complete (command_at stream (frame at w)) w
  unfolding framed framed_by decoded
  parse-whole w e room =
      parse-framed stream at (whole w) (ap (framed_by stream at) e ∙ ap (λ (b : Bool). cond b (whole w) short) (le-leb (at + w) (length stream) room))

  pub parse-size : byte ≡ size_byte → at + size_width ≤ length stream → parse stream at ≡ complete (edit (size_at stream at)) size_width
  unfolding width_of command_at decode
  parse-size e room =
      parse-whole size_width (rw e refl) room
      ∙ ap (λ (c : Command). complete c size_width)
      (rw (
        own_first stream at size_width (omega arith),
        e,
        own_byte stream at size_width 1 (omega arith),
        own_byte stream at size_width 2 (omega arith),
        own_byte stream at size_width 3 (omega arith),
      ) refl)

  pub parse-place : byte ≡ pose_byte → at + pose_width ≤ length stream → parse stream at ≡ complete (edit (place_at stream at)) pose_width
  unfolding width_of command_at decode
  parse-place e room =
      parse-whole pose_width (rw e refl) room
      ∙ ap (λ (c : Command). complete c pose_width)
      (rw (
        own_first stream at pose_width (omega arith),
        e,
        own_byte stream at pose_width 1 (omega arith),
        own_byte stream at pose_width 2 (omega arith),
        own_pose stream at pose_width (omega arith),
      ) refl)

  pub parse-withdraw : byte ≡ withdraw_byte → at + withdraw_width ≤ length stream → parse stream at ≡ complete (edit (withdraw_at stream at)) withdraw_width
  unfolding width_of command_at decode
  parse-withdraw e room =
      parse-whole withdraw_width (rw e refl) room
      ∙ ap (λ (c : Command). complete c withdraw_width)
      (rw (
        own_first stream at withdraw_width (omega arith),
        e,
        own_byte stream at withdraw_width 1 (omega arith),
        own_byte stream at withdraw_width 2 (omega arith),
      ) refl)

  pub parse-solve : byte ≡ solve_byte → at + solve_width ≤ length stream → parse stream at ≡ complete solve solve_width
  unfolding width_of command_at decode
  parse-solve e room =
      parse-whole solve_width (rw e refl) room
      ∙ ap (λ (c : Command). complete c solve_width) (rw (own_first stream at solve_width (omega arith), e) refl)

  -- By its kind.
  pub parse_by_kind : (kind : Kind) → byte ≡ byte_of kind → at + kind_width kind ≤ length stream
      → parse stream at ≡ complete (command_of kind stream at) (kind_width kind)
  parse_by_kind Size = parse-size
  parse_by_kind Pose = parse-place
  parse_by_kind Solve = parse-solve
  parse_by_kind Withdraw = parse-withdraw
