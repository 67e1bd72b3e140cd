-- The bytes of a command are read back as that command (`parse_bytes_of`): eight bytes, low byte first, are the number they were made from, and a
-- double is the one with its own bits (`double_back`). Where the operands are bytes, all are (`bytes_of_below`), and the other way about
-- (`command_at-bytes`). Assumes nothing.
use Prim.Native.Nat.{ℕ, zero, suc, ◌/◌, ◌%◌, ◌<◌}
use native.Mathlib.Decide.{dec_lt}
use native.Mathlib.Omega.{arith}
use mathlib.Core.Path.{◌≡◌, refl, sym, ap, subst, ◌∙◌}
use mathlib.Core.Bool.{Bool, true, false, cond}
use mathlib.Core.List.{List, [], ◌∷◌, ◌++◌}
use lib.ListN.{length, get_or, take, drop, length-append, get_or-eq_default}
use lib.Dec.{T, eqb}
use lib.Ieee.{Float, binary64, to_bits, fits}
use lib.Ieee.Bits.{of_bits-to_bits, to_bits-lt}
use borrow.Author.Rules.{rules}
use Rattle.std.specs.List.{All, flat_map}
use Rattle.std.proofs.lemmas.List.Elements.{All-nil, All-cons, All-append, All-take, All-drop, All-from_get_or}
use Rattle.arithmetic.specs.Pose.{flat}
use Rattle.std.proofs.lemmas.Nat.{from_le_bytes-to_le_bytes_8}
use Rattle.arithmetic.specs.declared.pose.Pose.{Pose}
use Rattle.command.specs.Framing.{frame}
use Rattle.command.specs.Command.{size, place, withdraw, Command, edit, solve, size_byte, pose_byte, withdraw_byte, word_at, double_at, offered_pose, width_of, decode, command_at, complete, parse}
use Rattle.command.specs.Writing.{low_bytes, double_bytes, pose_bytes_of, bytes_of, Doubles, OfDoubles, OfBytes}
use Rattle.command.proofs.LowBytes.{double_bytes_is, pose_bytes_of-flat}
use Rattle.command.proofs.Words.{word_at_is}
use Rattle.command.proofs.Decoding.{parse-size, parse-place, parse-withdraw, parse-solve}

-- ---- words

-- A double is read back from its bytes.
double_back : (x : Float) → T (fits binary64 x) → double_at (double_bytes x) 0 ≡ x
unfolding double_at
double_back x h =
    rw (double_bytes_is x, word_at_is, from_le_bytes-to_le_bytes_8 (to_bits binary64 x) (to_bits-lt binary64 x h)) (of_bits-to_bits binary64 x h)

-- ---- commands

module _ (rest : List ℕ) where
  module _ (view camera : ℕ) (p : Pose) (doubles : Doubles p) where
    abbrev stream : List ℕ
    stream = bytes_of (edit (place view camera p)) ++ rest

    offered_bytes : offered_pose stream 3 ≡ p
    unfolding offered_pose double_at word_at bytes_of pose_bytes_of double_bytes low_bytes
    offered_bytes =
        rw (
          double_back p.translation.x doubles.double_x,
          double_back p.translation.y doubles.double_y,
          double_back p.translation.z doubles.double_z,
          double_back p.rotation.i doubles.double_i,
          double_back p.rotation.j doubles.double_j,
          double_back p.rotation.k doubles.double_k,
          double_back p.rotation.w doubles.double_w,
        )
        refl

  pub parse_bytes_of : (command : Command) → OfDoubles command → parse (bytes_of command ++ rest) 0 ≡ complete command (length (bytes_of command))
  unfolding bytes_of pose_bytes_of double_bytes low_bytes width_of
  parse_bytes_of (edit (size v c r)) h = parse-size (bytes_of (edit (size v c r)) ++ rest) 0 refl (rw (length-append (bytes_of (edit (size v c r))) rest) (omega arith))
  parse_bytes_of (edit (place v c p)) h =
      parse-place (bytes_of (edit (place v c p)) ++ rest) 0 refl (rw (length-append (bytes_of (edit (place v c p))) rest) (omega arith))
      ∙ ap (λ (q : Pose). complete (edit (place v c q)) 59) (offered_bytes v c p h)
  parse_bytes_of (edit (withdraw v c)) h = parse-withdraw (bytes_of (edit (withdraw v c)) ++ rest) 0 refl (rw (length-append (bytes_of (edit (withdraw v c))) rest) (omega arith))
  parse_bytes_of solve h = parse-solve (bytes_of solve ++ rest) 0 refl (rw (length-append (bytes_of solve) rest) (omega arith))

-- ---- every byte is one

abbrev IsByte : ℕ → Type 0
IsByte b = b < 256

-- Past the end stands 0.
IsByte-get_or : (bytes : List ℕ) → All IsByte bytes → (i : ℕ) → IsByte (get_or bytes i 0)
IsByte-get_or bytes all i = go (dec_lt i (length bytes))
  where
    go : Dec (i < length bytes) → IsByte (get_or bytes i 0)
    go (yes h) = all i 0 h
    go (no h) = rw (get_or-eq_default bytes 0 {n = i} (omega arith)) (omega arith)

low_bytes_below : (k n : ℕ) → All IsByte (low_bytes k n)
unfolding low_bytes
low_bytes_below zero n = All-nil IsByte
low_bytes_below (suc k) n = All-cons IsByte (n % 256) (low_bytes k (n / 256)) (omega arith) (low_bytes_below k (n / 256))

doubles_below : (numbers : List Float) → All IsByte (flat_map double_bytes numbers)
unfolding double_bytes
doubles_below [] = All-nil IsByte
doubles_below (x ∷ numbers) =
    All-append IsByte (double_bytes x) (flat_map double_bytes numbers) (low_bytes_below 8 (to_bits binary64 x)) (doubles_below numbers)

command_below : (command : Command) → OfBytes command → All IsByte (bytes_of command)
unfolding bytes_of
command_below (edit (size v c r)) h = search (rules, All-cons, All-nil)
command_below (edit (place v c p)) h =
    let pose = subst (All IsByte) (sym (pose_bytes_of-flat p)) (doubles_below (flat p)) in
    search (rules, All-cons)
command_below (edit (withdraw v c)) h = search (rules, All-cons, All-nil)
command_below solve h = search (rules, All-cons, All-nil)

pub bytes_of_below : (command : Command) → OfBytes command → (i : ℕ) → get_or (bytes_of command) i 0 < 256
bytes_of_below command h = IsByte-get_or (bytes_of command) (command_below command h)

-- ---- and what is read from bytes names bytes

decode-bytes : (l : List ℕ) → ((i : ℕ) → get_or l i 0 < 256) → OfBytes (decode l)
unfolding decode
decode-bytes l bytes =
    either (eqb (get_or l 0 0) size_byte) _ _ (bytes 1, bytes 2, bytes 3)
    (either (eqb (get_or l 0 0) pose_byte) _ _ (bytes 1, bytes 2) (either (eqb (get_or l 0 0) withdraw_byte) _ _ (bytes 1, bytes 2) tt))
  where
    either : (b : Bool) (command other : Command) → OfBytes command → OfBytes other → OfBytes (cond b command other)
    either true command other h k = h
    either false command other h k = k

pub command_at-bytes : (stream : List ℕ) → ((i : ℕ) → get_or stream i 0 < 256) → (at w : ℕ) → OfBytes (command_at stream (frame at w))
unfolding command_at
command_at-bytes stream bytes at w =
    decode-bytes (take w (drop at stream))
    (IsByte-get_or _ (All-take IsByte w (drop at stream) (All-drop IsByte at stream (All-from_get_or IsByte stream 0 (λ i h. bytes i)))))
