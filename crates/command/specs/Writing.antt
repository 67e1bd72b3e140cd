-- Commands as bytes, the other direction of `parse`, by document 01: "A command is one byte followed by operands of fixed widths. Floats are the 64 bits
-- of an IEEE 754 double, low byte first." Rests on the commands of `Command`.
use Rattle.std.specs.Prelude.{ℕ, zero, suc, ◌/◌, ◌%◌, ◌<◌, List, [], ◌∷◌, ◌++◌, T, Float}
use Rattle.std.specs.Float.{binary64}
use Rattle.std.specs.Float.Ieee.{to_bits, fits}
use Rattle.arithmetic.specs.declared.pose.Pose.{Pose}
use Rattle.command.specs.Command.{size, place, withdraw, Command, edit, solve, size_byte, pose_byte, solve_byte, withdraw_byte}

-- So many bytes of a number, low byte first.
unfoldable pub low_bytes : ℕ → ℕ → List ℕ
low_bytes zero n = []
low_bytes (suc k) n = n % 256 ∷ low_bytes k (n / 256)

unfoldable pub double_bytes : Float → List ℕ
unfolding low_bytes
double_bytes x = low_bytes 8 (to_bits binary64 x)

-- Translation, then rotation in the order i, j, k, w.
unfoldable pub pose_bytes_of : Pose → List ℕ
unfolding double_bytes
pose_bytes_of p =
    let t = p.translation in
    let q = p.rotation in
    double_bytes t.x
    ++ (double_bytes t.y
    ++ (double_bytes t.z ++ (double_bytes q.i ++ (double_bytes q.j ++ (double_bytes q.k ++ double_bytes q.w)))))

unfoldable pub bytes_of : Command → List ℕ
unfolding pose_bytes_of
bytes_of (edit (size views cameras reference)) = size_byte ∷ views ∷ cameras ∷ reference ∷ []
bytes_of (edit (place view camera p)) = pose_byte ∷ view ∷ camera ∷ pose_bytes_of p
bytes_of (edit (withdraw view camera)) = withdraw_byte ∷ view ∷ camera ∷ []
bytes_of solve = solve_byte ∷ []

-- Seven numbers that are doubles.
pub record Doubles (p : Pose) : Type 0 where
  pub double_x : T (fits binary64 p.translation.x)
  pub double_y : T (fits binary64 p.translation.y)
  pub double_z : T (fits binary64 p.translation.z)
  pub double_i : T (fits binary64 p.rotation.i)
  pub double_j : T (fits binary64 p.rotation.j)
  pub double_k : T (fits binary64 p.rotation.k)
  pub double_w : T (fits binary64 p.rotation.w)

-- A command whose numbers are doubles: those of a Pose.
abbrev pub OfDoubles : Command → Type 0
OfDoubles (edit (size views cameras reference)) = Unit {0}
OfDoubles (edit (place view camera p)) = Doubles p
OfDoubles (edit (withdraw view camera)) = Unit {0}
OfDoubles solve = Unit {0}

-- A command whose operands of one byte are bytes.
abbrev pub OfBytes : Command → Type 0
OfBytes (edit (size views cameras reference)) = (views < 256) × (cameras < 256) × (reference < 256)
OfBytes (edit (place view camera p)) = (view < 256) × (camera < 256)
OfBytes (edit (withdraw view camera)) = (view < 256) × (camera < 256)
OfBytes solve = Unit {0}
