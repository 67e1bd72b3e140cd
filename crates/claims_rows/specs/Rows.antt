-- Streams beside the texts that are printed for them, as bytes: rows for every refusal that a stream can meet and for each rule of their order, by
-- document 01, "A stream arrives", the table of refusals and the order below it, and document 02. The texts are worked out by hand from the documents. Where a rig is
-- solved there are no turns, so that a link is the parent's shift less the camera's, and a target the camera's shift and the pose's together; the
-- signs of zeros there are as `samples/oracle.py` prints them. Limits and lengths are written as numbers, not by the names that the definitions use.
-- Rests on the state of a session.
use Rattle.std.specs.Prelude.{ℕ, List, [], ◌∷◌, ◌++◌, map, replicate}
use Prim.Native.Char.{code}
use Prim.Native.String.{String}
use Prim.Native.String as text
use Rattle.std.specs.Float.{binary64}
use Rattle.std.specs.Float.Ieee.{of_bits}
use Rattle.session_commands.specs.Obeyed.{State, state}
use Rattle.session.specs.Call.{call}
use Rattle.claims_streams.specs.Stream.{meaning}
use Rattle.listing.specs.Listing.{printed_by}
use Rattle.claims_printing.specs.Printed.{printed, fresh_state}
use Rattle.claims_summary_rows.specs.Rows.{table}

-- ---- a row: a state, and a stream from it, step by step

-- Some bytes of a stream, and the lines that are printed for them, each without the newline that ends it.
pub record Step : Type 0 where
  pub bytes : List ℕ
  pub lines : List String

abbrev prints : List ℕ → List String → Step
prints b l = record { bytes = b; lines = l }

pub record Row : Type 0 where
  pub before : State
  pub steps : List Step

unfoldable pub stream_of : List Step → List ℕ
stream_of [] = []
stream_of (s ∷ later) = s.bytes ++ stream_of later

-- "each line ends in a newline (byte 10)"
unfoldable pub line_bytes : String → List ℕ
line_bytes text.[] = 10 ∷ []
line_bytes (text.◌∷◌ c s) = code c ∷ line_bytes s

unfoldable pub lines_bytes : List String → List ℕ
unfolding line_bytes
lines_bytes [] = []
lines_bytes (l ∷ later) = line_bytes l ++ lines_bytes later

unfoldable pub text_of : List Step → List ℕ
unfolding lines_bytes
text_of [] = []
text_of (s ∷ later) = lines_bytes s.lines ++ text_of later

-- What is printed for each row's stream, by what the stream means; and what the rows say.
unfoldable pub all_printed : List Row → List (List ℕ)
unfolding printed meaning stream_of
all_printed [] = []
all_printed (r ∷ later) = printed (meaning r.before (stream_of r.steps)) ∷ all_printed later

unfoldable pub all_texts : List Row → List (List ℕ)
unfolding text_of
all_texts [] = []
all_texts (r ∷ later) = text_of r.steps ∷ all_texts later

-- From what `rig` begins with; from a session without sizes, with a buffer and answers of those lengths; and from a record of these masks, this
-- summary, sizes and reference, with doubles of these bits in the buffer.
abbrev fresh : List Step → Row
fresh steps = record { before = fresh_state; steps = steps }

abbrev lent : ℕ → ℕ → ℕ → List Step → Row
lent buffer first second steps =
    record {
      before =
          state (record { masks = replicate 16 0; views = 0; cameras = 0; reference = 0; shared = replicate 256 0 })
          (replicate buffer (of_bits binary64 0))
          (replicate first (of_bits binary64 0))
          (replicate second 0);
      steps = steps;
    }

abbrev held : List ℕ → List ℕ → List ℕ → ℕ → ℕ → ℕ → List Step → Row
held numbers masks shared views cameras reference steps =
    record {
      before =
          state (record { masks = masks; views = views; cameras = cameras; reference = reference; shared = shared })
          (map (of_bits binary64) numbers)
          (replicate 560 (of_bits binary64 0))
          (replicate 32 0);
      steps = steps;
    }

-- ---- the bytes of commands, by "0x01 Size", "0x02 Pose", "0x03 Solve" and "Command 0x04, with view and camera bytes"

abbrev size : ℕ → ℕ → ℕ → List ℕ
size views cameras reference = 1 ∷ views ∷ cameras ∷ reference ∷ []

abbrev pose : ℕ → ℕ → List ℕ → List ℕ → List ℕ → List ℕ → List ℕ → List ℕ → List ℕ → List ℕ
pose view camera x y z i j k w = 2 ∷ view ∷ camera ∷ (x ++ (y ++ (z ++ (i ++ (j ++ (k ++ w))))))

abbrev solve : List ℕ
solve = 3 ∷ []

abbrev withdraw : ℕ → ℕ → List ℕ
withdraw view camera = 4 ∷ view ∷ camera ∷ []

-- Doubles, low byte first: 0, 1, 2; infinity, its negative, a NaN; the greatest finite one, its negative; the nearest below 0.
abbrev nought : List ℕ
nought = 0 ∷ 0 ∷ 0 ∷ 0 ∷ 0 ∷ 0 ∷ 0 ∷ 0 ∷ []

abbrev one : List ℕ
one = 0 ∷ 0 ∷ 0 ∷ 0 ∷ 0 ∷ 0 ∷ 240 ∷ 63 ∷ []

abbrev two : List ℕ
two = 0 ∷ 0 ∷ 0 ∷ 0 ∷ 0 ∷ 0 ∷ 0 ∷ 64 ∷ []

abbrev infinity : List ℕ
infinity = 0 ∷ 0 ∷ 0 ∷ 0 ∷ 0 ∷ 0 ∷ 240 ∷ 127 ∷ []

abbrev below_all : List ℕ
below_all = 0 ∷ 0 ∷ 0 ∷ 0 ∷ 0 ∷ 0 ∷ 240 ∷ 255 ∷ []

abbrev not_a_number : List ℕ
not_a_number = 0 ∷ 0 ∷ 0 ∷ 0 ∷ 0 ∷ 0 ∷ 248 ∷ 127 ∷ []

-- NaNs of other bits: the one that 0/0 gives on x86-64, the least, and all bits set.
abbrev negative_na_n : List ℕ
negative_na_n = 0 ∷ 0 ∷ 0 ∷ 0 ∷ 0 ∷ 0 ∷ 248 ∷ 255 ∷ []

abbrev least_na_n : List ℕ
least_na_n = 1 ∷ 0 ∷ 0 ∷ 0 ∷ 0 ∷ 0 ∷ 240 ∷ 127 ∷ []

abbrev full_na_n : List ℕ
full_na_n = 255 ∷ 255 ∷ 255 ∷ 255 ∷ 255 ∷ 255 ∷ 255 ∷ 255 ∷ []

abbrev greatest : List ℕ
greatest = 255 ∷ 255 ∷ 255 ∷ 255 ∷ 255 ∷ 255 ∷ 239 ∷ 127 ∷ []

abbrev minus_greatest : List ℕ
minus_greatest = 255 ∷ 255 ∷ 255 ∷ 255 ∷ 255 ∷ 255 ∷ 239 ∷ 255 ∷ []

abbrev just_below_zero : List ℕ
just_below_zero = 1 ∷ 0 ∷ 0 ∷ 0 ∷ 0 ∷ 0 ∷ 0 ∷ 128 ∷ []

-- The double whose two high bytes are 64 and n: 2 + n/8 for n below 16, 4 + (n − 16)/4 below 32, and 8 + (n − 32)/2 below 48.
abbrev notch : ℕ → List ℕ
notch n = 0 ∷ 0 ∷ 0 ∷ 0 ∷ 0 ∷ 0 ∷ n ∷ 64 ∷ []

-- A pose without a turn, at x, y and z.
abbrev shift : ℕ → ℕ → List ℕ → List ℕ → List ℕ → List ℕ
shift view camera x y z = pose view camera x y z nought nought nought one

-- Seven times the same number.
abbrev sevenfold : ℕ → ℕ → List ℕ → List ℕ
sevenfold view camera a = pose view camera a a a a a a a

-- ---- the rows

-- An empty stream prints nothing.
unfoldable pub empty_stream : Row
empty_stream = fresh []

-- 21: Pose, Withdraw and Solve before an accepted Size; 21 before 12, before 24 and before 7. A refused Size is none.
unfoldable pub before_size : Row
before_size =
    fresh
    (prints (shift 0 0 one nought nought) ("no 21 0" ∷ [])
    ∷ prints (sevenfold 64 16 infinity) ("no 21 0" ∷ [])
    ∷ prints (withdraw 0 0) ("no 21 0" ∷ [])
    ∷ prints (withdraw 64 16) ("no 21 0" ∷ [])
    ∷ prints solve ("no 21 0" ∷ [])
    ∷ prints (size 1 1 1) ("no 3 0" ∷ [])
    ∷ prints solve ("no 21 0" ∷ [])
    ∷ prints (shift 0 0 one nought nought) ("no 21 0" ∷ [])
    ∷ [])

-- 1, 2 and 3 of Size: "views for 1 then 2, cameras of view 0 for 1 then 2, then 3". Then 22, before 1, 2 and 3.
unfoldable pub sizes : Row
sizes =
    fresh
    (prints (size 0 1 0) ("no 1 0" ∷ [])
    ∷ prints (size 0 17 17) ("no 1 0" ∷ [])
    ∷ prints (size 65 1 0) ("no 2 0" ∷ [])
    ∷ prints (size 65 0 0) ("no 2 0" ∷ [])
    ∷ prints (size 255 1 1) ("no 2 0" ∷ [])
    ∷ prints (size 1 0 0) ("no 1 0" ∷ [])
    ∷ prints (size 1 17 0) ("no 2 0" ∷ [])
    ∷ prints (size 1 255 255) ("no 2 0" ∷ [])
    ∷ prints (size 2 3 3) ("no 3 0" ∷ [])
    ∷ prints (size 2 3 2) []
    ∷ prints (size 2 3 2) ("no 22 0" ∷ [])
    ∷ prints (size 0 1 0) ("no 22 0" ∷ [])
    ∷ prints (size 65 1 0) ("no 22 0" ∷ [])
    ∷ prints (size 1 1 1) ("no 22 0" ∷ [])
    ∷ [])

-- 64 views, 16 cameras and reference 15 are accepted, and so is a pose in the last cell; past it is 12. 12, 23 and 7 with their details there. The
-- cells beside it are still free, and then held. Cameras 14 and 15 share view 63.
unfoldable pub at_the_limits : Row
at_the_limits =
    fresh
    (prints (size 64 16 15) []
    ∷ prints (shift 63 15 one nought nought) []
    ∷ prints (shift 63 15 one nought nought) ("no 23 16143" ∷ [])
    ∷ prints (shift 64 15 one nought nought) ("no 12 16399" ∷ [])
    ∷ prints (shift 63 16 one nought nought) ("no 12 16144" ∷ [])
    ∷ prints (sevenfold 63 14 infinity) ("no 7 1022" ∷ [])
    ∷ prints (shift 63 14 one nought nought) []
    ∷ prints (shift 62 15 one nought nought) []
    ∷ prints (shift 63 15 one nought nought) ("no 23 16143" ∷ [])
    ∷ prints (shift 63 14 one nought nought) ("no 23 16142" ∷ [])
    ∷ prints (shift 62 15 one nought nought) ("no 23 15887" ∷ [])
    ∷ prints solve ("no 8 16383" ∷ [])
    ∷ [])

-- Pose: 12 before 7, 23 before 7; view × 256 + camera for 12 and 23, view × cameras + camera for 7. 22 leaves the sizes, and 7 the cell, as they were.
unfoldable pub poses_in_order : Row
poses_in_order =
    fresh
    (prints (size 2 3 0) []
    ∷ prints (size 4 5 0) ("no 22 0" ∷ [])
    ∷ prints (shift 2 0 one nought nought) ("no 12 512" ∷ [])
    ∷ prints (shift 0 3 one nought nought) ("no 12 3" ∷ [])
    ∷ prints (shift 255 255 one nought nought) ("no 12 65535" ∷ [])
    ∷ prints (sevenfold 2 1 infinity) ("no 12 513" ∷ [])
    ∷ prints (sevenfold 1 3 not_a_number) ("no 12 259" ∷ [])
    ∷ prints (sevenfold 1 2 infinity) ("no 7 5" ∷ [])
    ∷ prints (shift 1 2 one nought nought) []
    ∷ prints (shift 1 2 one nought nought) ("no 23 258" ∷ [])
    ∷ prints (sevenfold 1 2 not_a_number) ("no 23 258" ∷ [])
    ∷ prints (sevenfold 1 0 below_all) ("no 7 3" ∷ [])
    ∷ prints (shift 1 0 one nought nought) []
    ∷ prints (sevenfold 1 0 infinity) ("no 23 256" ∷ [])
    ∷ [])

-- Withdraw: 12 before 24, view × 256 + camera for both. It empties the cell that it names, once, and that cell alone; the cell then takes a pose again.
unfoldable pub withdraws_in_order : Row
withdraws_in_order =
    fresh
    (prints (size 2 3 0) []
    ∷ prints (withdraw 2 0) ("no 12 512" ∷ [])
    ∷ prints (withdraw 0 3) ("no 12 3" ∷ [])
    ∷ prints (withdraw 255 255) ("no 12 65535" ∷ [])
    ∷ prints (withdraw 1 2) ("no 24 258" ∷ [])
    ∷ prints (shift 1 2 one nought nought) []
    ∷ prints (shift 1 1 one nought nought) []
    ∷ prints (shift 0 2 one nought nought) []
    ∷ prints (withdraw 0 1) ("no 24 1" ∷ [])
    ∷ prints (withdraw 1 0) ("no 24 256" ∷ [])
    ∷ prints (withdraw 1 2) []
    ∷ prints (withdraw 1 2) ("no 24 258" ∷ [])
    ∷ prints (shift 1 1 one nought nought) ("no 23 257" ∷ [])
    ∷ prints (shift 0 2 one nought nought) ("no 23 2" ∷ [])
    ∷ prints (shift 1 2 one nought nought) []
    ∷ prints (shift 1 2 one nought nought) ("no 23 258" ∷ [])
    ∷ [])

-- Nothing but the one bit: the views above and below it are still held, and without any pose the sizes and the reference, camera 1, are what they were.
unfoldable pub sizes_stay : Row
sizes_stay =
    fresh
    (prints (size 3 2 1) []
    ∷ prints (shift 0 1 one nought nought) []
    ∷ prints (shift 1 1 one nought nought) []
    ∷ prints (shift 2 1 one nought nought) []
    ∷ prints (withdraw 1 1) []
    ∷ prints (shift 0 1 one nought nought) ("no 23 1" ∷ [])
    ∷ prints (shift 2 1 one nought nought) ("no 23 513" ∷ [])
    ∷ prints (withdraw 0 1) []
    ∷ prints (withdraw 0 1) ("no 24 1" ∷ [])
    ∷ prints (withdraw 2 1) []
    ∷ prints (size 1 1 0) ("no 22 0" ∷ [])
    ∷ prints solve ("no 8 1" ∷ [])
    ∷ prints (withdraw 3 0) ("no 12 768" ∷ [])
    ∷ prints (withdraw 0 2) ("no 12 2" ∷ [])
    ∷ prints (shift 2 1 one nought nought) []
    ∷ [])

-- The only link between cameras 0 and 1 on one side and 2 and 3 on the other, view 2, from either end; and the only pose of a view.
unfoldable pub link_withdrawn : Row
link_withdrawn =
    fresh
    (prints (size 3 4 0) []
    ∷ prints (shift 0 0 one nought nought) []
    ∷ prints (shift 0 1 one nought nought) []
    ∷ prints (shift 1 2 one nought nought) []
    ∷ prints (shift 1 3 one nought nought) []
    ∷ prints solve ("no 8 12" ∷ [])
    ∷ prints (shift 2 1 one nought nought) []
    ∷ prints (shift 2 2 one nought nought) []
    ∷ prints (withdraw 2 2) []
    ∷ prints solve ("no 8 12" ∷ [])
    ∷ prints (shift 2 2 one nought nought) []
    ∷ prints (withdraw 2 1) []
    ∷ prints solve ("no 8 12" ∷ [])
    ∷ prints (withdraw 2 2) []
    ∷ prints (shift 1 0 one nought nought) []
    ∷ prints solve ("no 9 2" ∷ [])
    ∷ [])

-- A bumped target: the pose of view 1 and camera 0 is wrong, is taken back, and is sent again. Each time as if the wrong one had never come: the texts are
-- those of `solved_again`.
unfoldable pub taken_back : Row
taken_back =
    fresh
    (prints (size 2 2 1) []
    ∷ prints (shift 0 0 one nought nought) []
    ∷ prints (sevenfold 1 0 greatest) []
    ∷ prints (shift 0 1 nought two nought) []
    ∷ prints (shift 1 1 nought nought one) []
    ∷ prints (withdraw 1 0) []
    ∷ prints solve
    ("ok 2 2"
    ∷ "c 0 1 1 bff0000000000000 4000000000000000 0000000000000000 0000000000000000 0000000000000000 0000000000000000 3ff0000000000000"
    ∷ "c 1 1 0 0000000000000000 0000000000000000 0000000000000000 0000000000000000 0000000000000000 0000000000000000 3ff0000000000000"
    ∷ "v 0 0000000000000000 4000000000000000 0000000000000000 0000000000000000 0000000000000000 0000000000000000 3ff0000000000000"
    ∷ "v 1 0000000000000000 0000000000000000 3ff0000000000000 0000000000000000 0000000000000000 0000000000000000 3ff0000000000000"
    ∷ [])
    ∷ prints (shift 1 0 one nought two) []
    ∷ prints solve
    ("ok 2 2"
    ∷ "c 0 1 1 bff0000000000000 3ff0000000000000 bfe0000000000000 0000000000000000 0000000000000000 0000000000000000 3ff0000000000000"
    ∷ "c 1 1 0 0000000000000000 0000000000000000 0000000000000000 0000000000000000 0000000000000000 0000000000000000 3ff0000000000000"
    ∷ "v 0 0000000000000000 3ff8000000000000 bfd0000000000000 0000000000000000 0000000000000000 0000000000000000 3ff0000000000000"
    ∷ "v 1 0000000000000000 3fe0000000000000 3ff4000000000000 0000000000000000 0000000000000000 0000000000000000 3ff0000000000000"
    ∷ [])
    ∷ [])

-- 7 for each of the seven numbers, and for NaNs of any bits. The greatest finite double passes it, and so do four zeros for a rotation.
unfoldable pub each_number : Row
each_number =
    fresh
    (prints (size 1 2 0) []
    ∷ prints (pose 0 1 infinity nought nought nought nought nought nought) ("no 7 1" ∷ [])
    ∷ prints (pose 0 1 nought below_all nought nought nought nought nought) ("no 7 1" ∷ [])
    ∷ prints (pose 0 1 nought nought not_a_number nought nought nought nought) ("no 7 1" ∷ [])
    ∷ prints (pose 0 1 nought nought nought infinity nought nought nought) ("no 7 1" ∷ [])
    ∷ prints (pose 0 1 nought nought nought nought below_all nought nought) ("no 7 1" ∷ [])
    ∷ prints (pose 0 1 nought nought nought nought nought not_a_number nought) ("no 7 1" ∷ [])
    ∷ prints (pose 0 1 nought nought nought nought nought nought infinity) ("no 7 1" ∷ [])
    ∷ prints (pose 0 1 negative_na_n nought nought nought nought nought nought) ("no 7 1" ∷ [])
    ∷ prints (pose 0 1 nought least_na_n nought nought nought nought nought) ("no 7 1" ∷ [])
    ∷ prints (pose 0 1 nought nought nought nought nought nought full_na_n) ("no 7 1" ∷ [])
    ∷ prints (sevenfold 0 1 greatest) []
    ∷ prints (sevenfold 0 0 nought) []
    ∷ prints (sevenfold 0 1 nought) ("no 23 1" ∷ [])
    ∷ prints (sevenfold 0 0 nought) ("no 23 0" ∷ [])
    ∷ [])

-- Solve: 8 before 9, the detail a sum of powers of 2; 9 with the lowest view; then solved, camera 2 linked through camera 1. 23 leaves the pose as it was.
unfoldable pub solves_in_order : Row
solves_in_order =
    fresh
    (prints (size 4 3 0) []
    ∷ prints solve ("no 8 6" ∷ [])
    ∷ prints (shift 2 2 nought nought one) []
    ∷ prints (shift 2 1 nought one nought) []
    ∷ prints solve ("no 8 6" ∷ [])
    ∷ prints (shift 1 1 nought two nought) []
    ∷ prints (shift 1 0 one nought nought) []
    ∷ prints solve ("no 9 0" ∷ [])
    ∷ prints (shift 1 1 one one one) ("no 23 257" ∷ [])
    ∷ prints (shift 0 0 two nought nought) []
    ∷ prints solve ("no 9 3" ∷ [])
    ∷ prints (shift 3 2 nought nought two) []
    ∷ prints solve
    ("ok 3 4"
    ∷ "c 0 0 0 0000000000000000 0000000000000000 0000000000000000 0000000000000000 0000000000000000 0000000000000000 3ff0000000000000"
    ∷ "c 1 0 1 3ff0000000000000 c000000000000000 0000000000000000 0000000000000000 0000000000000000 0000000000000000 3ff0000000000000"
    ∷ "c 2 1 2 3ff0000000000000 bff0000000000000 bff0000000000000 0000000000000000 0000000000000000 0000000000000000 3ff0000000000000"
    ∷ "v 0 4000000000000000 0000000000000000 0000000000000000 0000000000000000 0000000000000000 0000000000000000 3ff0000000000000"
    ∷ "v 1 3ff0000000000000 0000000000000000 0000000000000000 0000000000000000 0000000000000000 0000000000000000 3ff0000000000000"
    ∷ "v 2 3ff0000000000000 bff0000000000000 0000000000000000 0000000000000000 0000000000000000 0000000000000000 3ff0000000000000"
    ∷ "v 3 3ff0000000000000 bff0000000000000 3ff0000000000000 0000000000000000 0000000000000000 0000000000000000 3ff0000000000000"
    ∷ [])
    ∷ [])

-- 8 with 16 cameras: all but the reference, 15; then all but 15 and 3.
unfoldable pub sixteen_cameras : Row
sixteen_cameras =
    fresh
    (prints (size 1 16 15) []
    ∷ prints solve ("no 8 32767" ∷ [])
    ∷ prints (shift 0 15 one nought nought) []
    ∷ prints (shift 0 3 one nought nought) []
    ∷ prints solve ("no 8 32759" ∷ [])
    ∷ [])

-- "Solve may come again, and poses may follow it": twice the same, and then with one pose more. 22 and 7 in between change nothing.
unfoldable pub solved_again : Row
solved_again =
    fresh
    (prints (size 2 2 1) []
    ∷ prints (shift 0 0 one nought nought) []
    ∷ prints (shift 0 1 nought two nought) []
    ∷ prints (shift 1 1 nought nought one) []
    ∷ prints solve
    ("ok 2 2"
    ∷ "c 0 1 1 bff0000000000000 4000000000000000 0000000000000000 0000000000000000 0000000000000000 0000000000000000 3ff0000000000000"
    ∷ "c 1 1 0 0000000000000000 0000000000000000 0000000000000000 0000000000000000 0000000000000000 0000000000000000 3ff0000000000000"
    ∷ "v 0 0000000000000000 4000000000000000 0000000000000000 0000000000000000 0000000000000000 0000000000000000 3ff0000000000000"
    ∷ "v 1 0000000000000000 0000000000000000 3ff0000000000000 0000000000000000 0000000000000000 0000000000000000 3ff0000000000000"
    ∷ [])
    ∷ prints (size 1 1 0) ("no 22 0" ∷ [])
    ∷ prints (sevenfold 1 0 infinity) ("no 7 2" ∷ [])
    ∷ prints solve
    ("ok 2 2"
    ∷ "c 0 1 1 bff0000000000000 4000000000000000 0000000000000000 0000000000000000 0000000000000000 0000000000000000 3ff0000000000000"
    ∷ "c 1 1 0 0000000000000000 0000000000000000 0000000000000000 0000000000000000 0000000000000000 0000000000000000 3ff0000000000000"
    ∷ "v 0 0000000000000000 4000000000000000 0000000000000000 0000000000000000 0000000000000000 0000000000000000 3ff0000000000000"
    ∷ "v 1 0000000000000000 0000000000000000 3ff0000000000000 0000000000000000 0000000000000000 0000000000000000 3ff0000000000000"
    ∷ [])
    ∷ prints (shift 1 0 one nought two) []
    ∷ prints solve
    ("ok 2 2"
    ∷ "c 0 1 1 bff0000000000000 3ff0000000000000 bfe0000000000000 0000000000000000 0000000000000000 0000000000000000 3ff0000000000000"
    ∷ "c 1 1 0 0000000000000000 0000000000000000 0000000000000000 0000000000000000 0000000000000000 0000000000000000 3ff0000000000000"
    ∷ "v 0 0000000000000000 3ff8000000000000 bfd0000000000000 0000000000000000 0000000000000000 0000000000000000 3ff0000000000000"
    ∷ "v 1 0000000000000000 3fe0000000000000 3ff4000000000000 0000000000000000 0000000000000000 0000000000000000 3ff0000000000000"
    ∷ [])
    ∷ [])

-- "A float is its bits as 16 lowercase hexadecimal digits; any NaN is 7ff8000000000000." View 0 has the digits in order, low byte first in the stream,
-- and −0, which added to 0 is 0. View 1 has w = 2 to the 1000: its square is infinite, so that normalising gives 0, and normalising again 0 by 0.
unfoldable pub printed_bits : Row
printed_bits =
    fresh
    (prints (size 2 1 0) []
    ∷ prints (shift 0 0 (239 ∷ 205 ∷ 171 ∷ 137 ∷ 103 ∷ 69 ∷ 35 ∷ 1 ∷ []) (16 ∷ 50 ∷ 84 ∷ 118 ∷ 152 ∷ 186 ∷ 220 ∷ 254 ∷ []) (0 ∷ 0 ∷ 0 ∷ 0 ∷ 0 ∷ 0 ∷ 0 ∷ 128 ∷ [])) []
    ∷ prints (pose 1 0 one nought nought nought nought nought (0 ∷ 0 ∷ 0 ∷ 0 ∷ 0 ∷ 0 ∷ 112 ∷ 126 ∷ [])) []
    ∷ prints solve
    ("ok 1 2"
    ∷ "c 0 0 0 0000000000000000 0000000000000000 0000000000000000 0000000000000000 0000000000000000 0000000000000000 3ff0000000000000"
    ∷ "v 0 0123456789abcdef fedcba9876543210 0000000000000000 0000000000000000 0000000000000000 0000000000000000 3ff0000000000000"
    ∷ "v 1 3ff0000000000000 0000000000000000 0000000000000000 7ff8000000000000 7ff8000000000000 7ff8000000000000 7ff8000000000000"
    ∷ [])
    ∷ [])

-- "x, y, z, then quaternion i, j, k, w": seven different numbers, 3, 5, 7, 1, 2, 4 and 10, each in its place. The root of 1 + 4 + 16 + 100 is 11, and
-- 1/11, 2/11, 4/11 and 10/11, rounded, end in 46, 46, 46 and 17. Their squares add up to the double below 1, which is also its root, so that "normalised
-- again" each is the next double. As `samples/oracle.py` prints them.
unfoldable pub seven_numbers : Row
seven_numbers =
    fresh
    (prints (size 1 1 0) []
    ∷ prints (pose 0 0 (notch 8) (notch 20) (notch 28) one two (notch 16) (notch 36)) []
    ∷ prints solve
    ("ok 1 1"
    ∷ "c 0 0 0 0000000000000000 0000000000000000 0000000000000000 0000000000000000 0000000000000000 0000000000000000 3ff0000000000000"
    ∷ "v 0 4008000000000000 4014000000000000 401c000000000000 3fb745d1745d1747 3fc745d1745d1747 3fd745d1745d1747 3fed1745d1745d18"
    ∷ [])
    ∷ [])

-- −0 is printed with its sign: view 0's two targets are the double just below 0 and 0, and their mean, half of that double, is −0. Camera 1's link is the
-- same mean, added to 0.
unfoldable pub minus_zero : Row
minus_zero =
    fresh
    (prints (size 2 2 0) []
    ∷ prints (shift 0 0 just_below_zero nought nought) []
    ∷ prints (shift 0 1 nought nought nought) []
    ∷ prints (shift 1 0 nought nought nought) []
    ∷ prints (shift 1 1 nought nought nought) []
    ∷ prints solve
    ("ok 2 2"
    ∷ "c 0 0 0 0000000000000000 0000000000000000 0000000000000000 0000000000000000 0000000000000000 0000000000000000 3ff0000000000000"
    ∷ "c 1 0 1 0000000000000000 0000000000000000 0000000000000000 0000000000000000 0000000000000000 0000000000000000 3ff0000000000000"
    ∷ "v 0 8000000000000000 0000000000000000 0000000000000000 0000000000000000 0000000000000000 0000000000000000 3ff0000000000000"
    ∷ "v 1 0000000000000000 0000000000000000 0000000000000000 0000000000000000 0000000000000000 0000000000000000 3ff0000000000000"
    ∷ [])
    ∷ [])

-- Infinity is printed, and its negative: view 0's two targets are both at the greatest double and at its negative, and twice each is infinite.
unfoldable pub both_infinities : Row
both_infinities =
    fresh
    (prints (size 1 2 0) []
    ∷ prints (shift 0 0 greatest minus_greatest nought) []
    ∷ prints (shift 0 1 greatest minus_greatest nought) []
    ∷ prints solve
    ("ok 2 1"
    ∷ "c 0 0 0 0000000000000000 0000000000000000 0000000000000000 0000000000000000 0000000000000000 0000000000000000 3ff0000000000000"
    ∷ "c 1 0 1 0000000000000000 0000000000000000 0000000000000000 0000000000000000 0000000000000000 0000000000000000 3ff0000000000000"
    ∷ "v 0 7ff0000000000000 fff0000000000000 0000000000000000 0000000000000000 0000000000000000 0000000000000000 3ff0000000000000"
    ∷ [])
    ∷ [])

-- Two digits of a view, and of their number: each view has a number of its own.
unfoldable pub eleven_views : Row
eleven_views =
    fresh
    (prints (size 11 1 0) []
    ∷ prints (shift 0 0 (notch 0) nought nought) []
    ∷ prints (shift 1 0 (notch 1) nought nought) []
    ∷ prints (shift 2 0 (notch 2) nought nought) []
    ∷ prints (shift 3 0 (notch 3) nought nought) []
    ∷ prints (shift 4 0 (notch 4) nought nought) []
    ∷ prints (shift 5 0 (notch 5) nought nought) []
    ∷ prints (shift 6 0 (notch 6) nought nought) []
    ∷ prints (shift 7 0 (notch 7) nought nought) []
    ∷ prints (shift 8 0 (notch 8) nought nought) []
    ∷ prints (shift 9 0 (notch 9) nought nought) []
    ∷ prints (shift 10 0 (notch 10) nought nought) []
    ∷ prints solve
    ("ok 1 11"
    ∷ "c 0 0 0 0000000000000000 0000000000000000 0000000000000000 0000000000000000 0000000000000000 0000000000000000 3ff0000000000000"
    ∷ "v 0 4000000000000000 0000000000000000 0000000000000000 0000000000000000 0000000000000000 0000000000000000 3ff0000000000000"
    ∷ "v 1 4001000000000000 0000000000000000 0000000000000000 0000000000000000 0000000000000000 0000000000000000 3ff0000000000000"
    ∷ "v 2 4002000000000000 0000000000000000 0000000000000000 0000000000000000 0000000000000000 0000000000000000 3ff0000000000000"
    ∷ "v 3 4003000000000000 0000000000000000 0000000000000000 0000000000000000 0000000000000000 0000000000000000 3ff0000000000000"
    ∷ "v 4 4004000000000000 0000000000000000 0000000000000000 0000000000000000 0000000000000000 0000000000000000 3ff0000000000000"
    ∷ "v 5 4005000000000000 0000000000000000 0000000000000000 0000000000000000 0000000000000000 0000000000000000 3ff0000000000000"
    ∷ "v 6 4006000000000000 0000000000000000 0000000000000000 0000000000000000 0000000000000000 0000000000000000 3ff0000000000000"
    ∷ "v 7 4007000000000000 0000000000000000 0000000000000000 0000000000000000 0000000000000000 0000000000000000 3ff0000000000000"
    ∷ "v 8 4008000000000000 0000000000000000 0000000000000000 0000000000000000 0000000000000000 0000000000000000 3ff0000000000000"
    ∷ "v 9 4009000000000000 0000000000000000 0000000000000000 0000000000000000 0000000000000000 0000000000000000 3ff0000000000000"
    ∷ "v 10 400a000000000000 0000000000000000 0000000000000000 0000000000000000 0000000000000000 0000000000000000 3ff0000000000000"
    ∷ [])
    ∷ [])

-- Two digits of a camera, of its parent and of their number, with reference 11. `notch n` is 2 + n/8, so that camera c is at (11 − c)/8.
unfoldable pub twelve_cameras : Row
twelve_cameras =
    fresh
    (prints (size 1 12 11) []
    ∷ prints (shift 0 0 (notch 0) nought nought) []
    ∷ prints (shift 0 1 (notch 1) nought nought) []
    ∷ prints (shift 0 2 (notch 2) nought nought) []
    ∷ prints (shift 0 3 (notch 3) nought nought) []
    ∷ prints (shift 0 4 (notch 4) nought nought) []
    ∷ prints (shift 0 5 (notch 5) nought nought) []
    ∷ prints (shift 0 6 (notch 6) nought nought) []
    ∷ prints (shift 0 7 (notch 7) nought nought) []
    ∷ prints (shift 0 8 (notch 8) nought nought) []
    ∷ prints (shift 0 9 (notch 9) nought nought) []
    ∷ prints (shift 0 10 (notch 10) nought nought) []
    ∷ prints (shift 0 11 (notch 11) nought nought) []
    ∷ prints solve
    ("ok 12 1"
    ∷ "c 0 11 1 3ff6000000000000 0000000000000000 0000000000000000 0000000000000000 0000000000000000 0000000000000000 3ff0000000000000"
    ∷ "c 1 11 1 3ff4000000000000 0000000000000000 0000000000000000 0000000000000000 0000000000000000 0000000000000000 3ff0000000000000"
    ∷ "c 2 11 1 3ff2000000000000 0000000000000000 0000000000000000 0000000000000000 0000000000000000 0000000000000000 3ff0000000000000"
    ∷ "c 3 11 1 3ff0000000000000 0000000000000000 0000000000000000 0000000000000000 0000000000000000 0000000000000000 3ff0000000000000"
    ∷ "c 4 11 1 3fec000000000000 0000000000000000 0000000000000000 0000000000000000 0000000000000000 0000000000000000 3ff0000000000000"
    ∷ "c 5 11 1 3fe8000000000000 0000000000000000 0000000000000000 0000000000000000 0000000000000000 0000000000000000 3ff0000000000000"
    ∷ "c 6 11 1 3fe4000000000000 0000000000000000 0000000000000000 0000000000000000 0000000000000000 0000000000000000 3ff0000000000000"
    ∷ "c 7 11 1 3fe0000000000000 0000000000000000 0000000000000000 0000000000000000 0000000000000000 0000000000000000 3ff0000000000000"
    ∷ "c 8 11 1 3fd8000000000000 0000000000000000 0000000000000000 0000000000000000 0000000000000000 0000000000000000 3ff0000000000000"
    ∷ "c 9 11 1 3fd0000000000000 0000000000000000 0000000000000000 0000000000000000 0000000000000000 0000000000000000 3ff0000000000000"
    ∷ "c 10 11 1 3fc0000000000000 0000000000000000 0000000000000000 0000000000000000 0000000000000000 0000000000000000 3ff0000000000000"
    ∷ "c 11 11 0 0000000000000000 0000000000000000 0000000000000000 0000000000000000 0000000000000000 0000000000000000 3ff0000000000000"
    ∷ "v 0 400b000000000000 0000000000000000 0000000000000000 0000000000000000 0000000000000000 0000000000000000 3ff0000000000000"
    ∷ [])
    ∷ [])

-- Views, cameras and reference are three different numbers, and 12, 8 and the solved rig go by each. Camera 4 is linked through camera 2.
unfoldable pub three_sizes : Row
three_sizes =
    fresh
    (prints (size 2 5 3) []
    ∷ prints (shift 2 0 one nought nought) ("no 12 512" ∷ [])
    ∷ prints (shift 1 5 one nought nought) ("no 12 261" ∷ [])
    ∷ prints solve ("no 8 23" ∷ [])
    ∷ prints (shift 0 0 (notch 0) nought nought) []
    ∷ prints (shift 0 1 (notch 1) nought nought) []
    ∷ prints (shift 0 2 (notch 2) nought nought) []
    ∷ prints (shift 0 3 (notch 3) nought nought) []
    ∷ prints (shift 1 2 nought one nought) []
    ∷ prints solve ("no 8 16" ∷ [])
    ∷ prints (shift 1 4 nought nought one) []
    ∷ prints solve
    ("ok 5 2"
    ∷ "c 0 3 1 3fd8000000000000 0000000000000000 0000000000000000 0000000000000000 0000000000000000 0000000000000000 3ff0000000000000"
    ∷ "c 1 3 1 3fd0000000000000 0000000000000000 0000000000000000 0000000000000000 0000000000000000 0000000000000000 3ff0000000000000"
    ∷ "c 2 3 1 3fc0000000000000 0000000000000000 0000000000000000 0000000000000000 0000000000000000 0000000000000000 3ff0000000000000"
    ∷ "c 3 3 0 0000000000000000 0000000000000000 0000000000000000 0000000000000000 0000000000000000 0000000000000000 3ff0000000000000"
    ∷ "c 4 2 2 3fc0000000000000 3ff0000000000000 bff0000000000000 0000000000000000 0000000000000000 0000000000000000 3ff0000000000000"
    ∷ "v 0 4003000000000000 0000000000000000 0000000000000000 0000000000000000 0000000000000000 0000000000000000 3ff0000000000000"
    ∷ "v 1 3fc0000000000000 3ff0000000000000 0000000000000000 0000000000000000 0000000000000000 0000000000000000 3ff0000000000000"
    ∷ [])
    ∷ [])

-- 10 with the byte, before 21. Nothing after it is read.
unfoldable pub unknown_first : Row
unknown_first =
    fresh
    (prints (0 ∷ []) ("no 10 0" ∷ [])
    ∷ prints solve []
    ∷ prints (size 1 1 0) []
    ∷ prints solve []
    ∷ [])

-- 10 behind an accepted command and a refused one. Nothing after it is read.
unfoldable pub unknown_later : Row
unknown_later =
    fresh
    (prints (size 1 1 0) []
    ∷ prints (size 1 1 0) ("no 22 0" ∷ [])
    ∷ prints (5 ∷ []) ("no 10 5" ∷ [])
    ∷ prints (3 ∷ 255 ∷ []) []
    ∷ [])

-- 10 at the last byte, where it is not 11.
unfoldable pub unknown_last : Row
unknown_last = fresh (prints (255 ∷ []) ("no 10 255" ∷ []) ∷ [])

-- 11 and nothing else: Size of three bytes, 11 before 1; a Pose byte alone; Pose of 58 bytes, 11 before 21, of bytes that would each be Solve.
unfoldable pub cut_at_once : List Row
cut_at_once =
    fresh (prints (1 ∷ 0 ∷ 0 ∷ []) ("no 11 0" ∷ []) ∷ [])
    ∷ fresh (prints (2 ∷ []) ("no 11 0" ∷ []) ∷ [])
    ∷ fresh (prints (2 ∷ replicate 57 3) ("no 11 0" ∷ []) ∷ [])
    ∷ []

-- 11 with the offset of the command, before 22.
unfoldable pub size_cut : Row
size_cut =
    fresh
    (prints (size 1 1 0) []
    ∷ prints (1 ∷ 3 ∷ 3 ∷ []) ("no 11 4" ∷ [])
    ∷ [])

-- 11 before 12 and 7, behind Size, Pose and Solve.
unfoldable pub pose_cut_outside : Row
pose_cut_outside =
    fresh
    (prints (size 1 1 0) []
    ∷ prints (shift 0 0 one nought nought) []
    ∷ prints solve
    ("ok 1 1"
    ∷ "c 0 0 0 0000000000000000 0000000000000000 0000000000000000 0000000000000000 0000000000000000 0000000000000000 3ff0000000000000"
    ∷ "v 0 3ff0000000000000 0000000000000000 0000000000000000 0000000000000000 0000000000000000 0000000000000000 3ff0000000000000"
    ∷ [])
    ∷ prints (2 ∷ replicate 57 255) ("no 11 64" ∷ [])
    ∷ [])

-- 11 before 23.
unfoldable pub pose_cut_held : Row
pose_cut_held =
    fresh
    (prints (size 1 1 0) []
    ∷ prints (shift 0 0 one nought nought) []
    ∷ prints (2 ∷ replicate 57 0) ("no 11 63" ∷ [])
    ∷ [])

-- 11 of Withdraw, before 21, 12 and 24: the byte alone, and with a view.
unfoldable pub withdraw_cut : List Row
withdraw_cut =
    fresh (prints (4 ∷ []) ("no 11 0" ∷ []) ∷ [])
    ∷ fresh (prints (size 1 1 0) [] ∷ prints (4 ∷ 1 ∷ []) ("no 11 4" ∷ []) ∷ [])
    ∷ fresh (prints (size 1 1 0) [] ∷ prints (4 ∷ 0 ∷ []) ("no 11 4" ∷ []) ∷ [])
    ∷ []

-- 13 for 65,537 bytes, each of them a Solve, and nothing else; 65,536 pass it.
unfoldable pub lengths_of_streams : List Row
lengths_of_streams =
    fresh (prints (replicate 65537 3) ("no 13 0" ∷ []) ∷ [])
    ∷ fresh (prints (replicate 65536 0) ("no 10 0" ∷ []) ∷ [])
    ∷ []

-- 13 before 5.
unfoldable pub wrong_and_too_long : Row
wrong_and_too_long = lent 7167 559 31 (prints (replicate 65537 3) ("no 13 0" ∷ []) ∷ [])

-- 5 before 10, before 11, and before 21.
unfoldable pub wrong_and_bad : List Row
wrong_and_bad =
    lent 7167 560 32 (prints (9 ∷ []) ("no 5 0" ∷ []) ∷ [])
    ∷ lent 7167 560 32 (prints (1 ∷ []) ("no 5 0" ∷ []) ∷ [])
    ∷ lent 7167 560 32 (prints solve ("no 5 0" ∷ []) ∷ [])
    ∷ []

-- 5, in place of what the first command would answer, and nothing else.
abbrev turned_away : List Step
turned_away = prints (size 1 1 0) ("no 5 0" ∷ []) ∷ prints solve [] ∷ []

-- 5: the buffer is one float short, or one long; the first answer is one float short; the second is one byte short.
unfoldable pub wrong_lengths : List Row
wrong_lengths =
    lent 7167 560 32 turned_away
    ∷ lent 7169 560 32 turned_away
    ∷ lent 7168 559 32 turned_away
    ∷ lent 7168 560 31 turned_away
    ∷ []

-- A buffer of 7,168 floats, and answers of 560 floats and 32 bytes or longer, pass 5.
unfoldable pub right_lengths : List Row
right_lengths =
    lent 7168 560 32 (prints solve ("no 21 0" ∷ []) ∷ [])
    ∷ lent 7168 561 33 (prints solve ("no 21 0" ∷ []) ∷ [])
    ∷ []

-- A buffer of zeros.
abbrev zeros : List ℕ
zeros = replicate 7168 0

-- 5: cameras alone, a reference alone, views alone; 65 views, 17 cameras, a reference that is no camera; a bit without sizes, of a view past the last,
-- of a camera past the last; a false entry of a camera with itself, of two cameras in either half, and without any pose.
unfoldable pub wrong_records : List Row
wrong_records =
    held zeros (replicate 16 0) (table []) 0 1 0 turned_away
    ∷ held zeros (replicate 16 0) (table []) 0 0 1 turned_away
    ∷ held zeros (replicate 16 0) (table []) 1 0 0 turned_away
    ∷ held zeros (replicate 16 0) (table []) 65 1 0 turned_away
    ∷ held zeros (replicate 16 0) (table []) 1 17 0 turned_away
    ∷ held zeros (replicate 16 0) (table []) 2 3 3 turned_away
    ∷ held zeros (1 ∷ replicate 15 0) (table ((1 ∷ []) ∷ [])) 0 0 0 turned_away
    ∷ held zeros (0 ∷ 4 ∷ replicate 14 0) (table ([] ∷ (0 ∷ 1 ∷ []) ∷ [])) 2 3 0 turned_away
    ∷ held zeros (0 ∷ 0 ∷ 0 ∷ 1 ∷ replicate 12 0) (table ([] ∷ [] ∷ [] ∷ (0 ∷ 0 ∷ 0 ∷ 1 ∷ []) ∷ [])) 2 3 0 turned_away
    ∷ held zeros (3 ∷ 2 ∷ replicate 14 0) (table ((1 ∷ 1 ∷ []) ∷ (1 ∷ 1 ∷ []) ∷ [])) 2 3 0 turned_away
    ∷ held zeros (3 ∷ 2 ∷ replicate 14 0) (table ((2 ∷ 0 ∷ []) ∷ (1 ∷ 1 ∷ []) ∷ [])) 2 3 0 turned_away
    ∷ held zeros (3 ∷ 2 ∷ replicate 14 0) (table ((2 ∷ 1 ∷ []) ∷ (2 ∷ 1 ∷ []) ∷ [])) 2 3 0 turned_away
    ∷ held zeros (replicate 16 0) (replicate 255 0 ++ (1 ∷ [])) 2 3 0 turned_away
    ∷ []

-- The greatest sizes without a bit pass 5.
unfoldable pub no_bits : Row
no_bits =
    held zeros (replicate 16 0) (table []) 64 16 15
    (prints (size 1 1 0) ("no 22 0" ∷ [])
    ∷ prints (shift 63 15 one nought nought) []
    ∷ prints (shift 63 15 one nought nought) ("no 23 16143" ∷ [])
    ∷ [])

-- So do they with every bit.
unfoldable pub all_bits : Row
all_bits =
    held zeros (replicate 16 18446744073709551615) (replicate 256 64) 64 16 15
    (prints (size 1 1 0) ("no 22 0" ∷ [])
    ∷ prints (sevenfold 63 15 infinity) ("no 23 16143" ∷ [])
    ∷ [])

-- And of every bit Withdraw clears the last, and no other.
unfoldable pub last_withdrawn : Row
last_withdrawn =
    held zeros (replicate 16 18446744073709551615) (replicate 256 64) 64 16 15
    (prints (withdraw 63 16) ("no 12 16144" ∷ [])
    ∷ prints (withdraw 64 15) ("no 12 16399" ∷ [])
    ∷ prints (withdraw 63 15) []
    ∷ prints (withdraw 63 15) ("no 24 16143" ∷ [])
    ∷ prints (shift 62 15 one nought nought) ("no 23 15887" ∷ [])
    ∷ prints (shift 0 15 one nought nought) ("no 23 15" ∷ [])
    ∷ prints (shift 63 14 one nought nought) ("no 23 16142" ∷ [])
    ∷ prints (shift 63 0 one nought nought) ("no 23 16128" ∷ [])
    ∷ prints (shift 63 15 one nought nought) []
    ∷ [])

-- The last bit that smaller sizes allow passes 5, too.
unfoldable pub last_bit : Row
last_bit =
    held zeros (0 ∷ 0 ∷ 2 ∷ replicate 13 0) (table ([] ∷ [] ∷ (0 ∷ 0 ∷ 1 ∷ []) ∷ [])) 2 3 0
    (prints (shift 1 2 one nought nought) ("no 23 258" ∷ [])
    ∷ prints (shift 1 1 one nought nought) []
    ∷ [])

-- A buffer of infinities, and one of zeros with seven infinities "from 7 × (view × 16 + camera)" for view 1 and camera 1.
abbrev infinities : List ℕ
infinities = replicate 7168 0x7ff0_0000_0000_0000

abbrev one_cell : List ℕ
one_cell = replicate 119 0 ++ (replicate 7 0x7ff0_0000_0000_0000 ++ replicate 7042 0)

-- 7 of Solve, with the lowest held cell: before 8 and 9, where camera 2 has no chain and view 0 is empty; in the one cell that is not finite.
-- "The numbers of an empty cell are ignored": with nothing held it is 8.
unfoldable pub not_finite_held : List Row
not_finite_held =
    held infinities (4 ∷ 6 ∷ replicate 14 0) (table ((1 ∷ 1 ∷ []) ∷ (1 ∷ 2 ∷ []) ∷ [])) 3 3 0 (prints solve ("no 7 4" ∷ []) ∷ [])
    ∷ held one_cell (3 ∷ 3 ∷ replicate 14 0) (table ((2 ∷ 2 ∷ []) ∷ (2 ∷ 2 ∷ []) ∷ [])) 2 2 0 (prints solve ("no 7 3" ∷ []) ∷ [])
    ∷ held infinities (replicate 16 0) (table []) 3 3 0 (prints solve ("no 8 6" ∷ []) ∷ [])
    ∷ []

-- "the empty cell's no longer matter": the infinities of view 1 and camera 1, the only pose of that camera, give 7 until it is withdrawn, and then 8.
unfoldable pub not_finite_withdrawn : Row
not_finite_withdrawn =
    held one_cell (1 ∷ 2 ∷ replicate 14 0) (table ((1 ∷ []) ∷ (0 ∷ 1 ∷ []) ∷ [])) 2 2 0
    (prints solve ("no 7 3" ∷ []) ∷ prints (withdraw 1 1) [] ∷ prints solve ("no 8 2" ∷ []) ∷ [])

-- Buffers of zeros with one number that is not finite: the last of the last cell, and the first of view 1 and camera 0.
abbrev last_number : List ℕ
last_number = replicate 7167 0 ++ (0x7ff8_0000_0000_0000 ∷ [])

abbrev first_of_view_one : List ℕ
first_of_view_one = replicate 112 0 ++ (0xfff0_0000_0000_0000 ∷ replicate 7055 0)

-- 7 of Solve with 64 views and 16 cameras: in the last cell, with view 0 and the two cells beside it held as well; and in view 1 with every cell held.
unfoldable pub one_not_finite : List Row
one_not_finite =
    held last_number (replicate 14 1 ++ (9223372036854775809 ∷ 13835058055282163713 ∷ [])) (replicate 224 1 ++ (replicate 14 1 ++ (2 ∷ 2 ∷ (replicate 14 1 ++ (2 ∷ 3 ∷ []))))) 64 16 0 (prints solve ("no 7 1023" ∷ []) ∷ [])
    ∷ held first_of_view_one (replicate 16 18446744073709551615) (replicate 256 64) 64 16 0 (prints solve ("no 7 16" ∷ []) ∷ [])
    ∷ []

-- "an accepted Pose writes those seven only", in a buffer of infinities: the last cell is finite afterwards, so that Solve is 8; camera 15 of view 62 is,
-- and camera 0 of view 63, which follows it and is held, is not.
unfoldable pub seven_written : List Row
seven_written =
    held infinities (replicate 16 0) (table []) 64 16 15 (prints (shift 63 15 one nought nought) [] ∷ prints solve ("no 8 32767" ∷ []) ∷ [])
    ∷ held infinities (9223372036854775808 ∷ replicate 15 0) (table ((1 ∷ []) ∷ [])) 64 16 15 (prints (shift 62 15 one nought nought) [] ∷ prints solve ("no 7 1008" ∷ []) ∷ [])
    ∷ []

-- Rows that the program can be run on.
unfoldable pub fresh_rows : List Row
unfolding empty_stream before_size sizes at_the_limits poses_in_order withdraws_in_order sizes_stay link_withdrawn taken_back each_number solves_in_order sixteen_cameras solved_again printed_bits unknown_first unknown_later unknown_last cut_at_once size_cut pose_cut_outside pose_cut_held withdraw_cut lengths_of_streams
fresh_rows =
    (empty_stream
    ∷ before_size
    ∷ sizes
    ∷ at_the_limits
    ∷ poses_in_order
    ∷ withdraws_in_order
    ∷ sizes_stay
    ∷ link_withdrawn
    ∷ taken_back
    ∷ each_number
    ∷ solves_in_order
    ∷ sixteen_cameras
    ∷ solved_again
    ∷ printed_bits
    ∷ unknown_first
    ∷ unknown_later
    ∷ unknown_last
    ∷ size_cut
    ∷ pose_cut_outside
    ∷ pose_cut_held
    ∷ [])
    ++ cut_at_once
    ++ withdraw_cut
    ++ lengths_of_streams

-- More of them, with larger rigs that are solved.
unfoldable pub solved_rows : List Row
unfolding seven_numbers minus_zero both_infinities eleven_views twelve_cameras three_sizes
solved_rows = seven_numbers ∷ minus_zero ∷ both_infinities ∷ eleven_views ∷ twelve_cameras ∷ three_sizes ∷ []

-- Rows from states that it never begins with.
unfoldable pub other_rows : List Row
unfolding wrong_and_too_long wrong_and_bad wrong_lengths right_lengths wrong_records no_bits all_bits last_withdrawn last_bit not_finite_held not_finite_withdrawn one_not_finite seven_written
other_rows = (wrong_and_too_long ∷ no_bits ∷ all_bits ∷ last_withdrawn ∷ last_bit ∷ not_finite_withdrawn ∷ []) ++ wrong_and_bad ++ wrong_lengths ++ right_lengths ++ wrong_records ++ not_finite_held ++ one_not_finite ++ seven_written

unfoldable pub rows : List Row
unfolding fresh_rows solved_rows other_rows
rows = fresh_rows ++ solved_rows ++ other_rows

-- ---- one call, "at an offset the caller names"

-- A call in a row's state on its stream: the offset, and where it tells that the next command begins. The row's lines are what this call prints.
pub record CallRow : Type 0 where
  pub offset : ℕ
  pub next : ℕ
  pub row : Row

abbrev called_at : ℕ → ℕ → Row → CallRow
called_at offset next row = record { offset = offset; next = next; row = row }

-- The next offset and the text, as the call gives them; and as the rows say.
unfoldable pub all_called : List CallRow → List (List ℕ)
unfolding call stream_of
all_called [] = []
all_called (c ∷ later) =
    let r = call c.row.before (stream_of c.row.steps) c.offset in
    (r.next ∷ printed_by r) ∷ all_called later

unfoldable pub all_told : List CallRow → List (List ℕ)
unfolding text_of
all_told [] = []
all_told (c ∷ later) = (c.next ∷ text_of c.row.steps) ∷ all_told later

-- "tells where the next begins": behind a command that is accepted, and behind one that is refused, wherever the call begins.
unfoldable pub next_command : List CallRow
next_command =
    called_at 0 4 (fresh (prints (size 1 1 0) [] ∷ prints solve [] ∷ []))
    ∷ called_at 0 4 (fresh (prints (size 0 1 0) ("no 1 0" ∷ []) ∷ prints solve [] ∷ []))
    ∷ called_at 0 59 (fresh (prints (shift 0 0 one nought nought) ("no 21 0" ∷ []) ∷ prints solve [] ∷ []))
    ∷ called_at 1 5 (fresh (prints (0 ∷ []) [] ∷ prints (size 1 1 0) [] ∷ prints solve [] ∷ []))
    ∷ called_at 4 5 (fresh (prints (size 1 1 0) [] ∷ prints solve ("no 21 0" ∷ []) ∷ prints solve [] ∷ []))
    ∷ called_at 0 3 (held zeros (1 ∷ replicate 15 0) (table ((1 ∷ []) ∷ [])) 1 1 0 (prints (withdraw 0 0) [] ∷ prints solve [] ∷ []))
    ∷ called_at 1 4 (held zeros (replicate 16 0) (table []) 1 1 0 (prints (9 ∷ []) [] ∷ prints (withdraw 0 0) ("no 24 0" ∷ []) ∷ prints solve [] ∷ []))
    ∷ []

-- "5, 10, 11 and 13 end the stream: the next offset is then its length." 13 before 5.
unfoldable pub next_is_length : List CallRow
next_is_length =
    called_at 0 3 (fresh (prints (9 ∷ 3 ∷ 3 ∷ []) ("no 10 9" ∷ []) ∷ []))
    ∷ called_at 1 6 (fresh (prints (3 ∷ 2 ∷ 3 ∷ 3 ∷ 3 ∷ 3 ∷ []) ("no 11 1" ∷ []) ∷ []))
    ∷ called_at 0 2 (lent 7167 560 32 (prints (3 ∷ 3 ∷ []) ("no 5 0" ∷ []) ∷ []))
    ∷ called_at 0 65537 (fresh (prints (replicate 65537 3) ("no 13 0" ∷ []) ∷ []))
    ∷ called_at 0 65537 (lent 7167 559 31 (prints (replicate 65537 3) ("no 13 0" ∷ []) ∷ []))
    ∷ []

-- "an offset equal to the length is the end, a greater one gives 11, detail the length"; 13 and 5 before both.
unfoldable pub past_the_end : List CallRow
past_the_end =
    called_at 0 0 (fresh [])
    ∷ called_at 7 0 (fresh (prints [] ("no 11 0" ∷ []) ∷ []))
    ∷ called_at 4 4 (fresh (prints (size 1 1 0) [] ∷ []))
    ∷ called_at 5 4 (fresh (prints (size 1 1 0) ("no 11 4" ∷ []) ∷ []))
    ∷ called_at 4 4 (lent 7167 560 32 (prints (size 1 1 0) ("no 5 0" ∷ []) ∷ []))
    ∷ called_at 5 4 (lent 7167 560 32 (prints (size 1 1 0) ("no 5 0" ∷ []) ∷ []))
    ∷ called_at 65537 65537 (fresh (prints (replicate 65537 3) ("no 13 0" ∷ []) ∷ []))
    ∷ called_at 65538 65537 (fresh (prints (replicate 65537 3) ("no 13 0" ∷ []) ∷ []))
    ∷ []

unfoldable pub call_rows : List CallRow
unfolding next_command next_is_length past_the_end
call_rows = next_command ++ next_is_length ++ past_the_end
