-- Rows worked out by hand from document 02, change 2: records handed in with entries that are true or false, the summary after streams of bytes, and queries.
-- Limits and lengths are written as numbers, not by the names that the definitions use. Rests on what a stream means and on the query.
use Rattle.std.specs.Prelude.{ℕ, ◌-◌, Bool, List, [], ◌∷◌, ◌++◌, length, replicate}
use Rattle.refusal.specs.Table.{number_of, detail_of}
use Rattle.session_record.specs.Session.{possible}
use Rattle.session_record.specs.declared.Session.{Session}
use Rattle.shared_query.specs.Query.{shared_answer}
use Rattle.shared_query.specs.Query.{Shared}
use Rattle.claims_streams.specs.Stream.{meaning, last_state}
use Rattle.claims_printing.specs.Printed.{fresh_state}
use Rattle.std.specs.Prelude.{Err, Ok}

-- ---- tables: "a 16 by 16 summary", row by row

-- A list, and as many zeros behind it as it lacks of that length.
unfoldable pub padded : ℕ → List ℕ → List ℕ
padded n l = l ++ replicate (n - length l) 0

unfoldable pub joined : List (List ℕ) → List ℕ
unfolding padded
joined [] = []
joined (row ∷ later) = padded 16 row ++ joined later

-- Rows and what is left of rows may be left out where they are zeros.
unfoldable pub table : List (List ℕ) → List ℕ
unfolding padded joined
table rows = padded 256 (joined rows)

-- ---- records handed in

abbrev handed : List ℕ → List ℕ → ℕ → ℕ → ℕ → Session
handed masks shared views cameras reference = record { masks = masks; views = views; cameras = cameras; reference = reference; shared = shared }

-- Camera 0 has poses in views 0, 1 and 2, camera 1 in 1 and 2, camera 2 in 2 alone.
abbrev three_masks : List ℕ
three_masks = 7 ∷ 6 ∷ 4 ∷ replicate 13 0

abbrev three_cameras : List (List ℕ) → Session
three_cameras rows = handed three_masks (table rows) 3 3 0

-- Camera 0 has poses in views 0 and 1, camera 1 in 1 and 2, and camera 2 has none.
abbrev two_cameras : List (List ℕ) → Session
two_cameras rows = handed (3 ∷ 6 ∷ replicate 14 0) (table rows) 3 3 0

abbrev pub right_rows : List (List ℕ)
right_rows = (3 ∷ 2 ∷ 1 ∷ []) ∷ (2 ∷ 2 ∷ 1 ∷ []) ∷ (1 ∷ 1 ∷ 1 ∷ []) ∷ []

-- True entries: of these three; of two cameras, in views 0 and 1 and in 1 and 2, and of a third without poses; of every cell of 64 views and 16 cameras; of
-- none of them; and a fresh session's.
unfoldable pub true_records : List Session
true_records =
    three_cameras right_rows
    ∷ two_cameras ((2 ∷ 1 ∷ []) ∷ (1 ∷ 2 ∷ []) ∷ [])
    ∷ handed (replicate 16 18446744073709551615) (replicate 256 64) 64 16 15
    ∷ handed (replicate 16 0) (replicate 256 0) 64 16 15
    ∷ handed (replicate 16 0) (replicate 256 0) 0 0 0
    ∷ []

-- An entry of a camera with itself too low, and one too high; one too low above the diagonal alone, and one below it; a pair too high in both; nothing below
-- the diagonal; nothing on it; the rows one lower; an entry of a camera without a pose, with one that has some, in either half; the least of two own counts
-- for the shared one; a camera outside the sizes with itself; the last entry of all; an entry too few, and one too many of them; an entry without sizes; all entries 0; and of a full rig the last entry too low.
unfoldable pub false_records : List Session
false_records =
    three_cameras ((2 ∷ 2 ∷ 1 ∷ []) ∷ (2 ∷ 2 ∷ 1 ∷ []) ∷ (1 ∷ 1 ∷ 1 ∷ []) ∷ [])
    ∷ three_cameras ((3 ∷ 2 ∷ 1 ∷ []) ∷ (2 ∷ 2 ∷ 1 ∷ []) ∷ (1 ∷ 1 ∷ 2 ∷ []) ∷ [])
    ∷ three_cameras ((3 ∷ 1 ∷ 1 ∷ []) ∷ (2 ∷ 2 ∷ 1 ∷ []) ∷ (1 ∷ 1 ∷ 1 ∷ []) ∷ [])
    ∷ three_cameras ((3 ∷ 2 ∷ 1 ∷ []) ∷ (2 ∷ 2 ∷ 1 ∷ []) ∷ (0 ∷ 1 ∷ 1 ∷ []) ∷ [])
    ∷ three_cameras ((3 ∷ 2 ∷ 1 ∷ []) ∷ (2 ∷ 2 ∷ 2 ∷ []) ∷ (1 ∷ 2 ∷ 1 ∷ []) ∷ [])
    ∷ three_cameras ((3 ∷ 2 ∷ 1 ∷ []) ∷ (0 ∷ 2 ∷ 1 ∷ []) ∷ (0 ∷ 0 ∷ 1 ∷ []) ∷ [])
    ∷ three_cameras ((0 ∷ 2 ∷ 1 ∷ []) ∷ (2 ∷ 0 ∷ 1 ∷ []) ∷ (1 ∷ 1 ∷ 0 ∷ []) ∷ [])
    ∷ three_cameras ([] ∷ right_rows)
    ∷ two_cameras ((2 ∷ 1 ∷ 1 ∷ []) ∷ (1 ∷ 2 ∷ []) ∷ [])
    ∷ two_cameras ((2 ∷ 1 ∷ []) ∷ (1 ∷ 2 ∷ []) ∷ (1 ∷ []) ∷ [])
    ∷ two_cameras ((2 ∷ 2 ∷ []) ∷ (2 ∷ 2 ∷ []) ∷ [])
    ∷ three_cameras (right_rows ++ ((0 ∷ 0 ∷ 0 ∷ 1 ∷ []) ∷ []))
    ∷ handed three_masks (joined right_rows ++ (replicate 207 0 ++ (1 ∷ []))) 3 3 0
    ∷ handed three_masks (joined right_rows ++ replicate 207 0) 3 3 0
    ∷ handed three_masks (joined right_rows ++ replicate 209 0) 3 3 0
    ∷ handed (replicate 16 0) (table ((1 ∷ []) ∷ [])) 0 0 0
    ∷ three_cameras []
    ∷ handed (replicate 16 18446744073709551615) (replicate 255 64 ++ (63 ∷ [])) 64 16 15
    ∷ []

unfoldable pub each_possible : List Session → List Bool
unfolding possible
each_possible [] = []
each_possible (s ∷ later) = possible s ∷ each_possible later

-- ---- the summary after a stream

-- "0x02 Pose: view, camera, one byte each, then seven floats": six zeros and w = 1; and the other commands' bytes.
abbrev posed : ℕ → ℕ → List ℕ
posed view camera = 2 ∷ view ∷ camera ∷ (replicate 48 0 ++ (0 ∷ 0 ∷ 0 ∷ 0 ∷ 0 ∷ 0 ∷ 240 ∷ 63 ∷ []))

abbrev sized : ℕ → ℕ → ℕ → List ℕ
sized views cameras reference = 1 ∷ views ∷ cameras ∷ reference ∷ []

abbrev taken_back : ℕ → ℕ → List ℕ
taken_back view camera = 4 ∷ view ∷ camera ∷ []

pub record SummaryRow : Type 0 where
  pub bytes : List ℕ
  pub entries : List ℕ

abbrev leaves : List ℕ → List (List ℕ) → SummaryRow
leaves bytes rows = record { bytes = bytes; entries = table rows }

abbrev six_poses : List ℕ
six_poses = sized 3 3 0 ++ (posed 0 0 ++ (posed 1 1 ++ (posed 2 2 ++ (posed 1 0 ++ (posed 2 0 ++ posed 2 1)))))

-- A Pose that is not finite.
abbrev not_finite : List ℕ
not_finite = 2 ∷ 0 ∷ 1 ∷ (replicate 48 0 ++ (0 ∷ 0 ∷ 0 ∷ 0 ∷ 0 ∷ 0 ∷ 240 ∷ 127 ∷ []))

-- Nothing; Size alone; six poses; one of them, and then all of camera 0, taken back; one taken back and sent again; 21, 22, 23, 24, 12, 7, and Solve refused
-- with 8, count nothing, and neither do an unknown byte and a command that is cut; the last cameras and the last view.
unfoldable pub summary_rows : List SummaryRow
summary_rows =
    leaves [] []
    ∷ leaves (sized 3 3 0) []
    ∷ leaves six_poses right_rows
    ∷ leaves (six_poses ++ taken_back 2 0) ((2 ∷ 1 ∷ 0 ∷ []) ∷ (1 ∷ 2 ∷ 1 ∷ []) ∷ (0 ∷ 1 ∷ 1 ∷ []) ∷ [])
    ∷ leaves (six_poses ++ (taken_back 0 0 ++ (taken_back 2 0 ++ taken_back 1 0))) ([] ∷ (0 ∷ 2 ∷ 1 ∷ []) ∷ (0 ∷ 1 ∷ 1 ∷ []) ∷ [])
    ∷ leaves (six_poses ++ (taken_back 2 1 ++ posed 2 1)) right_rows
    ∷ leaves (six_poses ++ (sized 3 3 0 ++ (posed 2 2 ++ (taken_back 0 1 ++ (posed 3 0 ++ (posed 0 3 ++ not_finite)))))) right_rows
    ∷ leaves (posed 0 0 ++ (sized 3 3 0 ++ (posed 1 0 ++ (3 ∷ posed 1 1 ++ (9 ∷ []))))) ((1 ∷ 1 ∷ []) ∷ (1 ∷ 1 ∷ []) ∷ [])
    ∷ leaves (sized 3 3 0 ++ (posed 1 0 ++ (2 ∷ 1 ∷ 1 ∷ []))) ((1 ∷ []) ∷ [])
    ∷ leaves (sized 64 16 15 ++ (posed 63 15 ++ (posed 0 15 ++ posed 63 14)))
    (replicate 14 [] ++ ((replicate 14 0 ++ (1 ∷ 1 ∷ [])) ∷ (replicate 14 0 ++ (1 ∷ 2 ∷ [])) ∷ []))
    ∷ []

-- What stands in the record after the whole stream from a fresh session; and what the rows say.
unfoldable pub all_summaries : List SummaryRow → List (List ℕ)
unfolding last_state meaning
all_summaries [] = []
all_summaries (r ∷ later) = (last_state fresh_state (meaning fresh_state r.bytes)).session.shared ∷ all_summaries later

unfoldable pub all_entries : List SummaryRow → List (List ℕ)
all_entries [] = []
all_entries (r ∷ later) = r.entries ∷ all_entries later

-- ---- queries

pub record QueryRow : Type 0 where
  pub asked : Session
  pub first : ℕ
  pub second : ℕ
  pub told : List ℕ

-- The count is told as one number, and a refusal as its number and its detail.
abbrev asks : Session → ℕ → ℕ → List ℕ → QueryRow
asks s a b l = record { asked = s; first = a; second = b; told = l }

unfoldable pub numbers_of : Shared → List ℕ
numbers_of (Ok n) = n ∷ []
numbers_of (Err r) = number_of r ∷ detail_of r ∷ []

-- Pairs of three cameras, one both ways round, and two with themselves; 12 for the first, the second and both of them; 21 before 12; 5 before 21 and before
-- 12.
unfoldable pub query_rows : List QueryRow
query_rows =
    asks (three_cameras right_rows) 0 0 (3 ∷ [])
    ∷ asks (three_cameras right_rows) 0 1 (2 ∷ [])
    ∷ asks (three_cameras right_rows) 1 0 (2 ∷ [])
    ∷ asks (three_cameras right_rows) 2 0 (1 ∷ [])
    ∷ asks (three_cameras right_rows) 2 2 (1 ∷ [])
    ∷ asks (three_cameras right_rows) 0 3 (12 ∷ 3 ∷ [])
    ∷ asks (three_cameras right_rows) 3 0 (12 ∷ 768 ∷ [])
    ∷ asks (three_cameras right_rows) 255 254 (12 ∷ 65534 ∷ [])
    ∷ asks (handed (replicate 16 18446744073709551615) (replicate 256 64) 64 16 15) 15 14 (64 ∷ [])
    ∷ asks (handed (replicate 16 18446744073709551615) (replicate 256 64) 64 16 15) 15 16 (12 ∷ 3856 ∷ [])
    ∷ asks (handed (replicate 16 18446744073709551615) (replicate 256 64) 64 16 15) 16 15 (12 ∷ 4111 ∷ [])
    ∷ asks (handed (replicate 16 0) (replicate 256 0) 0 0 0) 0 0 (21 ∷ 0 ∷ [])
    ∷ asks (handed (replicate 16 0) (replicate 256 0) 0 0 0) 16 255 (21 ∷ 0 ∷ [])
    ∷ asks (handed (replicate 16 0) (table ((1 ∷ []) ∷ [])) 0 0 0) 0 0 (5 ∷ 0 ∷ [])
    ∷ asks (three_cameras []) 3 3 (5 ∷ 0 ∷ [])
    ∷ []

unfoldable pub all_asked : List QueryRow → List (List ℕ)
unfolding shared_answer numbers_of
all_asked [] = []
all_asked (r ∷ later) = numbers_of (shared_answer r.asked r.first r.second) ∷ all_asked later

unfoldable pub all_answered : List QueryRow → List (List ℕ)
all_answered [] = []
all_answered (r ∷ later) = r.told ∷ all_answered later
