-- The lines that `rig` prints, as bytes: document 01, "A stream arrives", from "Output lines" on.
-- Rests on the digits of the kit's `io`, the poses of `arithmetic`, the table of refusals and what a call of the session answers.
use Rattle.std.specs.Prelude.{ℕ, zero, suc, ◌+◌, ◌*◌, ◌/◌, ◌%◌, Bool, true, ◌&&◌, cond, List, [], ◌∷◌, ◌++◌, map, length, get_or, ltb, leb, Float}
use Rattle.std.specs.Float.{binary64}
use Rattle.std.specs.Float.Ieee.{to_bits}
use Rattle.io.specs.Digits.{hex_digit_ascii, last_digits}
use Rattle.arithmetic.specs.Pose.{flat, pose_at}
use Rattle.arithmetic.specs.declared.pose.Pose.{Pose}
use Rattle.refusal.specs.Table.{number_of, detail_of}
use Rattle.refusal.specs.declared.Refusal.{Refusal}
use Rattle.limits.specs.Limits.{max_views, max_cameras, pose_floats, first_needs, parent_place, links_place, second_needs}
use Rattle.lists.specs.Lists.{gather}
use Rattle.session_commands.specs.Obeyed.{State, Result}
use Rattle.session_record.specs.Session.{held_of}
use Rattle.session_record.specs.declared.Held.{Held}
use Rattle.session_commands.specs.Reply.{Reply}
use Rattle.listing.specs.Widths.{ok_bytes, camera_bytes, view_bytes}
use Rattle.std.specs.Prelude.{Err, Ok}
use Rattle.session_commands.specs.declared.Done.TheVariants.{Accepted, End, Solved}

abbrev pub blank : ℕ
blank = 32

abbrev pub newline : ℕ
newline = 10

-- ---- numbers

-- The fewest decimal digits that hold n, where so many are enough.
unfoldable pub decimal_within : ℕ → ℕ → List ℕ
decimal_within zero n = []
decimal_within (suc most) n = cond (ltb n 10) (hex_digit_ascii n ∷ []) (decimal_within most (n / 10) ++ (hex_digit_ascii (n % 10) ∷ []))

-- Twenty decimal digits hold every number of 64 bits.
unfoldable pub decimal_text : ℕ → List ℕ
decimal_text n = decimal_within 20 n

-- "A float is its bits as 16 lowercase hexadecimal digits; any NaN is 7ff8000000000000."
unfoldable pub float_text : Float → List ℕ
float_text x = last_digits 16 16 (to_bits binary64 x)

-- ---- lines

-- What follows a line's first word: each field after one blank, then the byte that ends the line.
abbrev pub fields_text : List (List ℕ) → List ℕ
fields_text [] = newline ∷ []
fields_text (field ∷ fields) = blank ∷ (field ++ fields_text fields)

abbrev pub line : List ℕ → List (List ℕ) → List ℕ
line word fields = word ++ fields_text fields

-- The words `no`, `ok`, `c` and `v`.
abbrev pub no_word : List ℕ
no_word = 110 ∷ 111 ∷ []

abbrev pub ok_word : List ℕ
ok_word = 111 ∷ 107 ∷ []

abbrev pub camera_word : List ℕ
camera_word = 99 ∷ []

abbrev pub view_word : List ℕ
view_word = 118 ∷ []

-- "A refusal prints `no`, number, detail, in decimal."
unfoldable pub refusal_line : Refusal → List ℕ
refusal_line r = line no_word (decimal_text (number_of r) ∷ decimal_text (detail_of r) ∷ [])

-- "A solved rig prints `ok`, cameras, views;"
unfoldable pub ok_line : ℕ → ℕ → List ℕ
ok_line cameras views = line ok_word (decimal_text cameras ∷ decimal_text views ∷ [])

-- "seven floats"
abbrev pub pose_fields : Pose → List (List ℕ)
pose_fields p = map float_text (flat p)

-- ---- a solved rig, for any fields that stand for a pose; `rig` prints `pose_fields`

module _ (fields : Pose → List (List ℕ)) where
  -- "per camera `c`, index, parent, links, seven floats;": numbers in decimal, then the pose.
  unfoldable pub camera_line : List ℕ → Pose → List ℕ
  camera_line numbers p = line camera_word (map decimal_text numbers ++ fields p)

  -- "per view `v`, index, seven floats."
  unfoldable pub view_line : List ℕ → Pose → List ℕ
  view_line numbers p = line view_word (map decimal_text numbers ++ fields p)

-- The numbers of a camera's line, "index, parent, links", as the second answer holds them, and of a view's, "index".
abbrev pub camera_numbers : List ℕ → ℕ → List ℕ
camera_numbers second c = c ∷ get_or second (parent_place c) 0 ∷ get_or second (links_place c) 0 ∷ []

abbrev pub view_numbers : ℕ → List ℕ
view_numbers v = v ∷ []

-- The poses stand in the first answer, those of the cameras and then those of the views.
module _ (fields : Pose → List (List ℕ)) (first : List Float) (second : List ℕ) where
  unfoldable pub camera_line_at : ℕ → List ℕ
  camera_line_at c = camera_line fields (camera_numbers second c) (pose_at first (pose_floats * c))

module _ (fields : Pose → List (List ℕ)) (first : List Float) (cameras : ℕ) where
  unfoldable pub view_line_at : ℕ → List ℕ
  view_line_at v = view_line fields (view_numbers v) (pose_at first (pose_floats * (cameras + v)))

-- "indexes are ascending"
unfoldable pub solved_text : (Pose → List (List ℕ)) → Held → List Float → List ℕ → List ℕ
solved_text fields held first second =
    ok_line held.cameras held.views
    ++ (gather held.cameras (camera_line_at fields first second) ++ gather held.views (view_line_at fields first held.cameras))

-- ---- a reply

-- "an accepted command but Solve prints nothing"; nor does the end.
unfoldable pub reply_text : Reply → Held → List Float → List ℕ → List ℕ
reply_text (Ok End) held first second = []
reply_text (Ok Accepted) held first second = []
reply_text (Ok Solved) held first second = solved_text pose_fields held first second
reply_text (Err r) held first second = refusal_line r

-- What a reply prints, after which this stands in the record and in both answers.
abbrev pub printed_text : Reply → State → List ℕ
printed_text reply after = reply_text reply (held_of after.session) after.first after.second

abbrev pub printed_by : Result → List ℕ
printed_by r = printed_text r.reply r.after

-- ---- lent memory that holds any listing

-- The ok line, and the lines of as many cameras and views as a rig may have.
abbrev pub listing_bytes : ℕ
listing_bytes = ok_bytes + max_cameras * camera_bytes pose_floats + max_views * view_bytes pose_floats

-- The sizes are within the limits, and both answers hold such a rig.
unfoldable pub sized : Held → List Float → List ℕ → Bool
sized held first second =
    leb held.cameras max_cameras
    && leb held.views max_views
    && leb (first_needs held.cameras held.views) (length first)
    && leb (second_needs held.cameras) (length second)

-- There is room for what a reply prints, and a rig that is to be printed is there.
unfoldable pub fits : Reply → Held → List Float → List ℕ → ℕ → Bool
fits (Ok End) held first second room = true
fits (Ok Accepted) held first second room = true
fits (Ok Solved) held first second room = sized held first second && leb listing_bytes room
fits (Err r) held first second room = leb listing_bytes room

-- What is written for a reply into memory of so many bytes: its text, or nothing where that does not fit.
unfoldable pub written : Reply → Held → List Float → List ℕ → ℕ → List ℕ
written reply held first second room = cond (fits reply held first second room) (reply_text reply held first second) []
