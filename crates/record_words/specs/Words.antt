-- A session record as words, for C: a mask for each camera, the views, the cameras and the reference, and behind them the 256 entries, row by row, words 19 to
-- 274. Rests on the record of `session_record`.
use Rattle.std.specs.Prelude.{ℕ, ◌+◌, Bool, ◌&&◌, cond, Option, None, Some, List, ◌∷◌, ◌++◌, length, get_or, take, drop, eqb, ltb}
use Rattle.limits.specs.Limits.{max_cameras}
use Rattle.lists.specs.Finding.{all_below}
use Rattle.shared_counts.specs.Summary.{entry_count}
use Rattle.session_record.specs.declared.Session.{Session}

-- ---- the places of a record's words, behind the masks

abbrev pub views_word : ℕ
views_word = max_cameras

abbrev pub cameras_word : ℕ
cameras_word = max_cameras + 1

abbrev pub reference_word : ℕ
reference_word = max_cameras + 2

-- The first of the entries.
abbrev pub shared_word : ℕ
shared_word = max_cameras + 3

-- How many they are.
abbrev pub record_words : ℕ
record_words = shared_word + entry_count

-- ---- the record written as words, and read from them

abbrev pub words_of : Session → List ℕ
words_of s = s.masks ++ (s.views ∷ s.cameras ∷ s.reference ∷ s.shared)

abbrev pub session_in : List ℕ → Session
session_in words =
    record {
      masks = take max_cameras words;
      views = get_or words views_word 0;
      cameras = get_or words cameras_word 0;
      reference = get_or words reference_word 0;
      shared = take entry_count (drop shared_word words);
    }

abbrev pub is_byte_entry : List ℕ → ℕ → Bool
is_byte_entry words i = ltb (get_or words (shared_word + i) 0) 256

-- As many words as a record has, and all that follow the masks are bytes.
unfoldable pub is_record : List ℕ → Bool
unfolding all_below
is_record words =
    eqb (length words) record_words
    && (ltb (get_or words views_word 0) 256
    && ltb (get_or words cameras_word 0) 256
    && ltb (get_or words reference_word 0) 256
    && all_below (is_byte_entry words) entry_count)

-- The record that words are, where they are one.
unfoldable pub record_in : List ℕ → Option Session
record_in words = cond (is_record words) (Some (session_in words)) None
