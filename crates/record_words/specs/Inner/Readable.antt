-- What it takes to read a record from words. Rests on `Words`.
use Rattle.std.specs.Prelude.{ℕ, ◌+◌, ◌<◌, ◌≡◌, List, length, get_or}
use Rattle.shared_counts.specs.Summary.{entry_count}
use Rattle.record_words.specs.Words.{views_word, cameras_word, reference_word, shared_word, record_words}

-- What `is_record` tests, as facts.
pub record ReadableWords (words : List ℕ) : Type 0 where
  pub long : length words ≡ record_words
  pub views_byte : get_or words views_word 0 < 256
  pub cameras_byte : get_or words cameras_word 0 < 256
  pub reference_byte : get_or words reference_word 0 < 256
  pub entry_bytes : (i : ℕ) → i < entry_count → get_or words (shared_word + i) 0 < 256
