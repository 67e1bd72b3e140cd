-- What `placer_frames` replies, in words, by document 02, change 3, as include/placer.h has it: a reply of 2^32 or more is a refusal, its number in the upper 32 bits, and any other is how many
-- frames there were. What is imported is said of frames that are bytes, as those of every caller are. Rests on the words for the import in `claims_telemetry`, and on the replies of `placer`.
use Rattle.std.specs.Prelude.{ℕ, ◌*◌, ◌^◌, ◌≤◌, ◌<◌, ◌≡◌, List, length}
use Rattle.telemetry.specs.Frames.{Bytes, imported_of}
use Rattle.claims_telemetry.specs.Import.{CommandsOfFrames}
use Rattle.placer.specs.Reading.{imported_in}

pub record FramesReplies (frames commands : List ℕ) (r : ℕ) (commands' : List ℕ) : Type 0 where
  pub no_multiple : ((n : ℕ) → length frames ≡ 30 * n → ⊥) → r ≡ 14 * 2 ^ 32
  pub too_many : (n : ℕ) → length frames ≡ 30 * n → 1024 < n → r ≡ 15 * 2 ^ 32
  pub another_length : (n : ℕ) → length frames ≡ 30 * n → n ≤ 1024 → (length commands ≡ 59 * n → ⊥) → r ≡ 5 * 2 ^ 32
  pub imported : Bytes frames → (n : ℕ) → length frames ≡ 30 * n → n ≤ 1024 → length commands ≡ 59 * n → (r ≡ n) × CommandsOfFrames frames n commands'
  pub unchanged : 2 ^ 32 ≤ r → commands' ≡ commands
  pub read_back : imported_in r ≡ imported_of frames commands
