-- What each export answers, and what its lent answers are after it, over their full length. Rests on `Code`, and on the outcomes of `averaging`, `extrinsics`,
-- `shared_query` and `telemetry`.
use Rattle.std.specs.Prelude.{ℕ, ◌≡◌, cond, List, ◌++◌, length, drop, Float, Err, Ok}
use Rattle.arithmetic.specs.Pose.{flat}
use Rattle.arithmetic.specs.declared.pose.Pose.{Pose}
use Rattle.refusal.specs.declared.Refusal.TheVariants.{WrongLength}
use Rattle.averaging.specs.Entry.{averaged_of, Averaged}
use Rattle.placing.specs.Estimate.{transforms, chains}
use Rattle.extrinsics.specs.Outcome.{answered}
use Rattle.extrinsics.specs.Direct.{direct_grid, direct_refusal}
use Rattle.shared_query.specs.Query.{shared_answer}
use Rattle.telemetry.specs.Frames.{imported_of, import_leaves}
use Rattle.record_words.specs.Words.{session_in, is_record}
use Rattle.placer.specs.Code.{code_of, code_of_averaged, code_of_refusal, code_of_shared, code_of_imported}

-- What the lent seven floats of a mean are afterwards: a refusal writes nothing.
unfoldable pub mean_after : Averaged → List Float → List Float
mean_after (Err r) old = old
mean_after (Ok p) old = flat p ++ drop 7 old

-- The public averaging entry, on lent pose records.
pub record AveragedInto (poses : List Pose) (mean : List Float) (r : ℕ) (mean' : List Float) : Type 0 where
  pub reply : r ≡ code_of_averaged (averaged_of poses)
  pub answer : mean' ≡ mean_after (averaged_of poses) mean

-- The direct call: a camera count for each view, a mark and seven floats for each cell, the reference, and both answers.
pub record Estimated (counts marks : List ℕ) (floats : List Float) (reference : ℕ) (first : List Float) (second : List ℕ) (r : ℕ) (first' : List Float) (second' : List ℕ) : Type 0 where
  pub reply : r ≡ code_of_refusal (direct_refusal counts marks floats reference (length first) (length second))
  pub first_answer : first' ≡ answered (direct_refusal counts marks floats reference (length first) (length second)) (transforms (direct_grid counts marks floats reference)) first
  pub second_answer : second' ≡ answered (direct_refusal counts marks floats reference (length first) (length second)) (chains (direct_grid counts marks floats reference)) second

-- The query for shared counts, on a record's words and two cameras. Words that are no record are refused with 5.
unfoldable pub shared_reply : List ℕ → ℕ → ℕ → ℕ
unfolding is_record shared_answer code_of_shared
shared_reply words a b = cond (is_record words) (code_of_shared (shared_answer (session_in words) a b)) (code_of WrongLength)

-- Packed frames, as Pose commands in lent bytes.
pub record ImportedInto (frames commands : List ℕ) (r : ℕ) (commands' : List ℕ) : Type 0 where
  pub reply : r ≡ code_of_imported (imported_of frames commands)
  pub answer : commands' ≡ import_leaves frames commands
