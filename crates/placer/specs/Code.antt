-- Answers as one 64-bit number: for a refusal number times 2 ^ 32 plus detail, and 0 where nothing is refused; for a command also 1 where it was accepted and 2 where
-- it solved a rig; for the query the count, and for packed frames how many there were. Rests on the table of refusals.
use Rattle.std.specs.Prelude.{ℕ, ◌+◌, ◌*◌, ◌^◌, Option, None, Some, Err, Ok}
use Rattle.refusal.specs.Table.{number_of, detail_of}
use Rattle.refusal.specs.declared.Refusal.{Refusal}
use Rattle.averaging.specs.Entry.{Averaged}
use Rattle.extrinsics.specs.Outcome.{Outcome}
use Rattle.session_commands.specs.Reply.{Reply}
use Rattle.shared_query.specs.Query.{Shared}
use Rattle.telemetry.specs.Frames.{Imported}
use Rattle.session_commands.specs.declared.Done.TheVariants.{Accepted, End, Solved}

abbrev pub code_of : Refusal → ℕ
code_of r = number_of r * 2 ^ 32 + detail_of r

unfoldable pub code_of_outcome : Outcome → ℕ
code_of_outcome (Err r) = code_of r
code_of_outcome (Ok tt) = 0

unfoldable pub code_of_averaged : Averaged → ℕ
code_of_averaged (Err r) = code_of r
code_of_averaged (Ok p) = 0

unfoldable pub code_of_refusal : Option Refusal → ℕ
code_of_refusal (Some r) = code_of r
code_of_refusal None = 0

unfoldable pub code_of_reply : Reply → ℕ
code_of_reply (Ok End) = 0
code_of_reply (Ok Accepted) = 1
code_of_reply (Ok Solved) = 2
code_of_reply (Err r) = code_of r

unfoldable pub code_of_shared : Shared → ℕ
code_of_shared (Err r) = code_of r
code_of_shared (Ok n) = n

unfoldable pub code_of_imported : Imported → ℕ
code_of_imported (Err r) = code_of r
code_of_imported (Ok n) = n
