-- The theorems on the summary, on the query for it, and on the session without it.
pub mod Summarised
pub mod Kept
pub mod Queried
pub mod Forgetting
