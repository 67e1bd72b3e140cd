-- Laws of the summary, beside the proofs of the functions. Assumes nothing.
pub mod Tests
pub mod ZeroTests
pub mod SharedViews
pub mod Summaries
pub mod TrueEntries
pub mod CountedViews
pub mod Rows
