-- What is claimed of the summary of shared counts, of the query for it, and of the session without it. Definitions only.
pub mod Summaries
pub mod Queries
pub mod Plain
