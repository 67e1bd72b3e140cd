-- Rows on the summary of shared counts. Definitions only.
pub mod Rows
