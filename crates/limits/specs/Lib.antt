-- The limits of document 01. Definitions only.
pub mod Limits
