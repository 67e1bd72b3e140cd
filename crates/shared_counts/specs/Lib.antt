-- The summary of shared counts, and what the functions of the crate promise each other. Definitions only; their laws are in proofs/.
pub mod Summary
pub mod Rows
pub mod Inner
