-- The definitions that the contracts of `averaging` cite. Definitions only; their laws are in proofs/.
pub mod Entry
pub mod Rows
