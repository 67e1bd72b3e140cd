-- The definitions that the contracts of `mean` cite. Definitions only; their laws are in proofs/.
pub mod Average
pub mod Rows
pub mod Inner
