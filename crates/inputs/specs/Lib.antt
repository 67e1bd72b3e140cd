-- The definitions that the contracts of `inputs` cite. Definitions only; their laws are in proofs/.
pub mod Inputs
pub mod Inner
