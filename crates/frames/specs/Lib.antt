-- The definitions that the contracts of `frames` cite. Definitions only; their laws are in proofs/.
pub mod Told
pub mod Turned
pub mod Demand
pub mod Inner
