-- The definitions that the contracts of `root` cite. Definitions only; their laws are in proofs/.
pub mod Root
pub mod Inner
