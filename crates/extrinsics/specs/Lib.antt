-- The definitions that the contracts of `extrinsics` cite, in the order of document 01. Definitions only; their laws are in proofs/.
pub mod Outcome
pub mod Direct
