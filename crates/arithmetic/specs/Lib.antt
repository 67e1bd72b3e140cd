-- The definitions that the contracts of `arithmetic` cite, one module a concept. Definitions only; their laws are in proofs/.
pub mod Double
pub mod Pose
pub mod Rounded
pub mod Numbers
pub mod Rows
