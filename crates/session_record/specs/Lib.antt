-- The session record and the grid that it holds with its buffer. Definitions only; their laws are in proofs/.
pub mod Session
