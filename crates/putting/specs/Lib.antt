-- Bytes put into lent memory. Definitions only; their laws are in proofs/.
pub mod Putting
