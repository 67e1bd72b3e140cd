-- A session record as words, and what it takes to read one. Definitions only; their laws are in proofs/.
pub mod Words
pub mod Inner
