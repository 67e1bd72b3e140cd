-- Laws of a session record as words, beside the proofs of its functions. Assumes nothing.
pub mod Bytes
pub mod Records
