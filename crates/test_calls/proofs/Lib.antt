-- The laws of this crate, beside the proofs of its functions. Assumes nothing.
pub mod Turns
