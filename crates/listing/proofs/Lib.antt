-- The laws of this crate, beside the proofs of its functions. Assumes nothing.
pub mod Writing
pub mod Digits
pub mod Fields
pub mod Fitting
pub mod WrittenCalls
pub mod Rows
