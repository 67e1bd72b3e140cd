-- The laws and theorems of this crate, beside the proofs of its functions. Assumes nothing.
pub mod MaskUnion
pub mod EmptyViews
pub mod MarkedGrid
pub mod Solving
pub mod DirectCall
