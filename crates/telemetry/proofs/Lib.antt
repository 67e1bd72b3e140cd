-- Laws of packed frames, beside the proofs of the functions. Assumes nothing.
pub mod Quotient
pub mod Frames
pub mod Rows
