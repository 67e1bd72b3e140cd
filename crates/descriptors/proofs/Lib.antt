-- Laws of memory that is filled from its front, beside the proofs of the functions. Assumes nothing.
pub mod Front
