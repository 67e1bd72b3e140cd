-- Laws of bytes put into lent memory, beside the proofs of the functions. Assumes nothing.
pub mod Putting
