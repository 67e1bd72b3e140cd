-- Laws of searches, checks and masks, beside the proofs of the functions. Assumes nothing.
pub mod Answering
pub mod InTurn
pub mod MarkedMasks
