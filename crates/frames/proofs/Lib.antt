-- Laws of what the program tells and turns, beside the proofs of the functions. Assumes nothing.
pub mod Telling
pub mod Turning
pub mod Demand
