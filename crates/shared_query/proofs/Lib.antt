-- Laws of the query, beside the proofs of its functions. Assumes nothing.
pub mod Queries
