-- Laws of the check of a record, beside the proofs of the functions. Assumes nothing.
pub mod Refusals
pub mod PossibleRecords
