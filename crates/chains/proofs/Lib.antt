-- The chain theorem and the laws it rests on, beside the proofs of the functions. Assumes nothing.
pub mod MostViews
pub mod Placing
pub mod Walks
pub mod Theorem
pub mod Reports
pub mod Bits
pub mod Places
pub mod Passing
pub mod Searching
pub mod Turning
pub mod Reaching
pub mod Reading
pub mod Examples
