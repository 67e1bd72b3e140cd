-- The laws of this crate, beside the proofs of its functions. Assumes nothing.
pub mod Replies
pub mod Reading
pub mod Details
pub mod ReadBack
pub mod Direct
pub mod Calls
pub mod Records
pub mod Steps
