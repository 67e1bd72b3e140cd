-- The definitions that the contracts of `placer` cite: refusals as one number, what each export answers, one command of a session, and what its functions
-- promise each other. Definitions only.
pub mod Code
pub mod Exports
pub mod Step
pub mod Reading
pub mod Inner
