-- The definitions that the contracts of `session` cite: one call, and what its functions promise each other. Definitions only; their laws are in proofs/.
-- What each command does is in the crate `session_commands`, and what a whole stream means in the crate `claims_streams`.
pub mod Call
pub mod Inner
