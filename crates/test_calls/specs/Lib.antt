-- The definitions that the contracts of `test_calls` cite: calls of the session, one after the other. Definitions only.
pub mod Calls
