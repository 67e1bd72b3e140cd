-- The definitions that the contracts of `telemetry` cite. Definitions only; their laws are in proofs/.
pub mod Quotient
pub mod Frames
pub mod Rows
