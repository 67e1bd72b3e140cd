-- The definitions that the contracts of `command` cite: how a stream is cut into commands by a table of widths, the commands themselves, how they are written, and what its
-- functions promise each other. Definitions only; their laws are in proofs/.
pub mod Framing
pub mod Command
pub mod Writing
pub mod Inner
