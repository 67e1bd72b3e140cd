-- The definitions that the contracts of `session_commands` cite: a file for each command, all of them, one command obeyed, and what its functions promise
-- each other. Definitions only; their laws are in proofs/, and what one call comes to is in the crate `session`.
pub mod Cell
pub mod Size
pub mod Pose
pub mod Withdraw
pub mod Solve
pub mod Commands
pub mod Reply
pub mod Obeyed
pub mod Lent
pub mod Inner
