-- The edits of a session: what the theorems ask of each, a file a command, and all of them. Assumes nothing.
pub mod Law
pub mod Cell
pub mod Size
pub mod Pose
pub mod Withdraw
pub mod All
