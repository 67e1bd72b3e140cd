-- The laws of `rig`'s loop.
pub mod Rounds
