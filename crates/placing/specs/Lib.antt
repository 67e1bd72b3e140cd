-- The grid that an estimate works on, the poses of a rig over any tree of its cameras, and the answers lent to it. Definitions only; their laws are in proofs/.
pub mod Grid
pub mod Estimate
pub mod Rig
pub mod Lent
pub mod Inner
