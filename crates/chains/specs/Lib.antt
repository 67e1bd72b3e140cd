-- Chains of cameras: what a chain is, the layers around the reference, and what the code's functions promise. Definitions only; their laws are
-- in proofs/.
pub mod Shared
pub mod Chains
pub mod Layers
pub mod Layered
pub mod Masks
pub mod Inner
