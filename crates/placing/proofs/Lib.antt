-- Laws of grids, candidates and poses over a tree of cameras, beside the proofs of the functions. Assumes nothing.
pub mod Gathering
pub mod Filling
pub mod ViewCells
pub mod Candidates
pub mod RigPoses
pub mod Rooting
pub mod LayerPoses
pub mod Writing
