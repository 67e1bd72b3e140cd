-- That every row computes to what the paper says, and each whole rig to what was recorded.
pub mod ArithmeticCases
pub mod Cases
pub mod DeepGrid
pub mod DirectFits
pub mod FiniteDoubles
pub mod GridRow
pub mod OverflowGrid
pub mod SingleGrid
