-- What the demands say of the direct call: the Rust function on its own terms, and how its grids are handed over. Definitions only.
pub mod Deciding
pub mod RustStd
pub mod RustError
pub mod RustAverage
pub mod Rust
pub mod Encoding
pub mod Demand3
pub mod Demand1
