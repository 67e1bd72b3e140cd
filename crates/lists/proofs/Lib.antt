-- Laws of joined tests, lists, counts, searches and bits.
pub mod Tests
pub mod AllBelow
pub mod Tabulated
pub mod Blocks
pub mod Counting
pub mod Lowest
pub mod PowerSums
pub mod MaskBits
