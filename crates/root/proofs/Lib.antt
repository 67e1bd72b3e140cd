-- Laws and theorems of the root that belong to no one function, a file a topic.
mod Squares
mod Scale
pub mod Bits
pub mod Ends
pub mod Nearest
pub mod Cases
