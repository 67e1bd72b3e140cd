-- Laws of words, patterns of doubles, offered poses, framing, decoding and writing, beside the proofs of the functions. Assumes nothing.
pub mod Words
pub mod Patterns
pub mod OfferedPoses
pub mod Framing
pub mod Decoding
pub mod Writing
pub mod LowBytes
