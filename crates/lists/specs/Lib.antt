-- Lists, counts, searches and bits. Definitions only; their laws are in proofs/.
pub mod Lists
pub mod Finding
pub mod Masks
