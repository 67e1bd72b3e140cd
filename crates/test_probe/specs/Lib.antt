-- The definitions that the contracts of `test_probe` cite: lists of poses, their products and inverses, what each export answers, and what whole streams print. Definitions only.
pub mod Poses
pub mod Exports
pub mod Streams
