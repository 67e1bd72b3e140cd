-- What the functions of `shared_counts` promise each other; no demand rests on it. Definitions only.
pub mod Counts
