-- What the functions of `chains` promise each other; no demand rests on it. Definitions only.
pub mod Trees
pub mod Search
