-- What the functions of `frames` promise each other; no demand rests on it. Definitions only.
pub mod Room
