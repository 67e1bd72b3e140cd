-- What the functions of `root` promise each other; no demand rests on it. Definitions only.
pub mod Steps
