-- What the functions of `session` promise each other; no demand rests on it. Definitions only.
pub mod Steps
