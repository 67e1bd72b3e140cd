-- What the functions of `command` promise each other; no demand rests on it. Definitions only.
pub mod Parts
