-- What the functions of `listing` promise each other; no demand rests on it. Definitions only.
pub mod Refusals
