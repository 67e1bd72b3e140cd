-- What the functions of `inputs` promise each other; no demand rests on it. Definitions only.
pub mod Marks
