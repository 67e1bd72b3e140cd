-- What the functions of `mean` promise each other; no demand rests on it. Definitions only.
pub mod Taking
