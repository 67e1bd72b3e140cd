-- What the functions of `placing` promise each other and their callers; no demand rests on it. Definitions only.
pub mod Placed
pub mod Fitting
