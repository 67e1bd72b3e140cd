-- What the functions of `session_commands` promise each other; no demand rests on it. Definitions only.
pub mod Cells
pub mod Turns
