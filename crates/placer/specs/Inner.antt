-- What the functions of `placer` promise each other: nothing that a statement rests on. Definitions only.
pub mod Records
