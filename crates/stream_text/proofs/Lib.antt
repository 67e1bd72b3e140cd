-- The laws of a stream obeyed in parts, and the rows of what is refused of its text.
pub mod Parts
pub mod Rows
