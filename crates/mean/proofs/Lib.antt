-- Laws of averaging that belong to no one function.
pub mod Averaging
pub mod Rows
