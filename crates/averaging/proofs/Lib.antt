-- Laws that belong to no one function: those of the outcome, and that the rows hold. Assumes nothing.
pub mod Outcomes
pub mod Rows
