-- The rows hold.
pub mod Rows
