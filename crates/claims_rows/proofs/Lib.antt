-- The rows and the listing hold: the definitions compute them.
pub mod Paper
pub mod FreshRows
pub mod Rows
pub mod LowBytes
