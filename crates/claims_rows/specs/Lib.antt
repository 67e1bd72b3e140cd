-- Rows from the bytes of a stream to the bytes of its text, and document 01's listing. Definitions only.
pub mod Paper
pub mod Rows
