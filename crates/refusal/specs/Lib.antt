-- The table of refusals. Definitions only.
pub mod Table
