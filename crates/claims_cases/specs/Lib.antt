-- Document 01's cases, as rows of what the definitions compute beside what the paper says, and four whole rigs. Definitions only.
pub mod ArithmeticCases
pub mod Cases
pub mod GridRow
pub mod OtherGrids
