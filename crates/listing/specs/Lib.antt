-- The definitions that the contracts of `listing` cite: the lines that a reply prints, how long they are at most, and a text at the front of lent memory; and rows
-- of numbers beside their texts. Definitions only; their laws are in proofs/.
pub mod Listing
pub mod Widths
pub mod Writing
pub mod Inner
pub mod Rows
