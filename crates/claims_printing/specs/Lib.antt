-- What a whole stream prints, document 01's example of it, what is refused of the text that it is printed into, and rows of streams beside their texts.
-- Definitions only; the theorems are in proofs/.
pub mod Printed
pub mod TextDemand
