-- A whole stream obeyed, with what it prints: what one call of it comes to, and rows of what is refused of its text. Definitions only; their laws are in
-- proofs/.
pub mod StreamText
pub mod Rows
