-- The theorems on what a whole stream prints, that floats that are not held change none of it, and on what is refused of the text that it is printed into.
pub mod Loop
pub mod Alike
pub mod TextDemand
