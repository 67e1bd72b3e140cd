-- What demand 1 asks of the averaging entry, what a caller of the exports has in hand after a call, and after the calls on a whole stream, and what the query and
-- the import of packed frames reply. Definitions only; the theorems are in proofs/.
pub mod Averages
pub mod InHand
pub mod Steps
pub mod SharedReplies
pub mod FramesReplies
