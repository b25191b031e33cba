-- Definitions of what the code computes and of the values of its types, for proofs and for the crates above. Nobody has
-- to believe these files: no promise cites them.
pub mod Heads
pub mod Instructions
pub mod Kinds
pub mod Known
pub mod Reads
pub mod Rows
pub mod Seeing
pub mod Tellers
pub mod Told
