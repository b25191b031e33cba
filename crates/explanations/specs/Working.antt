-- Definitions of what the code computes and of the values of its types, for proofs and for the crates above. Nobody has
-- to believe these files: no promise cites them.
pub mod Found
pub mod Judged
pub mod Tellers
pub mod Values
