-- Definitions of what the code computes and of the values of its types, for proofs and for the crates above. Nobody has
-- to believe these files: no promise cites them.
pub mod Histories
pub mod Laws
pub mod Names
pub mod Seats
pub mod Reading
