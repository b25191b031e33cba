-- What the code computes, and values of its types, for proofs and for the crates above. Nobody has to believe these
-- files: no promise cites them.
pub mod Asked
pub mod Opens
pub mod Pending
pub mod Ties
pub mod Answers
pub mod Laws
