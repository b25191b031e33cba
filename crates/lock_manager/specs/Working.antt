-- What the code computes, and values of its types, for proofs and for the crates above. Nobody has to believe these
-- files: no promise cites them.
pub mod Sessions
pub mod Queues
pub mod Managers
pub mod Calls
pub mod Committed
pub mod Ties
