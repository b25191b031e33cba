-- What the code computes, and values of its types, for proofs and for the crates above. Nobody has to believe these
-- files: no promise cites them.
pub mod Faulted
pub mod Finding
pub mod Forms
pub mod Gathering
pub mod Nodes
pub mod Numbers
pub mod Places
pub mod States
pub mod Told
pub mod Walking
