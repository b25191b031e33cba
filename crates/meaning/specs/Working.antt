-- What the code computes, and values of its types, for proofs and for the crates above. Nobody has to believe these
-- files: no promise cites them.
pub mod Answer
pub mod CalledSections
pub mod Chains
pub mod Execution
pub mod Halts
pub mod Laws
pub mod Undo
pub mod Within
