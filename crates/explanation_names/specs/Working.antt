-- What the code computes, and values of its types, for proofs and for the crates above. Nobody has to believe these
-- files: no promise cites them.
pub mod UsesFound
pub mod Found
pub mod Values
pub mod Laws
pub mod PassedFound
pub mod VarsFound
pub mod Viewed
