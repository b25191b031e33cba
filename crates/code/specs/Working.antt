-- What the code computes, and values of its types, for proofs and for the crates above. Nobody has to believe these
-- files: no promise cites them.
pub mod Laws
pub mod Seen
pub mod Spots
pub mod Ahead
pub mod PointLaws
pub mod RunLaws
pub mod NumberLists
pub mod Naming
pub mod Asked
pub mod Sections
pub mod Listers
pub mod Places
