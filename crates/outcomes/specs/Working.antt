-- What the code computes, and values of its types, for proofs and for the crates above. Nobody has to believe these
-- files: no promise cites them.
pub mod Changes
pub mod Drawing
pub mod Grouping
pub mod Hashes
pub mod Listing
pub mod Marking
pub mod Reducing
pub mod Searching
pub mod States
pub mod Steps
pub mod Tables
pub mod Touches
pub mod Trails
