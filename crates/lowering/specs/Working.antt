-- What the code computes, and values of its types, for proofs and for the crates above. Nobody has to believe these
-- files: no promise cites them.
pub mod Assembly
pub mod CodeLists
pub mod Compiled
pub mod Emission
pub mod Listings
pub mod Lowered
pub mod PlanLaws
pub mod Rooms
pub mod Sizes
