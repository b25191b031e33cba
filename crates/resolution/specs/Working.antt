-- What the code computes, and values of its types, for proofs and for the crates above. Nobody has to believe these
-- files: no promise cites them.
pub mod TypedExpressions
pub mod TypedOwners
pub mod TypedStatements
pub mod TypedSections
pub mod TypedConstants
pub mod Building
pub mod Findings
pub mod FaultLists
pub mod Laws
