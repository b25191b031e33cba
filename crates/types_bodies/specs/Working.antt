-- What the code computes, and values of its types, for proofs and for the crates above. Nobody has to believe these
-- files: no promise cites them.
pub mod Calls
pub mod Checkers
pub mod Indexing
pub mod Misplaced
pub mod Operands
pub mod Parts
pub mod ResolvedExprs
pub mod Targets
pub mod Walks
pub mod Whole
