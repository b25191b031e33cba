-- What the code computes, and values of its types, for proofs and for the crates above. Nobody has to believe these
-- files: no promise cites them.
pub mod Expressions
pub mod Statements
pub mod Reading
pub mod Parts
pub mod Returning
pub mod Declarations
pub mod Rests
pub mod TreesFound
