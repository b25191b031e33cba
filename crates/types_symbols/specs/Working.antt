-- What the code computes, and values of its types, for proofs and for the crates above. Nobody has to believe these
-- files: no promise cites them.
pub mod AnnotationCursors
pub mod Capped
pub mod Counted
pub mod Faults
pub mod Found
pub mod Given
pub mod Listed
pub mod Scoped
pub mod Views
