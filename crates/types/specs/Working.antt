-- What the code computes, and values of its types, for proofs and for the crates above. Nobody has to believe these
-- files: no promise cites them.
pub mod Bodies
pub mod Calls
pub mod ConstantValues
pub mod DeclaredValues
pub mod Grown
pub mod Slots
pub mod StructBuilders
pub mod Walks
pub mod Whole
