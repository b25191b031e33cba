-- What the code computes, and values of its types, for proofs and for the crates above. Nobody has to believe these
-- files: no promise cites them.
pub mod Finding
pub mod Held
pub mod Kept
pub mod Machines
pub mod Noted
pub mod Operands
pub mod Prints
