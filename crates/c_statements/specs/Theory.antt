-- Lemmas, which are proved here for proofs of the crates above. Nobody has to believe these files: they are checked.
pub mod Chains
pub mod Lines
pub mod Loops
