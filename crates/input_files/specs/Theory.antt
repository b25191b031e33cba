-- Lemmas for proofs of this crate and of those above. Nobody has to believe them.
pub mod Counts
pub mod Fronts
