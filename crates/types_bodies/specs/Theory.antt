-- Lemmas, which are proved here for proofs of the crates above. Nobody has to believe these files: they are checked.
pub mod Zips
