-- Lemmas for proofs of the crates above. Nobody has to believe these files: they are proved here.
pub mod Done
