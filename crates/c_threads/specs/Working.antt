-- What is carried along the steps of a section, for proofs of the crates above. Nobody has to believe these files.
pub mod Codes
pub mod Noted
