-- Laws of the definitions, for the proofs of the crates above. Nobody has to believe these files.
pub mod Ends
pub mod Within
