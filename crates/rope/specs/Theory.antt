-- How a text grows by parts. Nobody has to believe these files: they are checked, and are here for proofs of the crates
-- above.
pub mod Parts
