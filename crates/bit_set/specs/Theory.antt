-- How bits are set and joined. Nobody has to believe these files: they are checked, and are here for proofs of this
-- crate and of those above.
pub mod Bits
