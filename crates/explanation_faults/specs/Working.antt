-- Definitions of what the code computes and of the values of its types, for proofs and for the crates above. Nobody has
-- to believe these files: no promise cites them.
pub mod LimitsFound
pub mod AmountsFound
pub mod HelpersFound
pub mod VarsFound
pub mod LocksFound
pub mod NullsFound
pub mod Values
pub mod Others
