-- Definitions of what the code computes and of the values of its types, for proofs. Nobody has to believe these files:
-- no promise cites them.
pub mod Answering
