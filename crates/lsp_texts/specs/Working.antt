-- Definitions of what the code computes, for its clauses. Nobody has to believe these files.
pub mod LoneNames
pub mod Marks
pub mod Places
pub mod Steps
pub mod Tables
