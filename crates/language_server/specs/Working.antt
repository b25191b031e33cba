-- Values of the code's types and what the code has found, for its clauses, and laws. Nobody has to believe these files.
pub mod Latest
pub mod Laws
pub mod Lines
pub mod Sets
pub mod Telling
pub mod Values
