pub mod Names
pub mod Statements
pub mod Acquires
pub mod Working
pub mod Theory
