pub mod Views
pub mod Taken
pub mod Loops
