pub mod Alike
pub mod Division
pub mod Fits
pub mod InC
pub mod InTurn
pub mod Plans
pub mod Runs
