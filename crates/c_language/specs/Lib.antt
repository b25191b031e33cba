pub mod Alike
pub mod Groups
pub mod InC
pub mod Laws
pub mod Meaning
pub mod Plans
pub mod Runs
pub mod Working
