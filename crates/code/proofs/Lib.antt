pub mod Over
pub mod Alike
pub mod AlikeLaws
pub mod points
pub mod runs
pub mod Indexes
pub mod Counts
