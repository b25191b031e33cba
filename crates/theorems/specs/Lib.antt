pub mod ClosedRuns
pub mod EndsTold
pub mod Meanings
