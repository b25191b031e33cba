pub mod Joined
pub mod Types
pub mod Openings
pub mod Pools
pub mod Cells
pub mod Working
pub mod Theory
