pub mod Added
pub mod Calls
pub mod Counts
mod OneSeat
pub mod Orders
pub mod Owners
mod Quiet
pub mod Runs
mod Simulated
mod Told
mod Turns
