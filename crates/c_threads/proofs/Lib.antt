pub mod Acquires
pub mod Addresses
pub mod Alone
pub mod Arrays
mod Beside
mod Calls
pub mod ClassRuns
mod Covered
mod Examples
mod Giving
mod Headline
mod InOrder
mod Lists
pub mod LockCalls
pub mod LockExamples
pub mod LockGiving
pub mod LockRuns
pub mod Loops
pub mod Members
pub mod Noting
mod Numbers
pub mod Orders
mod OutsideCalls
mod Pools
pub mod Roots
mod Runs
pub mod Same
pub mod Scripts
mod Shared
pub mod Standing
mod Stands
mod Steps
pub mod Taking
pub mod Texts
mod Turns
mod Waiting
pub mod Whole
mod Worlds
