pub mod Along
pub mod Cells
pub mod ComingTo
mod Contests
mod Draws
pub mod Ending
pub mod Finding
pub mod Holding
pub mod Lists
pub mod Many
pub mod Moving
pub mod Numbers
pub mod Opening
mod ReadBack
mod SameTurns
pub mod Stopping
pub mod Turning
