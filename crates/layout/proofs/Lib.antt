pub mod Lists
pub mod Found
pub mod Numbered
pub mod Placed
pub mod Locked
pub mod Listed
pub mod Laid
