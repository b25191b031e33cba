pub mod Places
pub mod Settling
pub mod Straight
pub mod Blocks
pub mod Ends
