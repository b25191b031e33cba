pub mod Codes
pub mod Marked
pub mod Bodies
pub mod Prototypes
pub mod Releases
