mod Cuts
pub mod Ends
pub mod Floats
pub mod Lines
