pub mod Marks
pub mod Instructions
pub mod Sections
pub mod Working
