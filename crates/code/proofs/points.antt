-- The code of a section by its points.
pub mod Places
pub mod Results
pub mod Taken
pub mod Covered
pub mod Memories
pub mod Straight
pub mod Between
pub mod Needed
pub mod Numbers
pub mod Points
pub mod Exact
pub mod Numbered
pub mod Found
pub mod Once
pub mod NeverStuck
