pub mod BeginViews
pub mod Chains
pub mod CodeViews
mod Crossing
pub mod Depths
pub mod Jumps
pub mod Landing
pub mod Listed
pub mod Most
pub mod NeedViews
pub mod NothingTaken
pub mod Pieces
pub mod Statements
pub mod Steps
