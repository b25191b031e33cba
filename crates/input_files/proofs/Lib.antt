pub mod Cuts
pub mod Named
pub mod Pieces
pub mod ReadingLemmas
