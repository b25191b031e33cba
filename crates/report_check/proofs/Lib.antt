pub mod Listed
pub mod Uses
mod FirstHelpers
