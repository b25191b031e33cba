pub mod Codes
pub mod Commands
pub mod Unasked
pub mod Lines
-- the definitions that public clauses cite
pub use Rattle.driver_words.specs.Commands.{autolock}
pub use Rattle.driver_words.specs.Lines.{IsLineOf, IsRefused}
