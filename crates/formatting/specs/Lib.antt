pub mod Kinds
pub mod Pieces
pub mod Layout
pub mod Formatted
pub mod Working
-- the definitions that public clauses cite
pub use Rattle.formatting.specs.Formatted.{IsFormatted, IsProgram, HasFault, IsRefusal, IsRefusedAt, KeepsTokens}
