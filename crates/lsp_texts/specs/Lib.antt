pub mod Classes
pub mod Declarations
pub mod DocumentSymbols
pub mod Edits
pub mod Extents
pub mod Lines
pub mod Links
pub mod Names
pub mod Positions
pub mod Ranges
pub mod Renames
pub mod Taken
pub mod Theory
pub mod Told
pub mod Working
-- the definitions that the public clauses cite
pub use Rattle.lsp_texts.specs.Edits.{AreEditsOf}
