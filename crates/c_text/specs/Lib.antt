pub mod Fixed
pub mod Recording
pub mod Histories
pub mod Mains
pub mod Files
pub mod Working
-- the definitions that the public clauses cite
pub use Rattle.c_text.specs.Files.{Source, source_of, header_text, file_text}
