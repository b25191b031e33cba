pub mod Painted
-- the definitions that public clauses cite
pub use Rattle.painting.specs.Painted.{painted}
