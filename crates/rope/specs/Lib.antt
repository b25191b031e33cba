pub mod Working
pub mod Theory
-- the definitions that public clauses cite
pub use Rattle.rope.specs.Working.Ropes.{RopeOf, rope_text, part_of, Grows, AddsTo}
