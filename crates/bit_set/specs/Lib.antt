pub mod Working
pub mod Theory
-- the definitions that public clauses cite
pub use Rattle.bit_set.specs.Working.Sets.{has_number}
