pub mod Advice
pub mod Around
pub mod Expected
pub mod Patterns
pub mod Told
pub mod Working
-- the definitions that public clauses cite
pub use Rattle.explanation_tokens.specs.Expected.{AreExpected, AreThose, AreTokenNotes, CanCome, IsTokenTold}
pub use Rattle.explanation_tokens.specs.Expected.{IsTrueTokenNote}
