-- the definitions that public clauses cite
pub mod Asking
pub mod Lines
pub mod Paragraphs
pub mod Telling
pub use Rattle.test_support.specs.Asking.{IsSerial, IsSimulate, looking}
pub use Rattle.test_support.specs.Paragraphs.{IsCase, HasNoWant}
pub use Rattle.test_support.specs.Telling.{IsTold}
unfoldable pub use Rattle.test_support.specs.Telling.{stop_text, case_text, totals_text}
-- the definitions that the public clauses cite
pub use Rattle.test_support.specs.Lines.{IsLineOf}
