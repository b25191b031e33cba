pub mod CycleCalls
pub mod CycleNotes
pub mod ListedClasses
pub mod Names
pub mod OrderNotes
pub mod TextWarnings
pub mod Told
pub mod Warnings
pub mod Working
-- the definitions that the public clauses cite
pub use Rattle.explanations.specs.Warnings.{AreWarnings}
pub use Rattle.explanations.specs.TextWarnings.{AreTextWarnings}
pub use Rattle.explanations.specs.ListedClasses.{listed_warnings}
pub use Rattle.explanations.specs.CycleCalls.{cycle_calls}
pub use Rattle.explanations.specs.CycleNotes.{AreCycleNotes}
pub use Rattle.explanations.specs.OrderNotes.{AreOrderNotes}
