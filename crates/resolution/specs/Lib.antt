pub mod Core
pub mod CoreViews
pub mod Limits
pub mod Scopes
pub mod Numbers
pub mod Expressions
pub mod Statements
pub mod Constants
pub mod Typing
pub mod Annotations
pub mod Tables
pub mod Resolved
pub mod Where
pub mod Reasons
pub mod CallGraphs
pub mod Faults
pub mod FirstFaults
pub mod Working
pub mod Theory
-- the definitions that public clauses cite
pub use Rattle.resolution.specs.Resolved.{Resolves}
pub use Rattle.resolution.specs.Faults.{IsFault, IsFaultFor, IsRefusal, HasNoFault}
pub use Rattle.resolution.specs.Working.Laws.{TheLeastIsAFault, TheLeastHasItsReason, NoneGoesBeforeTheLeast, NoLeastIsNoFault}
pub use Rattle.resolution.specs.Working.Laws.{HaveAtMostOneLeast, FaultlessAreResolved, GraphOfResolved}
pub use Rattle.resolution.specs.Working.Laws.{ResolvedByRules, RulesAreResolved, StandsForOne}
pub use Rattle.resolution.specs.Working.Laws.{ResolvedAreChecked, DeclaresNoHelper, WithoutHelpersAreWellFormed}
pub use Rattle.resolution.specs.Working.Laws.{ExpressionsByRules, FoundAreAssigned, AssignedAreFound}
pub use Rattle.resolution.specs.Working.Laws.{StatementsByRules, BodiesByRules, SectionsByRules}
