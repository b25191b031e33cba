pub mod Distance
pub mod Locals
pub mod Sought
pub mod Members
pub mod NearNames
pub mod FirstBy
pub mod NameSpaces
pub mod MissingReturns
pub mod PassedMembers
pub mod TokensThere
pub mod NullMeant
pub mod Vars
pub mod Working
pub mod Theory
-- the definitions that public clauses cite
pub use Rattle.explanation_names.specs.NearNames.{CouldStand, IsNear, IsNearestOf}
pub use Rattle.explanation_names.specs.Working.Laws.{UnknownAreSought}
pub use Rattle.explanation_names.specs.Working.Values.{FoundNearest, NoneIsNear}
pub use Rattle.explanation_names.specs.Distance.{IsDistance}
