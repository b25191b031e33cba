pub mod Trees
pub mod Views
pub mod Grammar
pub mod Returns
pub mod Faults
pub mod Working
pub mod Theory
-- the definitions that public clauses cite
pub use Rattle.syntax.specs.Trees.{Decl}
pub use Rattle.syntax.specs.Views.{tree_of}
pub use Rattle.syntax.specs.Grammar.{HasTree}
pub use Rattle.syntax.specs.Returns.{ReturnsRight}
pub use Rattle.syntax.specs.Faults.{HasRightTree, IsMisplaced, IsRefusal, IsTooDeep, IsUnexpected}
pub use Rattle.syntax.specs.Working.Printing.{tree_text}
pub use Rattle.syntax.specs.Working.Bare.{HasTextOf, HasTextIfAny}
