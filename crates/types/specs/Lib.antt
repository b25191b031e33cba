pub mod Working
-- the definitions that public clauses cite
pub use Rattle.syntax.specs.Views.{tree_of}
pub use Rattle.syntax.specs.Returns.{ReturnsRight}
pub use Rattle.core_lang.specs.WellFormed.{IsChecked, IsWellFormed}
pub use Rattle.source.specs.Mistakes.{IsLeastOf}
pub use Rattle.resolution.specs.Working.Laws.{the_firsts}
pub use Rattle.resolution.specs.{Resolves, IsFault, IsRefusal, HasNoFault, DeclaresNoHelper}
pub use Rattle.types.specs.Working.ConstantValues.{arguments_of, argument_faults_of, calls_in}
pub use Rattle.types.specs.Working.DeclaredValues.{known, extended_of, members_added_of, members_faults_of}
pub use Rattle.types.specs.Working.DeclaredValues.{missing_faults_of}
