pub mod Programs
pub mod Cycles
pub mod Working
-- the definitions that public clauses cite
pub use Rattle.compiler.specs.Cycles.{IsBare, IsWrittenProgram, IsCyclic}
pub use Rattle.compiler.specs.Working.Orders.{IsOrdered}
pub use Rattle.compiler.specs.Programs.{HasFault, Accepts, IsOfFirstPass, IsRefusal}
pub use Rattle.core_lang.specs.WellFormed.{IsWellFormed}
pub use Rattle.lockpaths.specs.Paths.{ArePaths}
pub use Rattle.lockorder.specs.Edges.{AreRanksOf, RiseIn}
pub use Rattle.inserter.specs.Placement.{all_lists}
pub use Rattle.lowering.specs.Working.Lowered.{IsCodeOf}
pub use Rattle.lowering.specs.Plans.{Plan, IsCompiled}
