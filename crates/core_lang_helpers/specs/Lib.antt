pub mod Counts
pub mod Data
pub mod Depths
pub mod Faults
pub mod Graphs
pub mod Laws
pub mod Prints
pub mod Recursion
pub mod Working
pub use Rattle.core_lang_helpers.specs.Data.{IsSameBesides, IsExpanded}
-- the definitions that public clauses cite
pub use Rattle.core_lang_helpers.specs.Graphs.{body_of, graph_of, no_bodies, with_helper, with_section}
pub use Rattle.core_lang_helpers.specs.Faults.{IsGraphFault}
pub use Rattle.core_lang_helpers.specs.Working.FaultLists.{graph_faults}
pub use Rattle.core_lang_helpers.specs.Working.Laws.{ListedAreFaults, FaultsAreListed, EndlessReachRecursion}
pub use Rattle.core_lang_helpers.specs.Working.Laws.{FaultlessAreAtMostDeep, FaultlessBringFew, WithoutCallsNoRecursion}
pub use Rattle.core_lang_helpers.specs.Working.Laws.{FaultlessKeepLimits}
