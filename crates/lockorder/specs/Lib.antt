pub mod Edges
pub mod Ranks
pub mod Faults
pub mod ClassPairs
pub mod Working
pub use Rattle.lockorder.specs.Edges.{Makes, MakesFirst, Edge, AreRanksOf, RiseIn}
pub use Rattle.lockorder.specs.Ranks.{IsRankList, AreRanks, Rise, IsCycle}
pub use Rattle.lockorder.specs.Faults.{cycle_text, IsFault, HasNoFault, IsFaultAtFirst, IsCycleOf, IsFaultOf, IsRefusal}
pub use Rattle.lockorder.specs.ClassPairs.{classes_of_pair, IsMadeFirst, AreClassPairs}
