pub mod Placement
pub mod Working
pub use Rattle.inserter.specs.Placement.{IsPath, IsDue, GoesBefore, IsListBefore, AreLists, IsPlacement, lists_of}
pub use Rattle.inserter.specs.Placement.{all_lists}
pub use Rattle.inserter.specs.Working.Runs.{AreAllowed, IsListed, Asks, Keeps, Run}
pub use Rattle.inserter.specs.Working.Laws.{IsOrdered}
