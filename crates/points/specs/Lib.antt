pub mod Used
pub mod Wanted
pub mod Working
pub use Rattle.points.specs.Used.{IsUsedBefore, IsUsedLater}
pub use Rattle.points.specs.Wanted.{rank_of, IsWanted, IsTaken, IsSurelyHeld, AreWanted, AreSurelyHeld}
pub use Rattle.points.specs.Working.Points.{ArePoints, ArePointsOf, AreAllPointsOf, ArePairs, AreBoundLater}
