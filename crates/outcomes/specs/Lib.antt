pub mod Commuting
pub mod Ends
pub mod Footprints
pub mod IndependenceLaws
pub mod Orders
pub mod Theory
pub mod Working
-- what the public clauses cite
pub use Rattle.outcomes.specs.Orders.{next_call, orders, calls_in}
pub use Rattle.outcomes.specs.Ends.{Left, EndsIn, Told, told_of, seen, TellsEveryEnd, AreAllEnds, AreEndsOfAll, AreDrawnEnds, Configuration}
pub use Rattle.outcomes.specs.Ends.{LeadsTo, AreAllConfigurations, HasConfigurations, HasSomeConfigurations, StopsAfter, Finds}
pub use Rattle.outcomes.specs.Working.Steps.{CanSearch}
pub use Rattle.outcomes.specs.Commuting.{Commute, AreIndependent}
pub use Rattle.outcomes.specs.IndependenceLaws.{OtherCellsChangeNothing, CallsApartCommute}
