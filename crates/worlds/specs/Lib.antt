pub mod Asking
pub mod Worlds
pub mod Claims
pub mod Waiting
pub mod Working
pub mod Theory
-- the definitions that public clauses cite
pub use Rattle.worlds.specs.Worlds.{World, ThreadState, Activation, happens, final, trace}
pub use Rattle.worlds.specs.Claims.{Headline, EveryRunHasIt, KeepsTheRules, EveryWorldKeepsTheRules, OfScriptsRunAlike}
pub use Rattle.worlds.specs.Working.States.{IsSound, OpeningIsSound, StepsKeepSound}
pub use Rattle.worlds.specs.Waiting.{NobodyWaitsInACircle, SomeoneGoesOn, PendingRises, IsWait, WaitsAreForHolders}
pub use Rattle.worlds.specs.Waiting.{RisingHasNoCycle, RisingWaitsForHolders, RisingGoesOn}
pub use Rattle.worlds.specs.Waiting.{HasNext, AllHaveNext, InstructionsHaveTheirCase}
pub use Rattle.worlds.specs.Working.InTurn.{RiseBehind, AskedInTurn}
pub use Rattle.worlds.specs.Working.Ahead.{IsReadyWorld, WorldsStayReady}
pub use Rattle.worlds.specs.Working.InOrder.{IsInOrder, AreCellsOf, Suffices, SufficesFor, FitRoom, SectionsStayInOrder}
