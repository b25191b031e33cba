pub mod Accesses
pub mod Claims
pub mod LockClaims
pub mod Locking
pub mod Meanings
pub mod Outside
pub mod Threads
pub mod Working
-- the definitions that public clauses cite
pub use Rattle.c_threads.specs.Claims.{EveryRunIsOfWorlds, EveryRunInC, OutsideCallsRunInC}
pub use Rattle.c_threads.specs.Meanings.{SectionsMean, ThreadsMean}
pub use Rattle.c_threads.specs.LockClaims.{AcquireTextsAreOfStatements, EndTextsAreOfStatements, AcquiresTakeWhatIsAsked}
pub use Rattle.c_threads.specs.LockClaims.{CallsRise, ListedRootsStay, EndsGiveBackWhatIsHeld}
pub use Rattle.c_threads.specs.Working.Noted.{NotesStay}
pub use Rattle.c_threads.specs.Outside.{CallsMayComeFromOutside}
