pub mod Manager
pub mod Working
pub mod Theory
pub use Rattle.lock_manager.specs.Manager.{SessionOf, Managed, session_of}
pub use Rattle.lock_manager.specs.Working.Sessions.{TicketOf, ReceiptOf, fresh, with_lock, with_ask}
pub use Rattle.lock_manager.specs.Working.Queues.{waiting_in, leaving, joining}
pub use Rattle.lock_manager.specs.Working.Managers.{place_of, waiting_for, holder_of, cell_of}
pub use Rattle.lock_manager.specs.Working.Managers.{opened, IsLayout, IsKept, askers_of}
pub use Rattle.lock_manager.specs.Working.Calls.{Begins, Knows, CanAsk, Answers, AreOf, AreItsGrants, Fits}
pub use Rattle.lock_manager.specs.Working.Calls.{CanRelease, Releases, GivesUp}
