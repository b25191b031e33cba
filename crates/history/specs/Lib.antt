pub mod Commits
pub mod Working
pub use Rattle.code.specs.Memory.{overwritten, Agrees}
pub use Rattle.history.specs.Commits.{Commit, call_of, answer_of, finished_on, script_call, committed, IsLegal}
pub use Rattle.history.specs.Commits.{IsTrueCommit, AreTrue, WritesNot, NoneWrites}
pub use Rattle.history.specs.Working.Histories.{HistoryOf, PromisedOf, nothing_promised, with_promise, IsPromised}
pub use Rattle.history.specs.Working.Histories.{IsWithin}
