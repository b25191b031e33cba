pub mod Statuses
pub mod Streams
pub mod Messages
pub mod Answers
pub mod Serial
pub mod Checks
pub mod Emissions
pub mod Explanations
pub mod Formats
pub mod Listings
pub mod OrderGraphs
pub mod Outcomes
pub mod Simulations
pub mod Traces
pub mod Replays
pub mod Schedules
pub mod ThreadRuns
pub mod Requests
pub mod Engines
pub mod Editors
pub mod Pages
pub mod Working
-- the definitions that the public clauses cite
pub use Rattle.driver.specs.Statuses.{exit_status}
pub use Rattle.driver.specs.Streams.{name_of, reader_of, left_in, reading_failed, writer_of, writing_failed, Writes, Tells}
pub use Rattle.driver.specs.Messages.{cannot_read, cannot_write, no_memory, strange}
pub use Rattle.compiler.specs.Programs.{Accepts}
pub use Rattle.driver.specs.Answers.{TextAnswers, OfOne, OfTwo}
pub use Rattle.driver.specs.Requests.{AloneAnswers, BesideAnswers}
pub use Rattle.driver.specs.Engines.{Serves, Reading, reading_of}
pub use Rattle.driver.specs.Pages.{ServesPage}
pub use Rattle.driver.specs.Editors.{IsServed}
