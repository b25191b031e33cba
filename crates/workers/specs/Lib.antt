pub mod Answers
pub mod Delays
pub mod Logs
pub mod Seats
pub mod Seen
pub mod Working
-- the definitions that the public clauses cite
pub use Rattle.workers.specs.Delays.{delay}
