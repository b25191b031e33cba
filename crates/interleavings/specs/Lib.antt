pub mod Coming
pub mod Drawn
pub mod Items
pub mod Rivals
pub mod ScheduleLaws
pub mod Schedules
pub mod Statuses
pub mod Threads
pub mod Working
pub use Rattle.interleavings.specs.Threads.{ThreadsOf, with_steps, StopsAtBegin, cell_in}
pub use Rattle.interleavings.specs.Statuses.{status_of}
pub use Rattle.interleavings.specs.Coming.{coming_to}
pub use Rattle.interleavings.specs.Items.{turns_of, turns_in}
pub use Rattle.input_files.specs.Turns.{steps_of}
-- the definitions that public clauses cite
pub use Rattle.interleavings.specs.Schedules.{AreOfThreads, counted_in, schedule_text}
pub use Rattle.interleavings.specs.Drawn.{drawn_items}
pub use Rattle.interleavings.specs.Rivals.{rivals_of}
