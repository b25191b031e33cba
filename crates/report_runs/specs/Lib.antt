pub mod Breaches
pub mod ExpectationCells
pub mod ExpectationLaws
pub mod ExpectationTexts
pub mod Names
pub mod Outcomes
pub mod Runs
pub mod Simulation
pub mod Sums
pub mod Trace
pub mod Working
-- the definitions that the public clauses cite
pub use Rattle.report_runs.specs.Runs.{Run, runs_text}
pub use Rattle.report_runs.specs.Simulation.{simulation_of}
pub use Rattle.report_runs.specs.Trace.{trace_text}
pub use Rattle.report_runs.specs.Names.{is_named, is_known, numbers_from, names_together, AreAsked, first_unknown, IsUnknownIn}
pub use Rattle.report_runs.specs.Outcomes.{outcomes_text, order_text, whole_cells_text}
pub use Rattle.outcomes.specs.Ends.{told_of}
pub use Rattle.report_runs.specs.ExpectationTexts.{said_of, meaning_of, Answers}
pub use Rattle.report_runs.specs.Sums.{holds}
pub use Rattle.report_runs.specs.ExpectationCells.{names_of, is_numeric, first_bad, IsResolved, IsBadAmong}
pub use Rattle.report_runs.specs.Breaches.{breach_in, expected_text}
pub use Rattle.report_runs.specs.ExpectationLaws.{HoldsInEveryOrder}
