pub mod Histories
pub mod Lines
pub mod Pieces
pub mod Refusals
pub mod Steps
pub mod Theory
pub mod Turns
pub mod Working
-- the definitions that public clauses cite
pub use Rattle.input_files.specs.Turns.{steps_of}
pub use Rattle.input_files.specs.Steps.{code_text, items_in, steps_fault_text}
pub use Rattle.input_files.specs.Histories.{history_in, lines_in, recorded_lines}
pub use Rattle.input_files.specs.Refusals.{history_fault_text}
