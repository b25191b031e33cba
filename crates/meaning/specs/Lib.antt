pub mod Working
-- the definitions that public clauses cite
pub use Rattle.meaning.specs.Working.Answer.{run_at, Answers, NoneIsBeyond, NoneIsBeyondIfTyped}
pub use Rattle.meaning.specs.Working.Laws.{AnswersStayTyped}
pub use Rattle.meaning.specs.Working.Undo.{Changed}
pub use Rattle.meaning.specs.Working.Halts.{Follows, Concludes}
pub use Rattle.meaning.specs.Working.Execution.{run_from}
