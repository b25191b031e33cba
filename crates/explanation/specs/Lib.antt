pub mod CodePages
pub mod Explanation
pub mod Further
pub mod Json
pub mod Notes
pub mod Remedies
pub mod Shown
pub mod Warnings
pub mod Working
-- the definitions that public clauses cite
pub use Rattle.explanation.specs.Notes.{Note, note_of}
pub use Rattle.explanation.specs.Warnings.{Warning, warning_of, words_of}
pub use Rattle.explanation.specs.Explanation.{accepted_text, explanation_text}
pub use Rattle.explanation.specs.Working.Laws.{ShownByFirstBytes}
pub use Rattle.explanation.specs.Working.Values.{accepted_text_of, explanation_text_of}
pub use Rattle.explanation.specs.Json.{accepted_json, end_of, fault_json}
pub use Rattle.explanation.specs.Working.JsonLaws.{FaultByFirstBytes}
pub use Rattle.explanation.specs.Working.JsonValues.{accepted_json_of, fault_json_of, fault_words_of}
pub use Rattle.explanation.specs.CodePages.{page_text}
