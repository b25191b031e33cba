-- The text that explains a fault, as values of the code have it.
use Rattle.std.specs.Prelude.{ℕ, List, map}
use Rattle.std.specs.List.{flat_map}
use Rattle.explanation.specs.declared.explanation.Acceptance.{Acceptance}
use Rattle.explanation.specs.declared.explanation.Explanation.{Explanation}
use Rattle.explanation.specs.declared.notes.Places.{Places}
use Rattle.explanation.specs.Explanation.{accepted_text, explanation_text}
use Rattle.explanation.specs.Further.{further_of, further_fault_text, further_text}
use Rattle.source.specs.declared.mistake.Mistake.{Mistake}
use Rattle.explanation.specs.Further as further
use Rattle.explanation.specs.Notes.{Note, labelled_text, note_of, note_text}
use Rattle.explanation.specs.Warnings.{Warning, warning_of, warning_text}

abbrev pub labelled_text_of : Places → ℕ → List ℕ → List ℕ → List ℕ
labelled_text_of x start label words = labelled_text label x.file.now x.text.now start words

abbrev pub note_text_of : Places → Note → List ℕ
note_text_of x note = note_text x.file.now x.text.now note

abbrev pub note_texts_of : Places → List Note → List ℕ
note_texts_of x notes = flat_map (note_text_of x) notes

abbrev pub warning_text_of : Places → Warning → List ℕ
warning_text_of x warning = warning_text x.file.now x.text.now warning

abbrev pub warning_texts_of : Places → List Warning → List ℕ
warning_texts_of x warnings = flat_map (warning_text_of x) warnings

abbrev pub further_fault_text_of : Places → Mistake → List ℕ
further_fault_text_of x fault = further_fault_text x.file.now x.text.now fault

abbrev pub further_fault_texts_of : Places → List Mistake → List ℕ
further_fault_texts_of x faults = flat_map (further_fault_text_of x) faults

abbrev pub further_text_of : Places → further.Further → List ℕ
further_text_of x told = further_text x.file.now x.text.now told

abbrev pub explanation_text_of : Explanation → List ℕ
explanation_text_of x = explanation_text x.file.now x.text.now x.fault.now (map note_of x.notes.now) (further_of x.further.now)

abbrev pub accepted_text_of : Acceptance → List ℕ
accepted_text_of x = accepted_text x.file.now x.text.now (map note_of x.notes.now) (map warning_of x.warnings.now)
