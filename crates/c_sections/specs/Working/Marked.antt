-- Line marks, as values of the code have them. Nobody has to believe these.
use Rattle.std.specs.Prelude.{ℕ, List, Option, Some, None, option_map}
use Rattle.code.specs.declared.places.LineColumn.{LineColumn}
use Rattle.code.specs.declared.section_code.SectionCode.{SectionCode}
use Rattle.code.specs.Working.Places.{position_at}
use Rattle.c_sections.specs.declared.marks.LineMarks.{LineMarks}
use Rattle.c_sections.specs.Marks as text

abbrev pub line_of : LineColumn → ℕ
line_of p = p.line

-- the mark before the instruction at a place, given the places where points begin
abbrev pub mark_in : LineMarks → List ℕ → ℕ → List ℕ
mark_in x begins place =
    text.directive_if x.name.now (text.goes_on begins place) (option_map line_of (position_at x.places.now begins place))

-- the marks of a section's code, if its lines are marked
abbrev pub marks_of : Option LineMarks → SectionCode → Option (ℕ → List ℕ)
marks_of None made = None
marks_of (Some x) made = Some (mark_in x made.begins.items)
