-- The text of `check`, as values of the code have it.
use Rattle.std.specs.Prelude.{◌≡◌, ℕ, List, [], ◌++◌, map, slice_get, codes, Option, Some, None, IfSome}
use Rattle.std.specs.Borrow.{Bor}
use Rattle.source.specs.Faults.{line_of, column_of}
use Rattle.core_lang.specs.declared.tree.Section.{Section}
use Rattle.core_lang.specs.declared.typed.Typed.{Typed}
use Rattle.flow.specs.declared.points.PointRef.{PointRef}
use Rattle.flow.specs.Working.PointList.{point_at}
use Rattle.inserter.specs.Placement.{lists_of, all_lists}
use Rattle.locks.specs.LockPaths.{lock_paths}
use Rattle.locks.specs.Texts.{path_text}
use Rattle.rope.specs.Working.Ropes.{RopeOf}
use Rattle.report_check.specs.declared.section_text.SectionText.{SectionText}
use Rattle.report_check.specs.declared.check.Check.{Check}
use Rattle.report_check.specs.declared.sources.Sources.{Sources}
use Rattle.code.specs.LineTables.{position_text}
use Rattle.code.specs.Listing.{paths_text}
use Rattle.report_check.specs.Check.{take_text, takes_by, section_by, sections_by, check_by, check_text}
use Rattle.report_check.specs.Sources.{in_helper, source_line, sourced_take_text, sourced_check_text}

-- the rope keeps the texts of the section's lock paths
abbrev pub HasPaths : SectionText → RopeOf → Type 0
HasPaths x rope = slice_get rope.groups x.group ≡ Some (map (path_text x.program.now x.section.now) (lock_paths x.program.now x.section.now))

abbrev pub taken_text_of : SectionText → List ℕ → List ℕ
taken_text_of x list = paths_text x.program.now x.section.now list

-- the helper that is written of a place, beside line and column, if sources are
abbrev pub helper_text_of : Option (Bor Sources) → ℕ → List ℕ
helper_text_of None start = []
helper_text_of (Some sources) start = in_helper sources.now.helpers.now start

abbrev pub line_text_of : Option (Bor Sources) → ℕ → List ℕ
line_text_of None start = []
line_text_of (Some sources) start = source_line sources.now.text.now start

-- the sources, if there are any, are of this text
abbrev pub AreOf : List ℕ → Option (Bor Sources) → Type 0
AreOf text sources = IfSome sources (λ (s : Bor Sources). s.now.text.now ≡ text)

abbrev pub at_text_of : List ℕ → Option (Bor Sources) → ℕ → List ℕ
at_text_of text sources start =
    codes "at " ++ position_text (line_of text start) (column_of text start) ++ helper_text_of sources start

-- the text of a point
abbrev pub take_by : Option (Bor Sources) → List ℕ → Typed → Section → ℕ → List ℕ → List ℕ
take_by None text program = take_text text program
take_by (Some sources) text program = sourced_take_text text sources.now.helpers.now program

abbrev pub take_text_of : List ℕ → SectionText → ℕ → List ℕ → List ℕ
take_text_of text x start list = take_by x.sources text x.program.now x.section.now start list

abbrev pub take_texts_of : List ℕ → SectionText → List PointRef → List ℕ
take_texts_of text x ps = takes_by (take_text_of text x) (map point_at ps) (lists_of x.lists.now)

abbrev pub section_text_of : List ℕ → SectionText → List ℕ
section_text_of text x = section_by (take_by x.sources text x.program.now) x.section.now (lists_of x.lists.now)

-- the texts of a program's sections
abbrev pub section_texts_of : Option (Bor Sources) → Check → List ℕ
section_texts_of sources x =
    sections_by (take_by sources x.text.now x.program.now) x.program.now.sections.items (all_lists x.placed.now)

abbrev pub told_text_of : Option (Bor Sources) → Check → List ℕ
told_text_of sources x =
    check_by (take_by sources x.text.now x.program.now) x.program.now x.ranks.now (all_lists x.placed.now)

abbrev pub check_text_of : Check → List ℕ
check_text_of x = check_text x.text.now x.program.now x.ranks.now (all_lists x.placed.now)

abbrev pub sourced_check_text_of : List Section → Check → List ℕ
sourced_check_text_of helpers x =
    sourced_check_text x.text.now helpers x.program.now x.ranks.now (all_lists x.placed.now)
