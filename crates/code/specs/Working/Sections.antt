-- The lines of a section, as values of the code have them.
use Rattle.std.specs.Prelude.{ℕ, List, [], Option, Some, None}
use Rattle.std.specs.Borrow.{Bor}
use Rattle.code.specs.declared.instr.Instr.{Instr}
use Rattle.code.specs.declared.section_code.SectionCode.{SectionCode}
use Rattle.code.specs.declared.places.SectionPlaces.{SectionPlaces}
use Rattle.code.specs.declared.lines.SectionLines.{SectionLines}
use Rattle.code.specs.Listing.{paths_text, instrs_text}
use Rattle.code.specs.Working.Asked.{lists_of}
use Rattle.code.specs.Working.Naming.{HasPaths, asked_text, line_text}
use Rattle.code.specs.Working.Places.{table_text}
use Rattle.rope.specs.Working.Ropes.{RopeOf}

-- what precedes the instruction at a place: its position in the program's text, if positions are given
abbrev pub front_of : Option (Bor SectionPlaces) → SectionCode → ℕ → List ℕ
front_of None code place = []
front_of (Some places) code place = table_text places.now code.begins.items place

abbrev pub begins_of : SectionLines → List ℕ
begins_of x = x.listed.code.now.begins.items

-- the rope keeps the texts of the section's lock paths
abbrev pub HasPathsOf : SectionLines → RopeOf → Type 0
HasPathsOf x rope = HasPaths x.lister.now.program.now x.listed.section.now x.group rope

abbrev pub paths_text_of : SectionLines → List ℕ → List ℕ
paths_text_of x list = paths_text x.lister.now.program.now x.listed.section.now list

abbrev pub asked_text_of : SectionLines → Instr → List ℕ
asked_text_of x instr = asked_text x.lister.now.program.now x.listed.section.now (lists_of x.listed) instr

abbrev pub front_text_of : SectionLines → ℕ → List ℕ
front_text_of x place = front_of x.places x.listed.code.now place

abbrev pub line_text_of : SectionLines → ℕ → Instr → List ℕ
line_text_of x place instr =
    line_text x.lister.now.program.now x.listed.section.now (lists_of x.listed) (front_text_of x) place instr

abbrev pub instrs_text_of : SectionLines → List ℕ
instrs_text_of x =
    instrs_text x.lister.now.program.now x.listed.section.now (lists_of x.listed) (front_text_of x) 0
    x.listed.code.now.instructions.items
