-- What the texts of a section's instructions are, of values of the code.
use Rattle.std.specs.Prelude.{◌≡◌, ℕ, List, ◌++◌, map}
use Rattle.code.specs.declared.instr.Instr.{Instr}
use Rattle.code.specs.Listing.{text_at, paths_text, instr_text}
use Rattle.code.specs.Working.Naming.{asked_text}
use Rattle.code.specs.Working.Places.{table_text}
use Rattle.code.specs.Working.Asked.{lists_of}
use Rattle.locks.specs.LockPaths.{lock_path_of, lock_paths}
use Rattle.locks.specs.Texts.{path_text}
use Rattle.report_runs.specs.declared.instructions.SectionTeller.{SectionTeller}

-- the writer has the section's lock paths
abbrev pub HasPaths : SectionTeller → Type 0
HasPaths x = map lock_path_of x.listed.paths.now ≡ lock_paths x.program.now x.listed.section.now

abbrev pub path_told : SectionTeller → ℕ → List ℕ
path_told x i = text_at (path_text x.program.now x.listed.section.now) (lock_paths x.program.now x.listed.section.now) i

abbrev pub paths_told : SectionTeller → List ℕ → List ℕ
paths_told x list = paths_text x.program.now x.listed.section.now list

abbrev pub asked_told : SectionTeller → Instr → List ℕ
asked_told x instr = asked_text x.program.now x.listed.section.now (lists_of x.listed) instr

abbrev pub begins_of : SectionTeller → List ℕ
begins_of x = x.listed.code.now.begins.items

abbrev pub instr_told : SectionTeller → ℕ → Instr → List ℕ
instr_told x place instr =
    table_text x.places.now (begins_of x) place
    ++ instr_text x.program.now x.listed.section.now (lists_of x.listed) place instr

abbrev pub instr_at : SectionTeller → ℕ → List ℕ
instr_at x place = text_at (instr_told x place) x.listed.code.now.instructions.items place
