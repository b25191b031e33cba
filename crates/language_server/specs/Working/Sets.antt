-- The takes that the code finds, as those of the definitions.
use Rattle.std.specs.Prelude.{◌≡◌, ℕ, List, [], String, Vec, map, fold, slice_get, string_bytes, Some}
use Rattle.std.specs.BTreeSet.{BTreeSet, insert_key}
use Rattle.std.specs.Option.{option_map_or}
use Rattle.std.proofs.Common.{Global}
use Rattle.core_lang.specs.declared.tree.Section.{Section}
use Rattle.core_lang.specs.declared.typed.Typed.{Typed}
use Rattle.code.specs.Listing.{paths_text, text_at}
use Rattle.code.specs.Lowering.{lists_at}
use Rattle.flow.specs.Points.{Point, points}
use Rattle.locks.specs.LockPaths.{lock_paths}
use Rattle.locks.specs.Texts.{path_text}
use Rattle.lowering.specs.Plans.{Plan}
use Rattle.language_server.specs.declared.named_section.NamedSection.{NamedSection}
use Rattle.language_server.specs.declared.takes.Take as of_code
use Rattle.language_server.specs.Takes.{Take, compare, take_before, point_takes}

-- a take, as a value of the code has it
abbrev pub told_by : of_code.Take → Take
told_by take = record { start = take.start; label = string_bytes take.label }

abbrev pub told_in : BTreeSet of_code.Take → List Take
told_in set = map told_by set.keys

-- the set after these takes are added
abbrev pub AddsTakes : List Take → BTreeSet of_code.Take → BTreeSet of_code.Take → Type 0
AddsTakes takes old new = told_in new ≡ fold (insert_key compare) (told_in old) takes

-- the text of a lock path of a section
abbrev pub path_text_of : NamedSection → ℕ → List ℕ
path_text_of x number = text_at (path_text x.program.now x.section.now) (lock_paths x.program.now x.section.now) number

abbrev pub listed_text : NamedSection → List ℕ → List ℕ
listed_text x list = paths_text x.program.now x.section.now list

abbrev pub take_before_of : NamedSection → ℕ → List ℕ → List Take
take_before_of x start list = take_before x.program.now x.section.now start list

abbrev pub point_takes_of : NamedSection → List Point → List (List ℕ) → List Take
point_takes_of x ps lists = point_takes x.program.now x.section.now ps lists

-- the takes of the program's section of this number
abbrev pub takes_in : Plan → ℕ → Section → List Take
takes_in plan k section = point_takes plan.program section (points section) (lists_at plan.lists k)

abbrev pub numbered_takes : Plan → ℕ → List Take
numbered_takes plan k = option_map_or (takes_in plan k) (slice_get plan.program.sections.items k) []

-- the texts of its lock paths
abbrev pub ArePathTexts : Typed → ℕ → Vec (String Global) Global → Type 0
ArePathTexts program k texts =
    (section : Section) → slice_get program.sections.items k ≡ Some section →
    map string_bytes texts.items ≡ map (path_text program section) (lock_paths program section)
