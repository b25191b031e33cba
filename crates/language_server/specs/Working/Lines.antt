-- The held locks and the lines about them, by the values of the code.
use Rattle.std.specs.Prelude.{◌≡◌, ℕ, Bool, List, [], Vec, length, map, fold, slice_get, string_bytes, String, Some}
use Rattle.std.specs.BTreeSet.{BTreeSet, insert_key}
use Rattle.std.specs.Cmp.Lexicographic.{slice_cmp}
use Rattle.std.specs.List.{filter, range_with_len}
use Rattle.std.specs.Option.{option_map_or}
use Rattle.std.specs.Ordering.{nat_cmp}
use Rattle.std.proofs.Common.{Global}
use Rattle.core_lang.specs.declared.tree.Section.{Section}
use Rattle.code.specs.Working.NumberLists.{number_lists}
use Rattle.code.specs.Lowering.{lists_at}
use Rattle.flow.specs.Points.{Point, points}
use Rattle.locks.specs.declared.path_set.PathSet.{PathSet}
use Rattle.locks.specs.Sets.{has}
use Rattle.points.specs.declared.table.Points.{Points}
use Rattle.points.specs.Wanted.{AreSurelyHeld}
use Rattle.lowering.specs.Plans.{Plan}
use Rattle.language_server.specs.declared.named_section.NamedSection.{NamedSection}
use Rattle.language_server.specs.declared.statement_lines.Statement.{Statement}
use Rattle.language_server.specs.Held.{AreHeldLists, held_text, taken_text, held_line, line_if, point_lines, lines_of}

-- ---- held

-- the numbers below `many` that each of the sets has
abbrev pub numbers_of : ℕ → List PathSet → List (List ℕ)
numbers_of many sets = map (λ set. filter (has set) (range_with_len 0 many)) sets

-- the numbers of the lock paths that are surely held at each point
abbrev pub AreNumbersOf : Points → List ℕ → List (List ℕ) → Type 0
AreNumbersOf x ranks lists = (sets : List PathSet) × AreSurelyHeld x ranks sets × (lists ≡ numbers_of (length x.classes.items) sets)

-- the same for the program's section of this number
abbrev pub AreHeldAt : Plan → ℕ → List (List ℕ) → Type 0
AreHeldAt plan k lists =
    (section : Section) → slice_get plan.program.sections.items k ≡ Some section → AreHeldLists plan.program section plan.ranks lists

abbrev pub held_in : List (Vec (Vec ℕ Global) Global) → List (List (List ℕ))
held_in all = map (λ (lists : Vec (Vec ℕ Global) Global). number_lists lists.items) all

-- ---- lines

abbrev pub told_lines : BTreeSet (String Global) → List (List ℕ)
told_lines set = map string_bytes set.keys

-- the set after these lines are added
abbrev pub AddsLines : List (List ℕ) → BTreeSet (String Global) → BTreeSet (String Global) → Type 0
AddsLines lines old new = told_lines new ≡ fold (insert_key (slice_cmp nat_cmp)) (told_lines old) lines

-- the texts of the paths that are held in a section
abbrev pub held_text_of : NamedSection → List ℕ → List ℕ
held_text_of x list = held_text x.program.now x.section.now list

abbrev pub taken_text_of : NamedSection → List ℕ → List ℕ
taken_text_of x list = taken_text x.program.now x.section.now list

abbrev pub held_line_of : NamedSection → List ℕ → List ℕ → List ℕ
held_line_of x held taken = held_line x.program.now x.section.now held taken

abbrev pub line_if_of : NamedSection → Bool → List ℕ → List ℕ → List (List ℕ)
line_if_of x meant held taken = line_if x.program.now x.section.now meant held taken

abbrev pub point_lines_of : NamedSection → ℕ → List Point → List (List ℕ) → List (List ℕ) → List (List ℕ)
point_lines_of x start ps held taken = point_lines x.program.now x.section.now start ps held taken

-- the lines of the program's section of this number
abbrev pub lines_in : Plan → List (List (List ℕ)) → ℕ → ℕ → Section → List (List ℕ)
lines_in plan held start k section = point_lines plan.program section start (points section) (lists_at held k) (lists_at plan.lists k)

abbrev pub numbered_lines : Plan → List (List (List ℕ)) → ℕ → ℕ → List (List ℕ)
numbered_lines plan held start k = option_map_or (lines_in plan held start k) (slice_get plan.program.sections.items k) []

abbrev pub numbered_lines_of : Statement → ℕ → List (List ℕ)
numbered_lines_of x k = numbered_lines x.program.now (held_in x.held.now) x.start k

abbrev pub lines_of_statement : Statement → List (List ℕ)
lines_of_statement x = lines_of x.program.now (held_in x.held.now) x.start
