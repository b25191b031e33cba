-- The warnings on lock classes that sections list and don't need.
use Rattle.std.specs.List.{list_any}
use Rattle.std.specs.Option.{option_map_or}
use Rattle.std.specs.Prelude.{ℕ, suc, ◌+◌, ◌==◌, Bool, true, false, List, [], ◌∷◌, ◌++◌, codes, slice_get}
use Rattle.core_lang.specs.declared.tree.Section as core
use Rattle.core_lang.specs.declared.typed.Typed.{Typed}
use Rattle.explanation.specs.Warnings.{Warning, unneeded_words}
use Rattle.locks.specs.LockPaths.{LockPath, lock_paths}
use Rattle.syntax.specs.Trees.{ClassName, Section, Decl, atomic}

-- the class has this number
abbrev pub is_of : ℕ → LockPath → Bool
is_of class path = path.class == class

-- one of the section's lock paths is of the class
abbrev pub is_needed : Typed → core.Section → ℕ → Bool
is_needed program section class = list_any (is_of class) (lock_paths program section)

-- S.l
abbrev pub class_words : ClassName → List ℕ
class_words c = c.structure.text ++ codes "." ++ c.lock.text

-- the warning on a listed class, at the name of its struct
abbrev pub listed_warning : ClassName → Warning
listed_warning c = record { start = c.structure.span.start; words = unneeded_words (class_words c) }

-- the warning on a listed class, unless it is needed
abbrev pub warning_unless : ClassName → Bool → List Warning
warning_unless c true = []
warning_unless c false = listed_warning c ∷ []

-- the warning on a class with this place in the section's list, if no lock path of the section is of it
abbrev pub class_warning : Typed → core.Section → ℕ → ClassName → List Warning
class_warning program section i c =
    option_map_or (λ (class : ℕ). warning_unless c (is_needed program section class)) (slice_get section.listed.items i) []

-- the same for each class from a place on
abbrev pub class_warnings : Typed → core.Section → ℕ → List ClassName → List Warning
class_warnings program section i [] = []
class_warnings program section i (c ∷ cs) = class_warning program section i c ++ class_warnings program section (suc i) cs

-- the warnings on the classes that a section lists, by the section's number in the program
abbrev pub section_warnings : Typed → ℕ → Section → List Warning
section_warnings program k s =
    option_map_or (λ (section : core.Section). class_warnings program section 0 s.listed) (slice_get program.sections.items k) []

-- the same for each section among the declarations, the first of which has the number k
abbrev pub listed_from : Typed → ℕ → List Decl → List Warning
listed_from program k [] = []
listed_from program k (atomic s ∷ ds) = section_warnings program k s ++ listed_from program (k + 1) ds
listed_from program k (d ∷ ds) = listed_from program k ds

-- the warnings on the listed classes of a program that has this tree
abbrev pub listed_warnings : Typed → List Decl → List Warning
listed_warnings program tree = listed_from program 0 tree
