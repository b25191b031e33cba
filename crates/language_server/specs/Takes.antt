-- The locks that are acquired before the statements of a program.
use Rattle.std.specs.Prelude.{◌≡◌, ℕ, List, [], ◌∷◌, ◌++◌, fold, codes}
use Rattle.std.specs.BTreeSet.{insert_key}
use Rattle.std.specs.Cmp.Lexicographic.{slice_cmp}
use Rattle.std.specs.List.{flat_map}
use Rattle.std.specs.Ordering.{nat_cmp, ordering_then}
use Rattle.std.specs.declared.cmp.Ordering.{Ordering}
use Rattle.source.specs.Faults.{line_of, column_of}
use Rattle.core_lang.specs.declared.tree.Section.{Section}
use Rattle.core_lang.specs.declared.typed.Typed.{Typed}
use Rattle.flow.specs.Points.{Point, points, start_of}
use Rattle.code.specs.LineTables.{position_text}
use Rattle.code.specs.Listing.{line, paths_text}
use Rattle.lowering.specs.Plans.{Plan}
use Rattle.report_check.specs.Check.{take_texts}

-- the start of a statement, and the locks that are acquired before it: `take` and lock paths
pub record Take : Type 0 where
  pub start : ℕ
  pub label : List ℕ

-- the take before a statement with this list of lock paths; none, where the list is empty
abbrev pub take_before : Typed → Section → ℕ → List ℕ → List Take
take_before program section start [] = []
take_before program section start (i ∷ is) =
    record { start = start; label = codes "take" ++ paths_text program section (i ∷ is) } ∷ []

-- the takes before points, each with its list
abbrev pub point_takes : Typed → Section → List Point → List (List ℕ) → List Take
point_takes program section [] lists = []
point_takes program section (p ∷ ps) [] = []
point_takes program section (p ∷ ps) (list ∷ lists) =
    take_before program section (start_of p) list ++ point_takes program section ps lists

-- the takes in sections, each with the lists of its points
abbrev pub section_takes : Typed → List Section → List (List (List ℕ)) → List Take
section_takes program [] lists = []
section_takes program (s ∷ ss) [] = []
section_takes program (s ∷ ss) (ls ∷ lists) = point_takes program s (points s) ls ++ section_takes program ss lists

-- the takes in a program
abbrev pub takes_of : Plan → List Take
takes_of plan = section_takes plan.program plan.program.sections.items plan.lists

-- ---- the order of the text

-- the order of the statements' starts; for one statement the order of the labels' bytes
abbrev pub compare : Take → Take → Ordering
compare a b = ordering_then (nat_cmp a.start b.start) (slice_cmp nat_cmp a.label b.label)

-- each take at its place in that order, once: a helper's statement occurs for each of the helper's calls
abbrev pub in_order : List Take → List Take
in_order takes = fold (insert_key compare) [] takes

-- ---- agreement with `check`

-- at LINE:COL LABEL
abbrev pub take_line : List ℕ → Take → List ℕ
take_line text take =
    line (codes "at " ++ position_text (line_of text take.start) (column_of text take.start) ++ codes " " ++ take.label)

-- the lines that `check` writes for points are the lines of their takes
abbrev pub AreTakesOfCheck : Type 0
AreTakesOfCheck =
    (text : List ℕ) (program : Typed) (section : Section) (ps : List Point) (lists : List (List ℕ)) →
    take_texts text program section ps lists ≡ flat_map (take_line text) (point_takes program section ps lists)
